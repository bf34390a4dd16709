use Rattle.std.proofs.Common.{◌∙◌, ap, sym, subst, arith}
use Rattle.std.specs.Prelude.{not}
use Rattle.std.proofs.lemmas.Bool.{le-ltb}
use Rattle.sk_model.specs.Parts.{value}
use Rattle.sk_model.specs.Fill.{Fits}
use Rattle.sk_sym_state.specs.Meaning.{choice_at}
use Rattle.sk_sym_walk.proofs.pattern.is_at_most.Goals as goal

pub returns-then-saturating_sub-k-clause-value : goal.returns-then-saturating_sub-k-clause-value
returns-then-saturating_sub-k-clause-value c = λ g e l.
    let values = (choice_at c.args.setting.now e).values in
    let v = value values c.args.site in
    c.in_ok-r.ensures.value g l.grows e ∙ sym (ap not (le-ltb c.args.k v (omega (arith, c.size_of-size.ensures values (subst (λ sites. Fits sites values) (sym c.as_slice.ensures) l.range.fits)))))
