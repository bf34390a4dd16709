use Rattle.std.proofs.Common.{subst}
use Rattle.sk_model.specs.Open.{hole_value}
use Rattle.sk_sym_literals.specs.Given.{IsChosen}
use Rattle.sk_sym_state.specs.Meaning.{choice_at}
use Rattle.sk_sym_forms.proofs.Values.{chosen_evaluates}
use Rattle.sk_sym_forms.proofs.leaf.hole_here.Goals as goal

pub returns-clause-evaluates : goal.returns-clause-evaluates
returns-clause-evaluates c =
    let x = c.args.setting.now in
    chosen_evaluates c.requires.stands c.in_ok-r.ensures.keeps (subst (λ w. IsChosen c.hole_value.new.dag x.expanded.now (choice_at x) (λ a. hole_value a.values w c.args.ty c.args.site) c.in_ok-r.r) c.in_ok-width_is.ensures c.in_ok-r.ensures.chosen)
