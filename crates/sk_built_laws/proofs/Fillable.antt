-- What filling asks of the expansion of a program.
use Rattle.std.proofs.Common.{◌≡◌, List, [], ◌∷◌, refl, sym, subst, arith, true}
use Rattle.std.specs.Prelude.{IsTrue, nat_lt}
use Rattle.std.proofs.lemmas.List.Elements.{All-head, All-tail}
use Rattle.std.proofs.lemmas.Bool.{lt-ltb, and_from}
use Rattle.sk_base.specs.declared.bounds.Bounds.{Bounds}
use Rattle.sk_prog.specs.declared.prog.Prog.{Prog}
use Rattle.sk_model.specs.declared.expanded.Expanded.{Expanded}
use Rattle.sk_model.specs.declared.expanded.Site.{Site}
use Rattle.sk_model.specs.Expand.{expand}
use Rattle.sk_expand_sites.specs.Small.{AreSmall}
use Rattle.sk_expand_sites.specs.Small.{IsSmall as IsSmallSite}
use Rattle.sk_expand_sites.specs.Needs.{HasItsSites, are_narrow}

pub has_its_sites : (e : Expanded) (p : Prog) (bounds : Bounds) → e ≡ expand p bounds → HasItsSites e
unfolding expand
has_its_sites e p bounds is = subst (λ x. HasItsSites x) (sym is) (record { bounds = bounds; listed = refl })

pub narrow_sites : (ss : List Site) → AreSmall ss → IsTrue (are_narrow ss)
narrow_sites [] h = refl
narrow_sites (s ∷ ss) h =
    let here : nat_lt s.size 4294967297 ≡ true = lt-ltb s.size 4294967297 (omega (arith, All-head IsSmallSite s ss h)) in
    and_from (nat_lt s.size 4294967297) (are_narrow ss) here (narrow_sites ss (All-tail IsSmallSite s ss h))
