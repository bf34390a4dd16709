-- What `expand` answers can be filled.
use Rattle.std.proofs.Common.{◌≡◌, ◌≤◌, ℕ, List, [], ◌∷◌, length, refl, sym, ap, subst, ◌∙◌, arith}
use Rattle.std.specs.Prelude.{IsTrue, All, nat_lt, true, ◌&&◌}
use Rattle.std.proofs.lemmas.List.Elements.{All-head, All-tail}
use Rattle.std.proofs.lemmas.Bool.{lt-ltb, and_from}
use Rattle.sk_base.specs.declared.bounds.Bounds.{Bounds}
use Rattle.sk_prog.specs.declared.prog.Prog.{Prog}
use Rattle.sk_model.specs.declared.expanded.Site.{Site}
use Rattle.sk_model.specs.declared.expanded.Expanded.{Expanded}
use Rattle.sk_model.specs.Expand.{expand}
use Rattle.sk_model.specs.Limits.{most_sites}
use Rattle.sk_expand_sites.specs.Small.{IsSmall, AreSmall}
use Rattle.sk_expand_sites.specs.Needs.{HasItsSites, are_narrow}

pub has : (e : Expanded) (p : Prog) (bounds : Bounds) → e ≡ expand p bounds → HasItsSites e
unfolding expand
has e p bounds is = subst (λ x. HasItsSites x) (sym is) (record { bounds = bounds; listed = refl })

pub narrow : (ss : List Site) → AreSmall ss → IsTrue (are_narrow ss)
narrow [] h = refl
narrow (s ∷ ss) h =
    let here : nat_lt s.size 4294967297 ≡ true = lt-ltb s.size 4294967297 (omega (arith, All-head IsSmall s ss h)) in
    and_from (nat_lt s.size 4294967297) (are_narrow ss) here (narrow ss (All-tail IsSmall s ss h))

pub few : (e : Expanded) → length e.sites ≤ most_sites → length e.sites ≤ 4294967296
few e h = omega (arith, h)

pub ruleset fillable = (has, narrow, few)
