-- What a text expands to can be filled, and queries of it can be put as formulas.
use Rattle.std.proofs.Common.{◌≡◌, ℕ, ◌<◌, ◌≤◌, ◌-◌, ◌^◌, List, [], ◌∷◌, length, refl, sym, subst, arith}
use Rattle.std.specs.Prelude.{IsTrue, nat_lt, true}
use Rattle.std.proofs.lemmas.List.Elements.{All-head, All-tail}
use Rattle.std.proofs.lemmas.Bool.{lt-ltb, and_from}
use Rattle.sk_base.specs.declared.bounds.Bounds.{Bounds}
use Rattle.sk_prog.specs.declared.prog.Prog.{Prog}
use Rattle.sk_model.specs.declared.expanded.Choice.{Choice}
use Rattle.sk_model.specs.declared.expanded.Site.{Site}
use Rattle.sk_model.specs.declared.expanded.Expanded.{Expanded}
use Rattle.sk_model.specs.Expand.{expand}
use Rattle.sk_model.specs.Fill.{InRange}
use Rattle.sk_model.specs.Limits.{most_nodes, most_sites}
use Rattle.sk_model.specs.Nodes.{nodes}
use Rattle.sk_model.specs.Sites.{sites}
use Rattle.sk_expand_sites.specs.Small.{IsSmall, AreSmall}
use Rattle.sk_expand_sites.specs.Needs.{HasItsSites, are_narrow}
use Rattle.sk_opts.specs.declared.line.Set.{Set}
use Rattle.sk_front.specs.declared.expansion.Expansion.{Expansion}
use Rattle.sk_front.specs.Front.{Expands}
use Rattle.sk_front_laws.proofs.Whole.{texts_keep, texts_fit}
use Rattle.sk_holes_choice_laws.specs.Meeting.{IsMetUnder}
use Rattle.sk_holes_choice_laws.proofs.Meeting.{choices_meet}
use Rattle.sk_oblig.specs.Formulas.{IsAskable}

pub listed : (e : Expanded) (p : Prog) (bounds : Bounds) → e ≡ expand p bounds → e.sites ≡ sites bounds e.prog
unfolding expand
listed e p bounds is = subst (λ x. x.sites ≡ sites bounds x.prog) (sym is) refl

pub sited : (e : Expanded) (bounds : Bounds) → e.sites ≡ sites bounds e.prog → HasItsSites e
sited e bounds is = record { bounds = bounds; listed = is }

pub narrow : (ss : List Site) → AreSmall ss → IsTrue (are_narrow ss)
narrow [] h = refl
narrow (s ∷ ss) h =
    let here : nat_lt s.size 4294967297 ≡ true = lt-ltb s.size 4294967297 (omega (arith, All-head IsSmall s ss h)) in
    and_from (nat_lt s.size 4294967297) (are_narrow ss) here (narrow ss (All-tail IsSmall s ss h))

pub few : (e : Expanded) → length e.sites ≤ most_sites → length e.sites ≤ 4294967296
few e h = omega (arith, h)

-- its obligations under a choice in range are those of the filling
met : (set : Set) (text : List ℕ) (x : Expansion) → Expands set text x → (a : Choice) → InRange x.expanded a → IsMetUnder x.expanded a x.bounds
met set text x h a range =
    let to = h.expanded_to in
    let most : nodes (expand x.prog x.bounds).prog ≤ 262144 = subst (λ z. nodes z.prog ≤ most_nodes) to.is to.nodes_fit in
    let small : nodes (expand x.prog x.bounds).prog < 2 ^ 64 = omega (arith, most) in
    subst (λ z. InRange z a → IsMetUnder z a x.bounds) (sym to.is)
    (λ r. choices_meet x.bounds x.prog a (record {
      typed = texts_keep set text x.tree x.bounds x.prog to.typed;
      fits = texts_fit set text x.tree x.bounds x.prog to.typed;
      small = small;
      range = r;
    }))
    range

pub askable : (set : Set) (text : List ℕ) (x : Expansion) → Expands set text x → IsAskable x.expanded x.bounds
askable set text x h = record {
  sites = sited x.expanded x.bounds (listed x.expanded x.prog x.bounds h.expanded_to.is);
  narrow = narrow x.expanded.sites h.narrow;
  low = h.ranges.int_bits.0;
  high = h.ranges.int_bits.1;
  inbits = h.ranges.inbits_fit;
  met = met set text x h;
}

-- what is askable can be filled
pub sites_of : (e : Expanded) (bounds : Bounds) → IsAskable e bounds → HasItsSites e
sites_of e bounds h = h.sites

pub narrow_of : (e : Expanded) (bounds : Bounds) → IsAskable e bounds → IsTrue (are_narrow e.sites)
narrow_of e bounds h = h.narrow

pub ruleset fillable = (listed, narrow, few, askable)

pub ruleset asked = (sites_of, narrow_of)
