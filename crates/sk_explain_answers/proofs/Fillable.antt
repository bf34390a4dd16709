-- What filling asks of the expansion of a program.
use Rattle.std.proofs.Common.{◌≡◌, ℕ, List, [], ◌∷◌, refl, sym, subst, arith, true}
use Rattle.std.specs.Prelude.{IsTrue, nat_lt}
use Rattle.std.proofs.lemmas.List.Elements.{All-head, All-tail}
use Rattle.std.proofs.lemmas.Bool.{lt-ltb, and_from}
use Rattle.sk_base.specs.declared.bounds.Bounds.{Bounds}
use Rattle.sk_prog.specs.declared.prog.Prog.{Prog}
use Rattle.sk_model.specs.declared.expanded.Expanded.{Expanded}
use Rattle.sk_model.specs.declared.expanded.Site.{Site}
use Rattle.sk_model.specs.declared.expanded.Choice.{Choice}
use Rattle.sk_model.specs.Expand.{expand}
use Rattle.sk_model.specs.Fill.{InRange, fill}
use Rattle.sk_expand_sites.specs.Small.{AreSmall}
use Rattle.sk_expand_sites.specs.Small.{IsSmall as IsSmallSite}
use Rattle.sk_expand_sites.specs.Needs.{HasItsSites, are_narrow}
use Rattle.sk_opts.specs.declared.line.Set.{Set}
use Rattle.sk_opts.specs.Ranges.{AreInRanges}
use Rattle.sk_front.specs.declared.expansion.Expansion.{Expansion}
use Rattle.sk_front.specs.Front.{Expands}
use Rattle.sk_explain_answers.specs.Fillings.{IsFillable, IsFilling, IsKnown, zeros}

has_its_sites : (e : Expanded) (p : Prog) (bounds : Bounds) → e ≡ expand p bounds → HasItsSites e
unfolding expand
has_its_sites e p bounds is = subst (λ x. HasItsSites x) (sym is) (record { bounds = bounds; listed = refl })

narrow_sites : (ss : List Site) → AreSmall ss → IsTrue (are_narrow ss)
narrow_sites [] h = refl
narrow_sites (s ∷ ss) h =
    let here : nat_lt s.size 4294967297 ≡ true = lt-ltb s.size 4294967297 (omega (arith, All-head IsSmallSite s ss h)) in
    and_from (nat_lt s.size 4294967297) (are_narrow ss) here (narrow_sites ss (All-tail IsSmallSite s ss h))

pub known_fillable : (text : List ℕ) (x : Expansion) → IsKnown text x → IsFillable x.expanded
known_fillable text x known =
    let most = known.expands.expanded_to.sites_fit in
    record {
      sites = has_its_sites x.expanded x.prog x.bounds known.expands.expanded_to.is;
      narrow = narrow_sites x.expanded.sites known.expands.narrow;
      few = omega (arith, most);
    }

pub known_ranges : (text : List ℕ) (x : Expansion) → IsKnown text x → AreInRanges x.bounds
known_ranges text x known = known.expands.ranges

pub known_is : (set : Set) (text : List ℕ) (x : Expansion) → Expands set text x → IsKnown text x
known_is set text x expands = record { set = set; expands = expands }

pub filling_is : (e : Expanded) (choice : Choice) (prog : Prog) → choice.values ≡ zeros e.sites → InRange e choice → prog ≡ fill e choice → IsFilling e prog
filling_is e choice prog zero range is = record { choice = choice; zero = zero; range = range; is = is }

pub ruleset known = (known_fillable, known_ranges)
