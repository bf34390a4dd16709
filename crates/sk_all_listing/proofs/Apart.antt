-- Choices that agree where sites stand.
use Rattle.std.proofs.Common.{◌≡◌, ℕ, Bool, true, false, List, [], ◌∷◌, sym, subst, ◌∙◌}
use Rattle.std.specs.Prelude.{All, IsTrue, slice_index_or, if◌then◌else◌}
use Rattle.std.proofs.lemmas.List.Elements.{All-nil, All-head, All-tail, All-map, All-weaker}
use Rattle.sk_model.specs.declared.expanded.Choice.{Choice}
use Rattle.sk_model.specs.declared.expanded.Expanded.{Expanded}
use Rattle.sk_model.specs.Stands.{AgreeWhereStands, standing, sites_stand}
use Rattle.sk_holes_marks.proofs.SameMarks.{same_stands}
use Rattle.sk_all_exclusions.specs.declared.listed.Listed.{Listed}
use Rattle.sk_all_listing.specs.Order.{inserted, is_before}
use Rattle.sk_all_listing.specs.Completions.{AreApart, IsApart, choices_of}
use Rattle.sk_all_listing.specs.Rounds.{IsUnlisted}
use Rattle.sk_all_listing.proofs.Ordering.{all_inserted}

-- they agree where the sites of the second stand too
pub agree_back : (e : Expanded) (a b : List ℕ) → AgreeWhereStands e a b → AgreeWhereStands e b a
agree_back e a b h = record {
  agree = λ i s. sym (h.agree i (record { stands = subst (λ ss. IsTrue (slice_index_or (sites_stand ss) i false)) (same_stands e a b h) s.stands }));
}

-- what agrees with the second of two that agree, under which the same sites stand, agrees with the first
pub agree_over : (e : Expanded) (l c d : List ℕ) → AgreeWhereStands e l c → AgreeWhereStands e d c → sites_stand (standing e c) ≡ sites_stand (standing e d) → AgreeWhereStands e l d
agree_over e l c d lc dc marks = record {
  agree = λ i s.
      let in_c : IsTrue (slice_index_or (sites_stand (standing e c)) i false) = subst (λ ss. IsTrue (slice_index_or (sites_stand ss) i false)) (sym (same_stands e l c lc)) s.stands in
      let in_d : IsTrue (slice_index_or (sites_stand (standing e d)) i false) = subst (λ ms. IsTrue (slice_index_or ms i false)) marks in_c in
      lc.agree i s ∙ sym (dc.agree i (record { stands = in_d }));
}

-- a choice that no listed one agrees with is apart from all, and so is what it becomes with 0 where its sites do not stand
pub apart_all : (e : Expanded) (ls : List Listed) (c d : Choice) → IsUnlisted e ls d → AgreeWhereStands e d.values c.values → sites_stand (standing e c.values) ≡ sites_stand (standing e d.values) → All (IsApart e c) (choices_of ls)
apart_all e ls c d unlisted dc marks =
    let none : (l : Listed) → (AgreeWhereStands e l.choice.values d.values → ⊥) → IsApart e c l.choice = λ l no. record {
      first = λ cl. no (agree_over e l.choice.values c.values d.values (agree_back e c.values l.choice.values cl) dc marks);
      second = λ lc. no (agree_over e l.choice.values c.values d.values lc dc marks);
    } in
    All-map (IsApart e c) (λ (l : Listed). l.choice) ls (All-weaker (λ (l : Listed). AgreeWhereStands e l.choice.values d.values → ⊥) (λ (l : Listed). IsApart e c l.choice) none ls unlisted.none)

flipped : (e : Expanded) (c d : Choice) → IsApart e c d → IsApart e d c
flipped e c d h = record { first = h.second; second = h.first }

apart_if : (e : Expanded) (b : Bool) (one l : Listed) (ls : List Listed) → All (IsApart e one.choice) (choices_of (l ∷ ls)) → All (IsApart e l.choice) (choices_of ls) → AreApart e (choices_of ls) → AreApart e (choices_of (inserted one ls)) → AreApart e (choices_of (if b then one ∷ l ∷ ls else l ∷ inserted one ls))
apart_if e true one l ls all some apart more = (all, (some, apart))
apart_if e false one l ls all some apart more =
    (all_inserted (IsApart e l.choice) one ls (flipped e one.choice l.choice (All-head (IsApart e one.choice) l.choice (choices_of ls) all)) some, more)

pub apart_inserted : (e : Expanded) (one : Listed) (ls : List Listed) → All (IsApart e one.choice) (choices_of ls) → AreApart e (choices_of ls) → AreApart e (choices_of (inserted one ls))
apart_inserted e one [] all h = (All-nil (IsApart e one.choice), tt)
apart_inserted e one (l ∷ ls) all h =
    apart_if e (is_before one.choice.values l.choice.values) one l ls all h.0 h.1
    (apart_inserted e one ls (All-tail (IsApart e one.choice) l.choice (choices_of ls) all) h.1)
