-- The best choice is the cheapest one known.
use Rattle.std.proofs.Common.{◌≡◌, inl, inr, ℕ, zero, suc, ◌<◌, ◌≤◌, ◌-◌, List, [], ◌∷◌, ◌++◌, Some, None, length, slice_get, sym, ap, ◌∙◌, arith}
use Rattle.std.proofs.lemmas.Bool.{cases_lt}
use Rattle.std.proofs.lemmas.Option.{none-some, same_Some}
use Rattle.std.proofs.lemmas.List.Elements.{All-weaker}
use Rattle.sk_base.specs.declared.bounds.Bounds.{Bounds}
use Rattle.sk_model.specs.declared.expanded.Choice.{Choice}
use Rattle.sk_model.specs.declared.expanded.Expanded.{Expanded}
use Rattle.sk_model.specs.declared.expanded.Pair.{Pair}
use Rattle.sk_model.specs.Fill.{fill}
use Rattle.sk_model.specs.Inputs.{IsInput}
use Rattle.sk_model.specs.Meets.{IsGreatestCost, Meets, cost_on}
use Rattle.sk_loop.specs.Formulas.{IsAskable}
use Rattle.sk_loop_laws.specs.Honest.{Grown, Honest, inputs_of}
use Rattle.sk_loop_laws.specs.Shown.{Completes}
use Rattle.sk_loop_laws.proofs.Lists.{get_front}
use Rattle.sk_loop_laws.proofs.Pairs.{honest_are_inputs}
use Rattle.sk_min_laws.specs.Best.{Meeting, greatest_on}
use Rattle.sk_min_laws.proofs.Greatest.{CostsAtMost, greatest_append, greatest_within}
use Rattle.sk_min.specs.Least.{CostsLeast}
use Rattle.sk_min.specs.Search.{IsCheapest, IsRaised, Lowers}
use Rattle.sk_min.proofs.Lists.{last_read}
use Rattle.sk_min.proofs.Raises.{costs_more}
use Rattle.sk_min.proofs.Lowers.{inputs_append}

-- a pair that stands before those that were added
at_front : (old new added : List Pair) (i : ℕ) (p : Pair) → new ≡ old ++ added → i < length old → slice_get new i ≡ Some p → slice_get old i ≡ Some p
at_front old new added i p behind near at = sym (get_front old added i near) ∙ ap (λ (ps : List Pair). slice_get ps i) (sym behind) ∙ at

module _ (e : Expanded) (bounds : Bounds) where
  -- the greatest cost does not fall when pairs are added
  greatest_later : (old new added : List Pair) (choice : Choice) → new ≡ old ++ added → greatest_on e bounds choice (inputs_of old) ≤ greatest_on e bounds choice (inputs_of new)
  greatest_later old new added choice behind =
      let on_all : greatest_on e bounds choice (inputs_of new) ≡ greatest_on e bounds choice (inputs_of old ++ inputs_of added) = ap (greatest_on e bounds choice) (ap inputs_of behind ∙ inputs_append old added) in
      let split = greatest_append e bounds choice (inputs_of old) (inputs_of added) in
      omega (arith, on_all, split)

  -- and is at least what the input of each pair costs
  costs_at : (pairs : List Pair) (i : ℕ) (p : Pair) (choice : Choice) → slice_get pairs i ≡ Some p → cost_on (fill e choice) bounds p.input ≤ greatest_on e bounds choice (inputs_of pairs)
  costs_at [] i p choice at = absurd (none-some p at)
  costs_at (q ∷ ps) zero p choice at =
      let same : cost_on (fill e choice) bounds q.input ≡ cost_on (fill e choice) bounds p.input = ap (λ (x : Pair). cost_on (fill e choice) bounds x.input) (same_Some q p at) in
      omega (arith, same)
  costs_at (q ∷ ps) (suc i) p choice at = let h = costs_at ps i p choice at in omega (arith, h)

  -- behind pairs of rounds below its greatest cost
  pub cheapest_grown : (old new : List Pair) (best : Choice) (value : ℕ) → IsAskable e bounds → Meeting e bounds best → IsGreatestCost (fill e best) bounds value → IsCheapest e bounds old best → Grown e bounds (Some (value - 1)) old new → IsCheapest e bounds new best
  cheapest_grown old new best value askable meeting greatest cheapest grown = record {
    each = λ i p at meets. elim (cases_lt i (length old)) [
      | inl near ↦ elim (cheapest.each i p (at_front old new grown.added i p grown.behind near at) meets) [
        | inl same ↦ inl same
        | inr low ↦ inr (λ input is. let h = low input is in let k = greatest_later old new grown.added p.choice grown.behind in omega (arith, h, k))
      ]
      | inr late ↦ inr (λ input is.
          let most : cost_on (fill e best) bounds input ≤ value = greatest.greatest input (((askable.met best meeting.range).inputs input).1 is) in
          let over = costs_more e bounds p.choice (value - 1) p.input askable meets (grown.rounds i p late at).bad in
          let there = costs_at new i p p.choice at in
          omega (arith, most, over, there))
    ];
  }

  -- behind a pair of its own
  pub cheapest_raised : (old new : List Pair) (best : Choice) (cost : ℕ) → IsCheapest e bounds old best → IsRaised e bounds best old new cost → IsCheapest e bounds new best
  cheapest_raised old new best cost cheapest r = record {
    each = λ i p at meets. elim (cases_lt i (length old)) [
      | inl near ↦ elim (cheapest.each i p (at_front old new (r.pair ∷ []) i p r.behind near at) meets) [
        | inl same ↦ inl same
        | inr low ↦ inr (λ input is. let h = low input is in let k = greatest_later old new (r.pair ∷ []) p.choice r.behind in omega (arith, h, k))
      ]
      | inr late ↦ inl (ap (λ (x : Pair). x.choice) (sym (last_read old r.pair p i late (ap (λ (ps : List Pair). slice_get ps i) (sym r.behind) ∙ at)).1) ∙ r.of_best)
    ];
  }

  -- where each pair's input breaks its choice, none of the choices meets all obligations
  pub cheapest_first : (new : List Pair) (best : Choice) → IsAskable e bounds → Grown e bounds None [] new → IsCheapest e bounds new best
  unfolding Meets
  cheapest_first new best askable grown = record {
    each = λ i p at meets.
        let bad = (grown.rounds i p (omega arith) at).bad in
        elim bad.bad [
          | inl breaks ↦ absurd (meets.meets p.input (((askable.met p.choice meets.range).inputs p.input).1 bad.is_input) breaks)
          | inr over ↦ absurd over
        ];
  }

  -- so it costs least on the inputs of the pairs
  pub costs_least : (pairs : List Pair) (best : Choice) → Honest e bounds pairs → IsCheapest e bounds pairs best → CostsLeast e bounds pairs best
  costs_least pairs best honest cheapest = record {
    each = λ i p at meets. elim (cheapest.each i p at meets) [
      | inl same ↦ (
          let costs : greatest_on e bounds p.choice (inputs_of pairs) ≡ greatest_on e bounds best (inputs_of pairs) = ap (λ (b : Choice). greatest_on e bounds b (inputs_of pairs)) same in
          omega (arith, costs))
      | inr low ↦ greatest_within e bounds best (inputs_of pairs) (greatest_on e bounds p.choice (inputs_of pairs))
          (All-weaker (IsInput e.prog bounds) (CostsAtMost e bounds best (greatest_on e bounds p.choice (inputs_of pairs))) low (inputs_of pairs) (honest_are_inputs e bounds pairs honest))
    ];
  }

  -- and one that costs less is cheaper
  pub cheapest_lower : (pairs : List Pair) (best next : Choice) (value : ℕ) → IsAskable e bounds → 0 < value → value ≡ greatest_on e bounds best (inputs_of pairs) → CostsLeast e bounds pairs best → Completes e bounds (Some (value - 1)) next → IsCheapest e bounds pairs next
  cheapest_lower pairs best next value askable some is least completes = record {
    each = λ i p at meets. inr (λ input there.
        let below : cost_on (fill e next) bounds input ≤ value - 1 = completes.within input (((askable.met next completes.range).inputs input).1 there) in
        let far = least.each i p at meets in
        omega (arith, below, far, is, some));
  }

  pub lowers : (best next : Choice) (value : ℕ) → 0 < value → IsGreatestCost (fill e best) bounds value → Completes e bounds (Some (value - 1)) next → Lowers e bounds best next
  lowers best next value some greatest completes = record {
    less = λ v w gv gw.
        let above : value ≤ v = elim greatest.reached [
          | inl z ↦ absurd (omega (arith, z, some))
          | inr r ↦ (let h : cost_on (fill e best) bounds r.0 ≤ v = gv.greatest r.0 r.1 in let k = r.2 in omega (arith, h, k))
        ] in
        let below : w ≤ value - 1 = elim gw.reached [
          | inl z ↦ omega (arith, z)
          | inr r ↦ (let h : cost_on (fill e next) bounds r.0 ≤ value - 1 = completes.within r.0 r.1 in let k = r.2 in omega (arith, h, k))
        ] in
        omega (arith, above, below, some);
  }
