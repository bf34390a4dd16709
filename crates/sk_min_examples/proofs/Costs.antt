-- Which choices break on which input, and what they cost there.
use Rattle.std.proofs.Common.{arith, refl, sym, ap, subst, ◌∙◌, None, Some, ◌⊎◌, inl, inr, ◌≤◌, ◌<◌, ◌-◌, IfSome, All}
use Rattle.std.specs.Prelude.{ℕ, zero, suc, List, [], ◌∷◌, ◌≡◌, slice_get, Option, max}
use Rattle.std.proofs.lemmas.List.Elements.{All-head, All-tail, All-nil}
use Rattle.sk_base.specs.declared.span.Span.{Span}
use Rattle.sk_prog.specs.declared.prog.Prog.{Prog}
use Rattle.sk_prog.specs.declared.expr.PEForm.TheVariants as eform
use Rattle.sk_model.specs.declared.outcome.Outcome.TheVariants as outcome
use Rattle.sk_model.specs.declared.expanded.Choice.{Choice}
use Rattle.sk_model.specs.declared.expanded.Input.{Input}
use Rattle.sk_model.specs.Fill.{Fits, InRange, fill}
use Rattle.sk_model.specs.Inputs.{IsInput}
use Rattle.sk_model.specs.Meets.{HasFailed, Breaks, Meets, cost_of, cost_on, IsGreatestCost}
use Rattle.sk_model.specs.RunningExamples.{number, int}
use Rattle.sk_model.specs.Run.{run}
use Rattle.sk_oblig_queries.specs.Queries.{IsWanted}
use Rattle.sk_min_laws.specs.Best.{Meeting, greatest_on}
use Rattle.sk_min_examples.specs.Programs.{bounds, id, only, on, none, site, costing, costly, asserting, free}
use Rattle.sk_min_examples.proofs.Lists.{one_holds, two_hold, below_two, below_four}
use Rattle.sk_min_examples.proofs.Runs.{fills, fills_free, one, zero_on_0, zero_on_1, one_on_0, one_on_1, two_on_0, two_on_1, three_on_0, three_on_1, unset, is_set, input_is, its_input}

-- the filling by a value
abbrev pub F : ℕ → Prog
F y = fill costly (only y)

-- it does not break on an input
abbrev pub Holds : ℕ → ℕ → Type 0
Holds y x = Breaks (F y) bounds (on x) → ⊥

abbrev pub cost : ℕ → ℕ → ℕ
cost y x = cost_on (F y) bounds (on x)

broken : (y x : ℕ) (p : Span) → run (costing (number y)) (id 0) (one x) bounds ≡ outcome.Failed p → Breaks (F y) bounds (on x)
unfolding Breaks
broken y x p e =
    let here : Breaks (costing (number y)) bounds (on x) = subst HasFailed (sym e) tt in
    subst (λ q. Breaks q bounds (on x)) (sym (fills y)) here

whole : (y x c : ℕ) → run (costing (number y)) (id 0) (one x) bounds ≡ outcome.Done None [] c → Holds y x
unfolding Breaks
whole y x c e b =
    let here : Breaks (costing (number y)) bounds (on x) = subst (λ q. Breaks q bounds (on x)) (fills y) b in
    subst HasFailed e here

costs : (y x c : ℕ) → cost_of (run (costing (number y)) (id 0) (one x) bounds) ≡ c → cost y x ≡ c
unfolding cost_on
costs y x c e = ap (λ q. cost_on q bounds (on x)) (fills y) ∙ e

pub breaks_00 : Breaks (F 0) bounds (on 0)
breaks_00 = broken 0 0 _ zero_on_0

pub breaks_11 : Breaks (F 1) bounds (on 1)
breaks_11 = broken 1 1 _ one_on_1

pub holds_01 : Holds 0 1
holds_01 = whole 0 1 1 zero_on_1

pub holds_10 : Holds 1 0
holds_10 = whole 1 0 1 one_on_0

pub holds_20 : Holds 2 0
holds_20 = whole 2 0 2 two_on_0

pub holds_21 : Holds 2 1
holds_21 = whole 2 1 3 two_on_1

pub holds_30 : Holds 3 0
holds_30 = whole 3 0 3 three_on_0

pub holds_31 : Holds 3 1
holds_31 = whole 3 1 4 three_on_1

pub cost_00 : cost 0 0 ≡ 0
cost_00 = costs 0 0 0 (ap cost_of zero_on_0)

pub cost_01 : cost 0 1 ≡ 1
cost_01 = costs 0 1 1 (ap cost_of zero_on_1)

pub cost_10 : cost 1 0 ≡ 1
cost_10 = costs 1 0 1 (ap cost_of one_on_0)

pub cost_11 : cost 1 1 ≡ 0
cost_11 = costs 1 1 0 (ap cost_of one_on_1)

pub cost_20 : cost 2 0 ≡ 2
cost_20 = costs 2 0 2 (ap cost_of two_on_0)

pub cost_21 : cost 2 1 ≡ 3
cost_21 = costs 2 1 3 (ap cost_of two_on_1)

pub cost_30 : cost 3 0 ≡ 3
cost_30 = costs 3 0 3 (ap cost_of three_on_0)

pub cost_31 : cost 3 1 ≡ 4
cost_31 = costs 3 1 4 (ap cost_of three_on_1)

-- The program without costs

pub breaks_free : Breaks (fill free (only 0)) bounds none
unfolding Breaks
breaks_free =
    let here : Breaks (asserting (eform.Number 0)) bounds none = subst HasFailed (sym unset) tt in
    subst (λ q. Breaks q bounds none) (sym (fills_free 0)) here

pub holds_free : Breaks (fill free (only 1)) bounds none → ⊥
unfolding Breaks
holds_free b =
    let here : Breaks (asserting (eform.Number 1)) bounds none = subst (λ q. Breaks q bounds none) (fills_free 1) b in
    subst HasFailed is_set here

pub cost_free : cost_on (fill free (only 1)) bounds none ≡ 0
unfolding cost_on
cost_free = ap (λ q. cost_on q bounds none) (fills_free 1) ∙ ap cost_of is_set

-- Choices

-- a choice in range has one value below 4
pub in_range : (c : Choice) → InRange costly c → (y : ℕ) × (y < 4) × (c ≡ only y)
in_range c r = by c.values r.fits
  where
    by : (vs : List ℕ) → Fits (site 4 ∷ []) vs → (y : ℕ) × (y < 4) × (◌≡◌ {A = Choice} (record { values = vs }) (only y))
    by [] h = absurd h
    by (y ∷ []) h = (y, h.0, refl)
    by (y ∷ z ∷ zs) h = absurd h.1

pub same_choice : (x y : ℕ) → only x ≡ only y → x ≡ y
same_choice x y e =
    let values : x ∷ [] ≡ y ∷ [] = ap (λ (c : Choice). c.values) e in
    cc values

-- what holds of each value holds of each choice in range
pub each_choice : (P : Choice → Type 0) → P (only 0) → P (only 1) → P (only 2) → P (only 3) → (c : Choice) → InRange costly c → P c
each_choice P p q r s c range =
    let is = in_range c range in
    subst P (sym is.2) (below_four (λ y. P (only y)) p q r s is.0 is.1)

pub fits : (y : ℕ) → y < 4 → InRange costly (only y)
fits y h = record { fits = (h, tt) }

-- Inputs of fillings

pub filled_input : (y n : ℕ) → n < 2 → IsInput (F y) bounds (on n)
filled_input y n h = subst (λ q. IsInput q bounds (on n)) (sym (fills y)) (its_input (number y) n h)

-- what holds on both inputs holds on each
pub each_input : (y : ℕ) (P : Input → Type 0) → P (on 0) → P (on 1) → (i : Input) → IsInput (F y) bounds i → P i
each_input y P p q i h =
    let is = input_is (number y) i (subst (λ r. IsInput r bounds i) (fills y) h) in
    subst P (sym is.2) (below_two (λ n. P (on n)) p q is.0 is.1)

-- Obligations

meets : (y : ℕ) → Holds y 0 → Holds y 1 → Meets (F y) bounds
unfolding Meets
meets y p q = each_input y (λ i. Breaks (F y) bounds i → ⊥) p q

pub meets_2 : Meets (F 2) bounds
meets_2 = meets 2 holds_20 holds_21

pub meets_3 : Meets (F 3) bounds
meets_3 = meets 3 holds_30 holds_31

unmet : (y x : ℕ) → x < 2 → Breaks (F y) bounds (on x) → Meets (F y) bounds → ⊥
unfolding Meets
unmet y x h b m = m (on x) (filled_input y x h) b

pub unmet_0 : Meets (F 0) bounds → ⊥
unmet_0 = unmet 0 0 (omega arith) breaks_00

pub unmet_1 : Meets (F 1) bounds → ⊥
unmet_1 = unmet 1 1 (omega arith) breaks_11

pub meeting_2 : Meeting costly bounds (only 2)
meeting_2 = record { range = fits 2 (omega arith); meets = meets_2 }

pub meeting_3 : Meeting costly bounds (only 3)
meeting_3 = record { range = fits 3 (omega arith); meets = meets_3 }

-- Greatest costs

pub greatest_2 : IsGreatestCost (F 2) bounds 3
greatest_2 = record {
  greatest = each_input 2 (λ i. cost_on (F 2) bounds i ≤ 3) (omega (arith, cost_20)) (omega (arith, cost_21));
  reached = inr (on 1, filled_input 2 1 (omega arith), cost_21);
}

-- no choice that meets all obligations costs less than 3
pub least_is : (c : Choice) → Meeting costly bounds c → (v : ℕ) → IsGreatestCost (fill costly c) bounds v → 3 ≤ v
least_is c m v g = each_choice (λ c. Meets (fill costly c) bounds → IsGreatestCost (fill costly c) bounds v → 3 ≤ v)
    (λ m g. absurd (unmet_0 m))
    (λ m g. absurd (unmet_1 m))
    (λ m g. (let most = g.greatest (on 1) (filled_input 2 1 (omega arith)) in omega (arith, most, cost_21)))
    (λ m g. (let most = g.greatest (on 1) (filled_input 3 1 (omega arith)) in omega (arith, most, cost_31)))
    c m.range m.meets g

pub greatest_of_3 : greatest_on costly bounds (only 3) (on 0 ∷ on 1 ∷ []) ≡ 4
greatest_of_3 = rw (cost_30, cost_31) refl

pub greatest_of_2 : greatest_on costly bounds (only 2) (on 0 ∷ on 1 ∷ []) ≡ 3
greatest_of_2 = rw (cost_20, cost_21) refl

-- Choices that pass

-- within a limit, on 0 and on both
pub wanted_0 : (y most : ℕ) → y < 4 → Holds y 0 → cost y 0 ≤ most → IsWanted costly bounds (on 0 ∷ []) (Some most) (only y)
wanted_0 y most h p low = record {
  range = fits y h;
  passes = record { unbroken = one_holds (λ i. Breaks (F y) bounds i → ⊥) (on 0) p; within = one_holds (λ i. cost_on (F y) bounds i ≤ most) (on 0) low };
}

pub wanted_both : (y most : ℕ) → y < 4 → Holds y 0 → Holds y 1 → cost y 0 ≤ most → cost y 1 ≤ most → IsWanted costly bounds (on 0 ∷ on 1 ∷ []) (Some most) (only y)
wanted_both y most h p q low high = record {
  range = fits y h;
  passes = record { unbroken = two_hold (λ i. Breaks (F y) bounds i → ⊥) (on 0) (on 1) p q; within = two_hold (λ i. cost_on (F y) bounds i ≤ most) (on 0) (on 1) low high };
}

-- what a choice that passes does not do
pub unbroken_first : (y x : ℕ) (is : List Input) (limit : Option ℕ) → IsWanted costly bounds (on x ∷ is) limit (only y) → Holds y x
unbroken_first y x is limit w = All-head (λ i. Breaks (F y) bounds i → ⊥) (on x) is w.passes.unbroken

pub unbroken_second : (y x z : ℕ) (is : List Input) (limit : Option ℕ) → IsWanted costly bounds (on z ∷ on x ∷ is) limit (only y) → Holds y x
unbroken_second y x z is limit w = All-head (λ i. Breaks (F y) bounds i → ⊥) (on x) is (All-tail (λ i. Breaks (F y) bounds i → ⊥) (on z) (on x ∷ is) w.passes.unbroken)

pub within_first : (y x : ℕ) (is : List Input) (most : ℕ) → IsWanted costly bounds (on x ∷ is) (Some most) (only y) → cost y x ≤ most
within_first y x is most w = All-head (λ i. cost_on (F y) bounds i ≤ most) (on x) is w.passes.within

pub within_second : (y x z : ℕ) (is : List Input) (most : ℕ) → IsWanted costly bounds (on z ∷ on x ∷ is) (Some most) (only y) → cost y x ≤ most
within_second y x z is most w = All-head (λ i. cost_on (F y) bounds i ≤ most) (on x) is (All-tail (λ i. cost_on (F y) bounds i ≤ most) (on z) (on x ∷ is) w.passes.within)

-- none passes both inputs within 2
pub none_within : (c : Choice) → IsWanted costly bounds (on 0 ∷ on 1 ∷ []) (Some 2) c → ⊥
none_within c w = each_choice (λ c. IsWanted costly bounds (on 0 ∷ on 1 ∷ []) (Some 2) c → ⊥)
    (λ w. unbroken_first 0 0 _ _ w breaks_00)
    (λ w. unbroken_second 1 1 0 _ _ w breaks_11)
    (λ w. (let low = within_second 2 1 0 [] 2 w in omega (arith, low, cost_21)))
    (λ w. (let low = within_second 3 1 0 [] 2 w in omega (arith, low, cost_31)))
    c w.range w
