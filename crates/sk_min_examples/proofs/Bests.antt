-- The examples of costs and of the least completion, computed.
use Rattle.std.proofs.Common.{arith, refl, sym, ap, subst, ◌∙◌, None, Some, inl, inr, ◌⊎◌, ◌<◌, ◌≤◌, ◌-◌, All}
use Rattle.std.proofs.lemmas.Bool.{false≢true, true≢false}
use Rattle.std.proofs.lemmas.Grind.{common_steps}
use Rattle.std.specs.Prelude.{ℕ, zero, suc, List, [], ◌∷◌, ◌++◌, slice_get, take, ◌≡◌, true, false, IsTrue}
use Rattle.sk_model.specs.declared.expanded.Choice.{Choice}
use Rattle.sk_model.specs.declared.expanded.Pair.{Pair}
use Rattle.sk_model.specs.Fill.{fill}
use Rattle.sk_model.specs.Meets.{Breaks, cost_on}
use Rattle.sk_model.proofs.Layers.{all_layers}
use Rattle.sk_oblig_queries.specs.Queries.{IsWanted}
use Rattle.sk_loop_laws.specs.Honest.{inputs_of}
use Rattle.sk_min_costs.specs.Free.{is_free}
use Rattle.sk_min_laws.specs.Best.{Meeting, greatest_on, NoneBelow}
use Rattle.sk_min.specs.Least.{AllBreak, CostsLeast, IsLast, IsShort, IsLowered}
use Rattle.sk_min_examples.specs.Programs.{bounds, only, on, costly, pair}
use Rattle.sk_min_examples.specs.Paired.{two_pairs}
use Rattle.sk_min_examples.specs.Cheapest.{FreeExamples, GreatestExamples, BestExamples, ShortExamples, LimitExamples, AnswerExamples}
use Rattle.sk_min_examples.proofs.Lists.{of_two, last_of_two}
use Rattle.sk_min_examples.proofs.Costs.{F, cost, breaks_00, breaks_11, holds_10, holds_20, holds_21, holds_31, cost_10, cost_11, cost_20, cost_21, cost_30, cost_31, filled_input, same_choice, unmet_0, unmet_1, meeting_2, meeting_3, greatest_2, least_is, greatest_of_2, greatest_of_3, wanted_0, wanted_both, within_first, none_within}
use Rattle.sk_min_examples.proofs.Pairs.{honest_two}

-- Programs without costs

costly_is : is_free costly.prog ≡ false
costly_is = grind (arith, common_steps, all_layers)

pub free : FreeExamples
free = record {
  free = grind (arith, common_steps, all_layers);
  costly = costly_is;
  in_block = grind (arith, common_steps, all_layers);
  in_other = grind (arith, common_steps, all_layers);
  minrepeat = grind (arith, common_steps, all_layers);
  not_called = grind (arith, common_steps, all_layers);
}

-- Greatest costs

pub greatest : GreatestExamples
greatest = record {
  of_two = greatest_of_3;
  in_either_order = rw (cost_30, cost_31) refl;
  of_one = rw cost_30 refl;
  of_none = refl;
  of_failure = rw (cost_10, cost_11) refl;
}

-- Completions that cost least

pub best : BestExamples
best = record {
  meets = meeting_3;
  fails = λ m. unmet_1 m.meets;
  no_value = λ m. (let less = m.range.fits.0 in omega (arith, less));
  best = record { meeting = meeting_2; costs = greatest_2; least = least_is };
  costs_more = λ b. (let low : 4 ≤ 3 = b.least (only 2) meeting_2 3 greatest_2 in omega (arith, low));
  too_little = λ b. (let low = b.costs.greatest (on 1) (filled_input 2 1 (omega arith)) in omega (arith, low, cost_21));
  too_much = λ b. (let low : 4 ≤ 3 = b.least (only 2) meeting_2 3 greatest_2 in omega (arith, low));
  fails_best = λ b. unmet_1 b.meeting.meets;
  none_below = none_within;
  one_below = λ n. n (only 2) (wanted_both 2 3 (omega arith) holds_20 holds_21 (omega (arith, cost_20)) (omega (arith, cost_21)));
  below_on_one = λ n. n (only 2) (wanted_0 2 2 (omega arith) holds_20 (omega (arith, cost_20)));
  below_nothing = tt;
}

-- What is known where a budget is spent

-- the pairs of choices of which none meets all obligations
abbrev failing : List Pair
failing = pair 0 0 ∷ pair 1 1 ∷ []

abbrev AtLeast : List Pair → Choice → ℕ → Pair → Type 0
AtLeast pairs best i p = Meeting costly bounds p.choice → greatest_on costly bounds best (inputs_of pairs) ≤ greatest_on costly bounds p.choice (inputs_of pairs)

none_meets : CostsLeast costly bounds failing (only 3)
none_meets = record { each = of_two (AtLeast failing (only 3)) (pair 0 0) (pair 1 1) (λ m. absurd (unmet_0 m.meets)) (λ m. absurd (unmet_1 m.meets)) }

three_least : CostsLeast costly bounds two_pairs (only 3)
three_least = record { each = of_two (AtLeast two_pairs (only 3)) (pair 0 0) (pair 3 1) (λ m. absurd (unmet_0 m.meets)) (λ m. omega arith) }

less_known : CostsLeast costly bounds (pair 0 0 ∷ pair 2 1 ∷ []) (only 3) → ⊥
less_known c = (let low = c.each 1 (pair 2 1) refl meeting_2 in omega (arith, low, greatest_of_3, greatest_of_2))

-- of two pairs the last one's choice is the best one, or passes the first one's input within a limit
last_is : (p q : Pair) (best : Choice) (limit : ℕ) → IsLast costly bounds best (p.input ∷ []) limit q.choice → (front : List Pair) (r : Pair) → p ∷ q ∷ [] ≡ front ++ r ∷ [] → IsLast costly bounds best (inputs_of front) limit r.choice
last_is p q best limit h front r e =
    let is = last_of_two p q front r e in
    subst (λ f. IsLast costly bounds best (inputs_of f) limit r.choice) (sym is.0) (subst (λ r. IsLast costly bounds best (p.input ∷ []) limit r.choice) is.1 h)

lower : IsWanted costly bounds (on 0 ∷ []) (Some (greatest_on costly bounds (only 3) (on 0 ∷ on 1 ∷ []) - 1)) (only 1)
lower = wanted_0 1 _ (omega arith) holds_10 (omega (arith, cost_10, greatest_of_3))

pub three_short : IsShort costly bounds two_pairs (only 3)
three_short = record {
  meeting = meeting_3;
  least = three_least;
  more = omega (arith, greatest_of_3);
  last = last_is (pair 0 0) (pair 3 1) (only 3) _ (inl refl);
}

-- 3 does not pass 0 within 2
not_lower : IsLast costly bounds (only 2) (on 0 ∷ []) (greatest_on costly bounds (only 2) (on 0 ∷ on 1 ∷ []) - 1) (only 3) → ⊥
not_lower h = elim h [
  | inl same ↦ (let e : 3 ≡ 2 = same_choice 3 2 same in omega (arith, e))
  | inr w ↦ (let low = within_first 3 0 [] _ w in omega (arith, low, cost_30, greatest_of_2))
]

broke : (y x : ℕ) → Breaks (F y) bounds (on x) → Breaks (fill costly (pair y x).choice) bounds (pair y x).input
broke y x b = b

pub short : ShortExamples
short = record {
  none_meets = none_meets;
  less_known = less_known;
  last_is_best = three_short;
  last_is_lower = record { meeting = meeting_3; least = none_meets; more = omega (arith, greatest_of_3); last = last_is (pair 0 0) (pair 1 1) (only 3) _ (inr lower) };
  last_is_no_lower = λ s. not_lower (s.last (pair 0 0 ∷ []) (pair 3 1) refl);
  lower_known = λ s. less_known s.least;
  costs_nothing = λ s. (let more : 0 < 0 = s.more in omega (arith, more));
  meets_nothing = λ s. unmet_1 s.meeting.meets;
  all_break = record { each = of_two (λ i (p : Pair). Breaks (fill costly p.choice) bounds p.input) (pair 0 0) (pair 1 1) breaks_00 breaks_11 };
  one_costs = λ a. holds_31 (a.each 1 (pair 3 1) refl);
}

-- Limits

lowered : IsLowered costly bounds two_pairs (only 3) 3
lowered = record { some = omega (arith, greatest_of_3); is = omega (arith, greatest_of_3) }

pub limits : LimitExamples
limits = record {
  lowered = lowered;
  not_lowered = λ l. (let is = l.is in omega (arith, is, greatest_of_3));
  of_best = inl (refl, sym greatest_of_3);
  of_best_less = λ h. elim h [ inl is ↦ (let e = is.1 in omega (arith, e, greatest_of_3)) | inr other ↦ other.0 refl ];
  of_other = inr (λ same. (let e : 2 ≡ 3 = same_choice 2 3 same in omega (arith, e)), lowered);
  of_other_more = λ h. elim h [ inl is ↦ (let e : 2 ≡ 3 = same_choice 2 3 is.0 in omega (arith, e)) | inr other ↦ (let e = other.1.is in omega (arith, e, greatest_of_3)) ];
  of_next = lowered;
  without = λ h. h;
}

-- Answers

never_free : IsTrue (is_free costly.prog) → ◌≡◌ {A = ℕ} 3 0
never_free t = absurd (false≢true (sym costly_is ∙ t))

pub answers : AnswerExamples
answers = record {
  best = (honest_two, best.best, none_within, never_free, inr (omega arith));
  no_room = λ a. elim a.4 [ inl is ↦ (let e : 2 ≡ 0 = is in omega (arith, e)) | inr less ↦ (let l : 2 < 2 = less in omega (arith, l)) ];
  spent = (honest_two, record { some = omega arith; long = refl }, three_short);
  not_spent = λ a. (let long : 2 ≡ 3 = a.1.long in omega (arith, long));
  none_known = λ a. short.one_costs a.2;
  nothing = λ a. a.1.meets (only 2) meeting_2;
}
