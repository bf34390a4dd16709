-- The examples of pairs, of inputs and of budgets, computed.
use Rattle.std.proofs.Common.{arith, refl, sym, ap, subst, ◌∙◌, None, Some, inl, inr, ◌<◌, ◌≤◌, All}
use Rattle.std.proofs.lemmas.Bool.{false≢true}
use Rattle.std.proofs.lemmas.List.Elements.{All-nil, All-head}
use Rattle.std.proofs.lemmas.Option.{none-some, same_Some}
use Rattle.std.specs.Prelude.{ℕ, zero, suc, List, [], ◌∷◌, ◌++◌, length, slice_get, take, ◌≡◌, ◌↔◌, Contains}
use Rattle.sk_prog.specs.declared.expr.PEForm.TheVariants as eform
use Rattle.sk_prog.specs.declared.expr.PExpr.{PExpr}
use Rattle.sk_model.specs.declared.expanded.Choice.{Choice}
use Rattle.sk_model.specs.declared.expanded.Input.{Input}
use Rattle.sk_model.specs.declared.expanded.Pair.{Pair}
use Rattle.sk_model.specs.Fill.{fill}
use Rattle.sk_model.specs.Inputs.{IsInput}
use Rattle.sk_model.specs.Meets.{Breaks, cost_on}
use Rattle.sk_model.specs.RunningExamples.{int}
use Rattle.sk_oblig_queries.specs.Queries.{IsWanted}
use Rattle.sk_loop_laws.specs.Honest.{inputs_of, IsHonest, Honest, IsRound, Grown}
use Rattle.sk_loop_laws.specs.Laws.{AreAllInputs}
use Rattle.sk_loop_laws.specs.Shown.{Completes, NonePasses}
use Rattle.sk_min_examples.specs.Programs.{bounds, only, on, none, costly, free, pair}
use Rattle.sk_min_examples.specs.Paired.{CountExamples, HonestExamples, RoundExamples, CompletionExamples, QueryExamples, BudgetExamples, two_pairs}
use Rattle.sk_min_examples.proofs.Lists.{one_holds, of_none, of_one, of_two, same_first, below_two}
use Rattle.sk_min_examples.proofs.Runs.{on_0, on_1, input_is, same_on, below}
use Rattle.sk_min_examples.proofs.Costs.{F, cost, breaks_00, breaks_11, holds_01, holds_10, holds_20, holds_21, holds_30, holds_31, holds_free, cost_free, cost_00, cost_01, cost_11, cost_20, cost_21, cost_30, cost_31, each_choice, fits, filled_input, each_input, meets_2, meets_3, unmet_0, unmet_1, wanted_0, wanted_both, within_first, within_second, none_within}

abbrev hole : PExpr
hole = int (eform.Hole None)

-- Inputs

contains_each : (x : Input) → IsInput costly.prog bounds x → Contains (on 0 ∷ on 1 ∷ []) x
contains_each x h =
    let is = input_is hole x h in
    subst (Contains (on 0 ∷ on 1 ∷ [])) (sym is.2) (below_two (λ n. Contains (on 0 ∷ on 1 ∷ []) (on n)) (0, omega arith, refl) (1, omega arith, refl) is.0 is.1)

each_contained : (x : Input) → Contains (on 0 ∷ on 1 ∷ []) x → IsInput costly.prog bounds x
each_contained x (zero, less, is) = subst (IsInput costly.prog bounds) is (on_0 _)
each_contained x (suc zero, less, is) = subst (IsInput costly.prog bounds) is (on_1 _)
each_contained x (suc (suc k), less, is) = absurd (omega (arith, less))

apart : {A : Type 0} → on 0 ≡ on 1 → A
apart e = (let same : 0 ≡ 1 = same_on 0 1 e in absurd (omega (arith, same)))

listed_once : (i j : ℕ) (x : Input) → slice_get (on 0 ∷ on 1 ∷ []) i ≡ Some x → slice_get (on 0 ∷ on 1 ∷ []) j ≡ Some x → i ≡ j
listed_once zero zero x a b = refl
listed_once (suc zero) (suc zero) x a b = refl
listed_once zero (suc zero) x a b = apart (same_Some (on 0) x a ∙ sym (same_Some (on 1) x b))
listed_once (suc zero) zero x a b = apart (same_Some (on 0) x b ∙ sym (same_Some (on 1) x a))
listed_once (suc (suc i)) j x a b = absurd (none-some x a)
listed_once i (suc (suc j)) x a b = absurd (none-some x b)

pub counts : CountExamples
counts = record {
  both = refl;
  two_roles = refl;
  grid = refl;
  no_parameters = refl;
  of_reference = refl;
  nothing_asked = refl;
  listed = record { long = refl; each = λ x. (contains_each x, each_contained x); once = listed_once };
  one_lacks = λ a. (let long : 1 ≡ 2 = a.long in omega (arith, long));
  one_twice = λ a. (let long : 3 ≡ 2 = a.long in omega (arith, long));
  one_too_great = λ a. (let less : 2 < 2 = below hole 2 ((a.each (on 2)).1 (1, omega arith, refl)) in omega (arith, less));
}

-- Honest pairs

-- the first pair breaks its choice, and so is honest
first_honest : IsHonest costly bounds [] (pair 0 0)
first_honest = record { range = fits 0 (omega arith); is_input = on_0 _; unbroken = All-nil (λ i. Breaks (F 0) bounds i → ⊥); speaks = inl breaks_00 }

pub honest_two : Honest costly bounds two_pairs
honest_two = record {
  each = of_two (λ i p. IsHonest costly bounds (inputs_of (take i two_pairs)) p) (pair 0 0) (pair 3 1) first_honest (record {
    range = fits 3 (omega arith);
    is_input = on_1 _;
    unbroken = one_holds (λ i. Breaks (F 3) bounds i → ⊥) (on 0) holds_30;
    speaks = inr (record { more = omega (arith, cost_31); each = one_holds (λ i. cost_on (F 3) bounds i < cost_on (F 3) bounds (on 1)) (on 0) (omega (arith, cost_30, cost_31)) });
  });
}

abbrev failing : List Pair
failing = pair 0 0 ∷ pair 1 1 ∷ []

-- the second of two pairs is honest beside the first
second : (y x z w : ℕ) → Honest costly bounds (pair y x ∷ pair z w ∷ []) → IsHonest costly bounds (on x ∷ []) (pair z w)
second y x z w h = h.each 1 (pair z w) refl

no_less : (x : ℕ) (c : ℕ) → cost 3 1 ≡ 4 → cost 3 x ≡ c → c ≤ 4 → (Breaks (F 3) bounds (on x) → ⊥) → IsHonest costly bounds (on 1 ∷ []) (pair 3 x) → ⊥
no_less x c first is low holds h = elim h.speaks [
  | inl breaks ↦ holds breaks
  | inr more ↦
      let less = All-head (λ i. cost_on (F 3) bounds i < cost_on (F 3) bounds (on x)) (on 1) [] more.each in
      omega (arith, less, first, is, low)
]

pub honest : HonestExamples
honest = record {
  empty = record { each = of_none (λ i p. IsHonest costly bounds (inputs_of (take i [])) p) };
  both_fail = record {
    each = of_two (λ i p. IsHonest costly bounds (inputs_of (take i failing)) p) (pair 0 0) (pair 1 1) first_honest (record {
      range = fits 1 (omega arith);
      is_input = on_1 _;
      unbroken = one_holds (λ i. Breaks (F 1) bounds i → ⊥) (on 0) holds_10;
      speaks = inl breaks_11;
    });
  };
  costs_more = honest_two;
  costs_less = λ h. no_less 0 3 cost_31 cost_30 (omega arith) holds_30 (second 3 1 3 0 h);
  costs_as_much = λ h. no_less 1 4 cost_31 cost_31 (omega arith) holds_31 (second 3 1 3 1 h);
  costs_nothing = λ h. (let first = h.each 0 (record { choice = only 1; input = none }) refl in elim first.speaks [ inl breaks ↦ holds_free breaks | inr costs ↦ (let more = costs.more in omega (arith, more, cost_free)) ]);
  broken_before = λ h. All-head (λ i. Breaks (F 0) bounds i → ⊥) (on 0) [] (second 0 0 0 1 h).unbroken breaks_00;
  no_value = λ h. (let less = (h.each 0 (pair 4 1) refl).range.fits.0 in omega (arith, less));
  no_input = λ h. (let less = below hole 2 (h.each 0 (pair 2 2) refl).is_input in omega (arith, less));
  inputs = refl;
}

-- Rounds

a_round : IsRound costly bounds (Some 3) (on 0 ∷ []) (pair 3 1)
a_round = record { wanted = wanted_0 3 3 (omega arith) holds_30 (omega (arith, cost_30)); bad = record { is_input = on_1 _; bad = inr (omega (arith, cost_31)) } }

round_at : (i : ℕ) (p : Pair) → 1 ≤ i → slice_get two_pairs i ≡ Some p → IsRound costly bounds (Some 3) (inputs_of (take i two_pairs)) p
round_at zero p low at = absurd (omega (arith, low))
round_at (suc zero) p low at = subst (IsRound costly bounds (Some 3) (on 0 ∷ [])) (same_Some (pair 3 1) p at) a_round
round_at (suc (suc i)) p low at = absurd (none-some p at)

none_behind : (i : ℕ) (p : Pair) → 1 ≤ i → slice_get (pair 3 0 ∷ []) i ≡ Some p → IsRound costly bounds (Some 2) (inputs_of (take i (pair 3 0 ∷ []))) p
none_behind zero p low at = absurd (omega (arith, low))
none_behind (suc i) p low at = absurd (none-some p at)

over_before : IsRound costly bounds (Some 2) (on 0 ∷ []) (pair 3 1) → ⊥
over_before r = (let low = within_first 3 0 [] 2 r.wanted in omega (arith, low, cost_30))

pub rounds : RoundExamples
rounds = record {
  within = a_round;
  over_before = over_before;
  unlimited = λ r. elim r.bad.bad [ inl breaks ↦ holds_31 breaks | inr over ↦ over ];
  grown = record { added = pair 3 1 ∷ []; behind = refl; rounds = round_at };
  other_front = λ g. apart (ap (λ (p : Pair). p.input) (same_first (pair 0 0) (pair 1 1) (pair 3 1 ∷ []) g.added g.behind));
  no_round = λ g. over_before (g.rounds 1 (pair 3 1) (omega arith) refl);
  old_stands = record { added = []; behind = refl; rounds = none_behind };
}

-- Completions

none_completes : (c : Choice) → Completes costly bounds (Some 2) c → ⊥
none_completes c done = each_choice (λ c. Completes costly bounds (Some 2) c → ⊥)
    (λ d. unmet_0 d.meets)
    (λ d. unmet_1 d.meets)
    (λ d. (let low = d.within (on 1) (filled_input 2 1 (omega arith)) in omega (arith, low, cost_21)))
    (λ d. (let low = d.within (on 1) (filled_input 3 1 (omega arith)) in omega (arith, low, cost_31)))
    c done.range done

pub completions : CompletionExamples
completions = record {
  within = record { range = fits 2 (omega arith); meets = meets_2; within = each_input 2 (λ i. cost_on (F 2) bounds i ≤ 3) (omega (arith, cost_20)) (omega (arith, cost_21)) };
  over = λ c. (let low = c.within (on 1) (filled_input 2 1 (omega arith)) in omega (arith, low, cost_21));
  unlimited = record { range = fits 3 (omega arith); meets = meets_3; within = tt };
  fails = λ c. unmet_1 c.meets;
  no_value = λ c. (let less = c.range.fits.0 in omega (arith, less));
  none_passes = record { passes = none_within; completes = none_completes };
  one_passes = λ n. n.passes (only 2) (wanted_0 2 2 (omega arith) holds_20 (omega (arith, cost_20)));
}

-- Queries

pub queries : QueryExamples
queries = record {
  wanted = refl;
  other_order = λ e. apart (sym (same_first (on 1) (on 0) (on 0 ∷ []) (on 1 ∷ []) e));
  bad = wanted_both 3 4 (omega arith) holds_30 holds_31 (omega (arith, cost_30)) (omega (arith, cost_31));
  not_wanted = λ w. (let low = within_second 3 1 0 [] 3 w in omega (arith, low, cost_31));
  bad_at = (wanted_both 3 4 (omega arith) holds_30 holds_31 (omega (arith, cost_30)) (omega (arith, cost_31)), omega arith);
  no_obligation = λ w. (let less : 1 < 1 = w.1 in omega (arith, less));
  limit_of_wanted = refl;
  limit_of_bad = refl;
  limit_of_bad_at = refl;
  not_of_search = λ h. h;
}

-- Budgets

pub budgets : BudgetExamples
budgets = record {
  spent = record { some = omega arith; long = refl };
  not_yet = λ s. (let long : 2 ≡ 3 = s.long in omega (arith, long));
  never = λ s. (let some = s.some in omega (arith, some));
  room = inr (omega arith);
  no_room = λ h. elim h [ inl is ↦ (let e : 2 ≡ 0 = is in omega (arith, e)) | inr less ↦ (let l : 2 < 2 = less in omega (arith, l)) ];
  always = inl refl;
}
