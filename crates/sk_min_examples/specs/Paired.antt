-- Pairs that a search finds, the inputs that there are, and what is left of a budget.
use Rattle.std.specs.Prelude.{ℕ, ◌≡◌, List, [], ◌∷◌, Some, None}
use Rattle.sk_base.specs.declared.bounds.Budget.{Budget}
use Rattle.sk_prog.specs.declared.ty.Elem.TheVariants as elem
use Rattle.sk_prog.specs.declared.ty.Ty.TheVariants as ty
use Rattle.sk_prog.specs.declared.prog.Fun.{Fun}
use Rattle.sk_prog.specs.declared.prog.FunKind.TheVariants as kind
use Rattle.sk_model.specs.declared.expanded.Pair.{Pair}
use Rattle.sk_model.specs.RunningExamples.{int_type, variable}
use Rattle.sk_oblig_queries.specs.declared.query.Query.TheVariants as query
use Rattle.sk_loop_laws.specs.Counts.{inputs_count}
use Rattle.sk_loop_laws.specs.Honest.{inputs_of, Honest, IsRound, Grown}
use Rattle.sk_loop_laws.specs.Laws.{AreAllInputs}
use Rattle.sk_loop_laws.specs.Shown.{Completes, NonePasses, IsOfPairs, AreSpent, limit_of, IsOfSearch, HasRoom}
use Rattle.sk_min_examples.specs.Programs.{bounds, of_inbits, only, on, param, harness, costly, pair, free, none, two_obligations, fun, gives, id}

-- Inputs

-- `harness int f(int x) implements g { .. }`
abbrev pub two_roles : Fun
two_roles = record (fun (Some (id 2)) (gives (variable 0))) { kind = kind.Harness }

pub record CountExamples : Type 0 where
  -- 8 integers with 4 arrays of two bits, and again 8 integers; of the reference nothing is asked
  pub both : inputs_count 3 two_obligations.prog.funs ≡ 40
  -- a harness with a reference has an obligation of each kind
  pub two_roles : inputs_count 3 (two_roles ∷ []) ≡ 16
  -- three arrays of two bits
  pub grid : inputs_count 3 (harness (param (ty.Grid elem.Bit 2 3) ∷ []) 1 [] ∷ []) ≡ 64
  -- a harness without parameters has one input, and one of a reference has none
  pub no_parameters : inputs_count 3 (harness [] 0 [] ∷ []) ≡ 1
  pub of_reference : inputs_count 3 (harness (param (ty.One (elem.Reference (record { index = 0 }))) ∷ []) 1 [] ∷ []) ≡ 0
  pub nothing_asked : inputs_count 3 (fun None (gives (variable 0)) ∷ []) ≡ 0
  pub listed : AreAllInputs costly.prog bounds (on 0 ∷ on 1 ∷ [])
  pub one_lacks : AreAllInputs costly.prog bounds (on 0 ∷ []) → ⊥
  pub one_twice : AreAllInputs costly.prog bounds (on 0 ∷ on 1 ∷ on 1 ∷ []) → ⊥
  pub one_too_great : AreAllInputs costly.prog bounds (on 0 ∷ on 2 ∷ []) → ⊥

-- Honest pairs

pub record HonestExamples : Type 0 where
  pub empty : Honest costly bounds []
  pub both_fail : Honest costly bounds (pair 0 0 ∷ pair 1 1 ∷ [])
  -- 3 costs 3 on 0, and 4 on 1
  pub costs_more : Honest costly bounds (pair 0 0 ∷ pair 3 1 ∷ [])
  pub costs_less : Honest costly bounds (pair 3 1 ∷ pair 3 0 ∷ []) → ⊥
  pub costs_as_much : Honest costly bounds (pair 3 1 ∷ pair 3 1 ∷ []) → ⊥
  -- what costs nothing speaks against nothing
  pub costs_nothing : Honest free bounds (record { choice = only 1; input = none } ∷ []) → ⊥
  -- an earlier input breaks the choice
  pub broken_before : Honest costly bounds (pair 0 0 ∷ pair 0 1 ∷ []) → ⊥
  pub no_value : Honest costly bounds (pair 4 1 ∷ []) → ⊥
  pub no_input : Honest costly bounds (pair 2 2 ∷ []) → ⊥
  pub inputs : inputs_of (pair 0 0 ∷ pair 3 1 ∷ []) ≡ on 0 ∷ on 1 ∷ []

pub record RoundExamples : Type 0 where
  pub within : IsRound costly bounds (Some 3) (on 0 ∷ []) (pair 3 1)
  -- it costs 3 on the input before
  pub over_before : IsRound costly bounds (Some 2) (on 0 ∷ []) (pair 3 1) → ⊥
  pub unlimited : IsRound costly bounds None (on 0 ∷ []) (pair 3 1) → ⊥
  pub grown : Grown costly bounds (Some 3) (pair 0 0 ∷ []) (pair 0 0 ∷ pair 3 1 ∷ [])
  -- the old pair is not the first
  pub other_front : Grown costly bounds (Some 3) (pair 1 1 ∷ []) (pair 0 0 ∷ pair 3 1 ∷ []) → ⊥
  pub no_round : Grown costly bounds (Some 2) (pair 0 0 ∷ []) (pair 0 0 ∷ pair 3 1 ∷ []) → ⊥
  -- of the old pairs no round is asked: 3 is over 2 on 0
  pub old_stands : Grown costly bounds (Some 2) (pair 3 0 ∷ []) (pair 3 0 ∷ [])

-- Completions

pub record CompletionExamples : Type 0 where
  pub within : Completes costly bounds (Some 3) (only 2)
  pub over : Completes costly bounds (Some 2) (only 2) → ⊥
  pub unlimited : Completes costly bounds None (only 3)
  -- it passes one input, and fails on the other
  pub fails : Completes costly bounds None (only 1) → ⊥
  pub no_value : Completes costly bounds None (only 4) → ⊥
  pub none_passes : NonePasses costly bounds (on 0 ∷ on 1 ∷ []) (Some 2)
  -- no choice completes within 2, and yet one passes 0 alone
  pub one_passes : NonePasses costly bounds (on 0 ∷ []) (Some 2) → ⊥

-- Queries that pairs lead to

abbrev pub two_pairs : List Pair
two_pairs = pair 0 0 ∷ pair 3 1 ∷ []

pub record QueryExamples : Type 0 where
  pub wanted : IsOfPairs costly bounds two_pairs (query.Wanted (on 0 ∷ on 1 ∷ []) None)
  pub other_order : IsOfPairs costly bounds two_pairs (query.Wanted (on 1 ∷ on 0 ∷ []) None) → ⊥
  pub bad : IsOfPairs costly bounds two_pairs (query.Bad (only 3) (Some 4))
  -- 3 costs 4 on an input of the pairs
  pub not_wanted : IsOfPairs costly bounds two_pairs (query.Bad (only 3) (Some 3)) → ⊥
  pub bad_at : IsOfPairs costly bounds two_pairs (query.BadAt (only 3) 0 4)
  pub no_obligation : IsOfPairs costly bounds two_pairs (query.BadAt (only 3) 1 4) → ⊥
  pub limit_of_wanted : limit_of (query.Wanted [] (Some 3)) ≡ Some 3
  pub limit_of_bad : limit_of (query.Bad (only 3) None) ≡ None
  pub limit_of_bad_at : limit_of (query.BadAt (only 3) 1 4) ≡ Some 4
  pub not_of_search : IsOfSearch (query.BadAt (only 3) 0 4) → ⊥

-- Budgets

abbrev pub of_rounds : ℕ → Budget
of_rounds n = record { rounds = n; conflicts = 0 }

pub record BudgetExamples : Type 0 where
  pub spent : AreSpent 2 two_pairs
  pub not_yet : AreSpent 3 two_pairs → ⊥
  -- 0 is no budget, and never spent
  pub never : AreSpent 0 [] → ⊥
  pub room : HasRoom (of_rounds 3) two_pairs
  pub no_room : HasRoom (of_rounds 2) two_pairs → ⊥
  pub always : HasRoom (of_rounds 0) two_pairs
