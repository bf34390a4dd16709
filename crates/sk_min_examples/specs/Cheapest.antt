-- What choices cost, which one costs least, and what is known of one where a budget is spent.
use Rattle.std.specs.Prelude.{ℕ, ◌≡◌, true, false, List, [], ◌∷◌, Option, Some, None}
use Rattle.sk_prog.specs.declared.expr.PEForm.TheVariants as eform
use Rattle.sk_prog.specs.declared.stmt.PStmt.{PStmt}
use Rattle.sk_prog.specs.declared.stmt.PForm.TheVariants as form
use Rattle.sk_prog.specs.declared.prog.Prog.{Prog}
use Rattle.sk_model.specs.declared.expanded.Choice.{Choice}
use Rattle.sk_model.specs.declared.expanded.Pair.{Pair}
use Rattle.sk_model.specs.RunningExamples.{block, number, stmt, program}
use Rattle.sk_oblig_queries.specs.declared.query.Query.TheVariants as query
use Rattle.sk_min_costs.specs.Free.{is_free}
use Rattle.sk_min_laws.specs.Best.{Meeting, IsBest, NoneBelow, greatest_on}
use Rattle.sk_min.specs.declared.answer.Least.TheVariants as least
use Rattle.sk_min.specs.Least.{AllBreak, CostsLeast, IsShort, IsLowered, IsLimited, IsAnswer}
use Rattle.sk_min_examples.specs.Programs.{bounds, only, on, bit, harness, fun, costly, pair, free}
use Rattle.sk_min_examples.specs.Paired.{of_rounds, two_pairs}

-- Programs without costs

-- `harness void h() { S }`
abbrev pub doing : PStmt → Prog
doing s = program (harness [] 0 (s ∷ []) ∷ [])

-- `minimize(1);`
abbrev pub pays : PStmt
pays = stmt 1 (form.Minimize (number 1))

pub record FreeExamples : Type 0 where
  pub free : is_free free.prog ≡ true
  pub costly : is_free costly.prog ≡ false
  -- `{ minimize(1); }`, `if (true) ; else minimize(1);` and a minrepeat that keeps nothing
  pub in_block : is_free (doing (block (pays ∷ []))) ≡ false
  pub in_other : is_free (doing (stmt 1 (form.If (bit eform.True) (block []) (Some pays)))) ≡ false
  pub minrepeat : is_free (doing (stmt 1 (form.MinRepeat []))) ≡ false
  -- in a function that nothing calls
  pub not_called : is_free (program (harness [] 0 [] ∷ fun None (pays ∷ []) ∷ [])) ≡ false

-- Greatest costs

pub record GreatestExamples : Type 0 where
  pub of_two : greatest_on costly bounds (only 3) (on 0 ∷ on 1 ∷ []) ≡ 4
  pub in_either_order : greatest_on costly bounds (only 3) (on 1 ∷ on 0 ∷ []) ≡ 4
  pub of_one : greatest_on costly bounds (only 3) (on 0 ∷ []) ≡ 3
  pub of_none : greatest_on costly bounds (only 3) [] ≡ 0
  -- what fails on 1 costs nothing there
  pub of_failure : greatest_on costly bounds (only 1) (on 0 ∷ on 1 ∷ []) ≡ 1

-- Completions that cost least

pub record BestExamples : Type 0 where
  pub meets : Meeting costly bounds (only 3)
  pub fails : Meeting costly bounds (only 1) → ⊥
  -- 4 would meet all obligations, but the hole has four values
  pub no_value : Meeting costly bounds (only 4) → ⊥
  pub best : IsBest costly bounds (only 2) 3
  pub costs_more : IsBest costly bounds (only 3) 4 → ⊥
  pub too_little : IsBest costly bounds (only 2) 2 → ⊥
  pub too_much : IsBest costly bounds (only 2) 4 → ⊥
  -- on the input that it does not fail on it costs 1
  pub fails_best : IsBest costly bounds (only 1) 1 → ⊥
  pub none_below : NoneBelow costly bounds (on 0 ∷ on 1 ∷ []) 3
  pub one_below : NoneBelow costly bounds (on 0 ∷ on 1 ∷ []) 4 → ⊥
  -- 2 costs 2 on 0 alone
  pub below_on_one : NoneBelow costly bounds (on 0 ∷ []) 3 → ⊥
  pub below_nothing : NoneBelow costly bounds [] 0

-- What is known where a budget is spent

pub record ShortExamples : Type 0 where
  -- the choices of the pairs do not meet all obligations, and what they cost does not count
  pub none_meets : CostsLeast costly bounds (pair 0 0 ∷ pair 1 1 ∷ []) (only 3)
  pub less_known : CostsLeast costly bounds (pair 0 0 ∷ pair 2 1 ∷ []) (only 3) → ⊥
  -- the best choice known is that of the last pair, or that one passes the inputs before within the cost less 1
  pub last_is_best : IsShort costly bounds two_pairs (only 3)
  pub last_is_lower : IsShort costly bounds (pair 0 0 ∷ pair 1 1 ∷ []) (only 3)
  -- 2 costs 3 on these inputs, and so does 3 on the one before the last: that is not below
  pub last_is_no_lower : IsShort costly bounds two_pairs (only 2) → ⊥
  pub lower_known : IsShort costly bounds (pair 0 0 ∷ pair 2 1 ∷ []) (only 3) → ⊥
  pub costs_nothing : IsShort costly bounds [] (only 3) → ⊥
  pub meets_nothing : IsShort costly bounds (pair 0 0 ∷ pair 1 0 ∷ []) (only 1) → ⊥
  pub all_break : AllBreak costly bounds (pair 0 0 ∷ pair 1 1 ∷ [])
  pub one_costs : AllBreak costly bounds two_pairs → ⊥

-- Limits

pub record LimitExamples : Type 0 where
  pub lowered : IsLowered costly bounds two_pairs (only 3) 3
  pub not_lowered : IsLowered costly bounds two_pairs (only 3) 4 → ⊥
  -- an input that costs the best choice more than 4, and one that speaks against another choice within 3
  pub of_best : IsLimited costly bounds two_pairs (only 3) (query.Bad (only 3) (Some 4))
  pub of_best_less : IsLimited costly bounds two_pairs (only 3) (query.Bad (only 3) (Some 3)) → ⊥
  pub of_other : IsLimited costly bounds two_pairs (only 3) (query.Bad (only 2) (Some 3))
  pub of_other_more : IsLimited costly bounds two_pairs (only 3) (query.Bad (only 2) (Some 4)) → ⊥
  pub of_next : IsLimited costly bounds two_pairs (only 3) (query.Wanted (on 0 ∷ on 1 ∷ []) (Some 3))
  pub without : IsLimited costly bounds two_pairs (only 3) (query.Wanted (on 0 ∷ on 1 ∷ []) None) → ⊥

-- Answers

pub record AnswerExamples : Type 0 where
  pub best : IsAnswer costly bounds (of_rounds 3) (least.Best (only 2) 3 two_pairs)
  -- the two rounds are spent, so the answer is not for a search that goes on
  pub no_room : IsAnswer costly bounds (of_rounds 2) (least.Best (only 2) 3 two_pairs) → ⊥
  pub spent : IsAnswer costly bounds (of_rounds 2) (least.Rounds two_pairs (Some (only 3)))
  pub not_spent : IsAnswer costly bounds (of_rounds 3) (least.Rounds two_pairs (Some (only 3))) → ⊥
  -- a choice is known that meets all obligations, and there is none
  pub none_known : IsAnswer costly bounds (of_rounds 2) (least.Rounds two_pairs None) → ⊥
  pub nothing : IsAnswer costly bounds (of_rounds 0) (least.Nothing two_pairs) → ⊥
