-- What queries ask for: by which bits, of which choices and inputs, and by which clauses.
use Rattle.std.specs.Prelude.{ℕ, ◌≡◌, pos, Bool, true, false, List, [], ◌∷◌, Some, None}
use Rattle.sk_clause.specs.declared.lit.Lit.{Lit}
use Rattle.sk_prog.specs.declared.value.Value.TheVariants as value
use Rattle.sk_model.specs.declared.expanded.Choice.{Choice}
use Rattle.sk_model.specs.declared.expanded.Input.{Input}
use Rattle.sk_cnf.specs.declared.leaf.Leaf.{Leaf}
use Rattle.sk_cnf.specs.declared.leaf.Leaf.TheVariants as leaf
use Rattle.sk_cnf.specs.declared.growing.Encoded.{Encoded}
use Rattle.sk_cnf.specs.Formula.{Tight}
use Rattle.sk_oblig_queries.specs.declared.query.Query.{Query}
use Rattle.sk_oblig_queries.specs.declared.query.Query.TheVariants as query
use Rattle.sk_oblig_queries.specs.Numbers.{bits_of_size}
use Rattle.sk_oblig_queries.specs.Said.{choice_said}
use Rattle.sk_oblig_queries.specs.Queries.{IsBad, IsWanted, widths_of_query, bits_of_query, leaves_of_query, first_number, input_of_query, Holds, AsksFor}
use Rattle.sk_min_examples.specs.Programs.{bounds, of_inbits, only, choice, input, on, costly, free, none, two_obligations}

-- Bits

-- the queries of the program with two obligations, whose integer inputs have three bits
abbrev pub bad : Query
bad = query.Bad (choice (0 ∷ 0 ∷ 0 ∷ [])) None

abbrev pub bad_at : ℕ → Query
bad_at o = query.BadAt (choice (0 ∷ 0 ∷ 0 ∷ [])) o 7

abbrev pub wanted : Query
wanted = query.Wanted [] None

abbrev pub widths : Query → List ℕ
widths q = widths_of_query two_obligations (of_inbits 3) q

abbrev pub said : Query → ℕ → List Bool → Input
said q o bits = input_of_query two_obligations (of_inbits 3) q o bits

pub record WidthExamples : Type 0 where
  -- the numbers below a size, and so not the size, have room
  pub one_value : bits_of_size 1 ≡ 0
  pub two_values : bits_of_size 2 ≡ 1
  pub four_values : bits_of_size 4 ≡ 2
  pub five_values : bits_of_size 5 ≡ 3
  -- the inputs of both obligations stand one after another, and of the reference there are none
  pub of_all : widths bad ≡ 3 ∷ 1 ∷ 1 ∷ 3 ∷ []
  pub in_all : bits_of_query two_obligations (of_inbits 3) bad ≡ 8
  pub of_first : widths (bad_at 0) ≡ 3 ∷ 1 ∷ 1 ∷ []
  pub of_second : widths (bad_at 1) ≡ 3 ∷ []
  -- there is no third obligation, and its query has no bits
  pub of_none : widths (bad_at 2) ≡ []
  pub of_sites : widths wanted ≡ 2 ∷ 3 ∷ 0 ∷ []

pub record LeafExamples : Type 0 where
  -- each bit of a number has its leaf, the least first
  pub of_sites : leaves_of_query two_obligations (of_inbits 3) wanted ≡ leaf.Hole 0 0 ∷ leaf.Hole 0 1 ∷ leaf.Hole 1 0 ∷ leaf.Hole 1 1 ∷ leaf.Hole 1 2 ∷ []
  pub of_all : leaves_of_query two_obligations (of_inbits 3) bad ≡ leaf.Input 0 0 ∷ leaf.Input 0 1 ∷ leaf.Input 0 2 ∷ leaf.Input 1 0 ∷ leaf.Input 2 0 ∷ leaf.Input 3 0 ∷ leaf.Input 3 1 ∷ leaf.Input 3 2 ∷ []
  -- where one obligation alone is asked of, its numbers are the first
  pub of_second : leaves_of_query two_obligations (of_inbits 3) (bad_at 1) ≡ leaf.Input 0 0 ∷ leaf.Input 0 1 ∷ leaf.Input 0 2 ∷ []

-- 5, the two bits of an array, and 2
abbrev pub some_bits : List Bool
some_bits = true ∷ false ∷ true ∷ true ∷ false ∷ false ∷ true ∷ false ∷ []

pub record SaidExamples : Type 0 where
  pub first : said bad 0 some_bits ≡ input 0 (value.Int (pos 5) ∷ value.Array (value.Bit true ∷ value.Bit false ∷ []) ∷ [])
  -- the numbers of the first obligation stand before those of the second
  pub second : said bad 1 some_bits ≡ input 1 (value.Int (pos 2) ∷ [])
  pub alone : said (bad_at 1) 1 (false ∷ true ∷ false ∷ []) ≡ input 1 (value.Int (pos 2) ∷ [])
  pub chosen : choice_said two_obligations.sites (false ∷ true ∷ true ∷ false ∷ false ∷ []) ≡ choice (2 ∷ 1 ∷ 0 ∷ [])

-- Inputs that speak against a choice

pub record BadExamples : Type 0 where
  pub breaks : IsBad costly bounds (only 1) None (on 1)
  -- 3 is more than 2, and not more than 3
  pub costs_more : IsBad costly bounds (only 2) (Some 2) (on 1)
  pub costs_as_much : IsBad costly bounds (only 2) (Some 3) (on 1) → ⊥
  pub unlimited : IsBad costly bounds (only 3) None (on 1) → ⊥
  -- what fails costs nothing, and is bad all the same
  pub fails : IsBad costly bounds (only 1) (Some 9) (on 1)
  -- 2 fails on 2, which is no input
  pub no_input : IsBad costly bounds (only 2) None (on 2) → ⊥

-- Choices that pass listed inputs

pub record WantedExamples : Type 0 where
  pub within : IsWanted costly bounds (on 0 ∷ on 1 ∷ []) (Some 3) (only 2)
  pub over : IsWanted costly bounds (on 0 ∷ on 1 ∷ []) (Some 2) (only 2) → ⊥
  -- the other input is not listed: 2 costs more there, and 1 fails
  pub within_on_one : IsWanted costly bounds (on 0 ∷ []) (Some 2) (only 2)
  pub fails_elsewhere : IsWanted costly bounds (on 0 ∷ []) (Some 1) (only 1)
  pub fails : IsWanted costly bounds (on 0 ∷ []) None (only 0) → ⊥
  pub none_listed : IsWanted costly bounds [] (Some 0) (only 0)
  -- the hole has four values
  pub no_value : IsWanted costly bounds [] None (only 4) → ⊥
  pub no_choice : IsWanted costly bounds [] None (choice []) → ⊥

-- What bits say

pub record HoldExamples : Type 0 where
  pub bad : Holds costly bounds (query.Bad (only 1) None) (true ∷ [])
  pub good : Holds costly bounds (query.Bad (only 1) None) (false ∷ []) → ⊥
  pub bad_at : Holds costly bounds (query.BadAt (only 1) 0 0) (true ∷ [])
  -- of an obligation that is not there no bits say an input
  pub no_obligation : (bits : List Bool) → Holds costly bounds (query.BadAt (only 1) 1 0) bits → ⊥
  -- the least bit is the first: these say 2, and 1
  pub wanted : Holds costly bounds (query.Wanted (on 0 ∷ on 1 ∷ []) (Some 3)) (false ∷ true ∷ [])
  pub unwanted : Holds costly bounds (query.Wanted (on 0 ∷ on 1 ∷ []) (Some 3)) (true ∷ false ∷ []) → ⊥

-- Clauses

-- so many variables, these clauses, and names for these variables
abbrev pub formula : ℕ → List (List Lit) → List ℕ → Encoded
formula vars clauses names = record { clauses = record { vars = vars; clauses = clauses }; names = names }

-- the first variable is true
abbrev pub is_set : List Lit
is_set = record { var = 0; neg = false } ∷ []

-- for the bit that passes
abbrev pub its_query : Query
its_query = query.Wanted (none ∷ []) None

pub record ClauseExamples : Type 0 where
  -- the one bit of the hole is set
  pub asks : AsksFor (formula 1 (is_set ∷ []) (0 ∷ [])) free bounds its_query
  pub tight : Tight (formula 1 (is_set ∷ []) (0 ∷ []))
  -- without the clause, without the name, and where the variable is not there
  pub no_clause : AsksFor (formula 1 [] (0 ∷ [])) free bounds its_query → ⊥
  pub no_name : AsksFor (formula 1 (is_set ∷ []) []) free bounds its_query → ⊥
  pub no_variable : AsksFor (formula 0 (is_set ∷ []) (0 ∷ [])) free bounds its_query → ⊥
  -- a variable of which nothing is said leaves the meaning, and is not tight
  pub loose : AsksFor (formula 2 (is_set ∷ []) (0 ∷ [])) free bounds its_query
  pub not_tight : Tight (formula 2 (is_set ∷ []) (0 ∷ [])) → ⊥
  -- what cannot be met asks of each obligation that is not there, so pairs must lead to none
  pub no_obligation : AsksFor (formula 0 ([] ∷ []) []) costly bounds (query.BadAt (only 1) 1 0)
