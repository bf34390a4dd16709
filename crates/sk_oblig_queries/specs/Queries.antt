-- What a query asks for, by which bits it is said, and when clauses ask for it.
use Rattle.std.specs.Prelude.{ℕ, ◌<◌, ◌⊎◌, Bool, List, drop, Option, Some, None}
use Rattle.std.specs.List.{sum}
use Rattle.sk_base.specs.declared.bounds.Bounds.{Bounds}
use Rattle.sk_model.specs.declared.expanded.Choice.{Choice}
use Rattle.sk_model.specs.declared.expanded.Expanded.{Expanded}
use Rattle.sk_model.specs.declared.expanded.Input.{Input}
use Rattle.sk_model.specs.Fill.{InRange, fill}
use Rattle.sk_model.specs.Inputs.{IsInput}
use Rattle.sk_model.specs.Meets.{Breaks, cost_on, Passes}
use Rattle.sk_model.specs.Obligations.{obligations}
use Rattle.sk_cnf.specs.declared.leaf.Leaf.{Leaf}
use Rattle.sk_cnf.specs.declared.leaf.Leaf.TheVariants as leaf
use Rattle.sk_cnf.specs.declared.growing.Encoded.{Encoded}
use Rattle.sk_cnf.specs.Formula.{Encodes}
use Rattle.sk_oblig_queries.specs.declared.query.Query.{Query}
use Rattle.sk_oblig_queries.specs.declared.query.Query.TheVariants as query
use Rattle.sk_oblig_queries.specs.Numbers.{numbers_said, leaves_from}
use Rattle.sk_oblig_queries.specs.Widths.{sites_widths, params_widths, params_at, obligations_widths, numbers_before}
use Rattle.sk_oblig_queries.specs.Said.{choice_said, input_said}

-- more than the limit, where there is one
abbrev pub IsOver : Option ℕ → ℕ → Type 0
IsOver (Some most) cost = most < cost
IsOver None cost = ⊥

-- An input that speaks against the choice: it breaks the filling, or it is a harness's and costs more than the limit.
pub record IsBad (e : Expanded) (bounds : Bounds) (choice : Choice) (limit : Option ℕ) (input : Input) : Type 0 where
  pub is_input : IsInput e.prog bounds input
  pub bad : Breaks (fill e choice) bounds input ⊎ IsOver limit (cost_on (fill e choice) bounds input)

-- A choice in range that no listed input breaks and that costs at most the limit on each.
pub record IsWanted (e : Expanded) (bounds : Bounds) (inputs : List Input) (limit : Option ℕ) (choice : Choice) : Type 0 where
  pub range : InRange e choice
  pub passes : Passes (fill e choice) bounds inputs limit

-- bit k of the number of a query at place i: of the hole at a site, or of a scalar of the input
abbrev pub leaf_of : Query → ℕ → ℕ → Leaf
leaf_of (query.Bad choice limit) i k = leaf.Input i k
leaf_of (query.BadAt choice o limit) i k = leaf.Input i k
leaf_of (query.Wanted inputs limit) i k = leaf.Hole i k

module _ (e : Expanded) (bounds : Bounds) where
  -- `Bad` has the bits of the inputs of all obligations in order, `BadAt` those of one obligation alone, and `Wanted` those of
  -- all sites in order
  abbrev pub widths_of_query : Query → List ℕ
  widths_of_query (query.Bad choice limit) = obligations_widths bounds.inbits e.prog (obligations e.prog)
  widths_of_query (query.BadAt choice o limit) = params_widths bounds.inbits (params_at e.prog o)
  widths_of_query (query.Wanted inputs limit) = sites_widths e.sites

  -- how many bits a query has
  abbrev pub bits_of_query : Query → ℕ
  bits_of_query q = sum (widths_of_query q)

  -- the leaves of a query, one for each of its bits in order
  abbrev pub leaves_of_query : Query → List Leaf
  leaves_of_query q = leaves_from (leaf_of q) 0 (widths_of_query q)

  -- how many numbers stand before those of the obligation with a number
  abbrev pub first_number : Query → ℕ → ℕ
  first_number (query.Bad choice limit) o = numbers_before bounds.inbits e.prog o
  first_number (query.BadAt choice p limit) o = 0
  first_number (query.Wanted inputs limit) o = 0

  -- the input of the obligation with a number that the bits of a query say
  abbrev pub input_of_query : Query → ℕ → List Bool → Input
  input_of_query q o bits = input_said e.prog o (drop (first_number q o) (numbers_said (widths_of_query q) bits))

  -- The bits say what the query asks for: `Bad` asks for an input of some obligation, `BadAt` for one of this obligation, and
  -- `Wanted` for a choice.
  abbrev pub Holds : Query → List Bool → Type 0
  Holds (query.Bad choice limit) bits = (o : ℕ) × IsBad e bounds choice limit (input_of_query (query.Bad choice limit) o bits)
  Holds (query.BadAt choice o limit) bits = IsBad e bounds choice (Some limit) (input_of_query (query.BadAt choice o limit) o bits)
  Holds (query.Wanted inputs limit) bits = IsWanted e bounds inputs limit (choice_said e.sites bits)

-- The clauses have a name for each bit of the query, and bits for the names extend to values of all variables that meet
-- the clauses exactly where they say what the query asks for.
abbrev pub AsksFor : Encoded → Expanded → Bounds → Query → Type 0
AsksFor f e bounds q = Encodes f (bits_of_query e bounds q) (Holds e bounds q)
