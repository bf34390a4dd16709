-- What is said of a choice that completes, of lists of pairs, and of what a spent budget shows.
use Rattle.std.specs.Prelude.{ℕ, ◌≡◌, ◌<◌, ◌≤◌, ◌⊎◌, List, length, All, Option, Some, IfSome}
use Rattle.sk_base.specs.declared.bounds.Bounds.{Bounds}
use Rattle.sk_base.specs.declared.bounds.Budget.{Budget}
use Rattle.sk_clause.specs.declared.lit.Lit.{Lit}
use Rattle.sk_clause.specs.Meaning.{EachFollows, IsConsistent, NoneIncludes}
use Rattle.sk_cnf.specs.declared.growing.Encoded.{Encoded}
use Rattle.sk_cnf.specs.Formula.{Tight}
use Rattle.sk_model.specs.declared.expanded.Choice.{Choice}
use Rattle.sk_model.specs.declared.expanded.Expanded.{Expanded}
use Rattle.sk_model.specs.declared.expanded.Input.{Input}
use Rattle.sk_model.specs.declared.expanded.Pair.{Pair}
use Rattle.sk_model.specs.Fill.{InRange, fill}
use Rattle.sk_model.specs.Inputs.{IsInput}
use Rattle.sk_model.specs.Meets.{Meets, cost_on}
use Rattle.sk_model.specs.Obligations.{obligations}
use Rattle.sk_oblig_queries.specs.declared.query.Query.{Query}
use Rattle.sk_oblig_queries.specs.declared.query.Query.TheVariants as query
use Rattle.sk_oblig_queries.specs.Queries.{AsksFor, IsWanted}
use Rattle.sk_loop_laws.specs.Honest.{Honest, inputs_of}

-- A choice in range whose filling meets its obligations, and costs at most the limit on each input.
pub record Completes (e : Expanded) (bounds : Bounds) (limit : Option ℕ) (choice : Choice) : Type 0 where
  pub range : InRange e choice
  pub meets : Meets (fill e choice) bounds
  pub within : IfSome limit (λ most. (input : Input) → IsInput (fill e choice) bounds input → cost_on (fill e choice) bounds input ≤ most)

-- No choice in range passes the inputs within the limit, and so none completes within it.
pub record NonePasses (e : Expanded) (bounds : Bounds) (inputs : List Input) (limit : Option ℕ) : Type 0 where
  pub passes : (choice : Choice) → IsWanted e bounds inputs limit choice → ⊥
  pub completes : (choice : Choice) → Completes e bounds limit choice → ⊥

-- A query that the pairs lead to: for a choice that passes their inputs, in their order, or for an input that speaks
-- against such a choice, of an obligation that is there where it asks of one alone.
abbrev pub IsOfPairs : Expanded → Bounds → List Pair → Query → Type 0
IsOfPairs e bounds pairs (query.Wanted inputs limit) = inputs ≡ inputs_of pairs
IsOfPairs e bounds pairs (query.Bad choice limit) = IsWanted e bounds (inputs_of pairs) limit choice
IsOfPairs e bounds pairs (query.BadAt choice o limit) = IsWanted e bounds (inputs_of pairs) (Some limit) choice × (o < length (obligations e.prog))

-- So many clauses were learnt from the formula of a query to which the pairs lead: none has a literal and its negation, each
-- follows from the formula and those before it, and includes none of these.
pub record Learnt (e : Expanded) (bounds : Bounds) (count : ℕ) (pairs : List Pair) (q : Query) (f : Encoded) (log : List (List Lit)) : Type 0 where
  pub some : 0 < count
  pub long : length log ≡ count
  pub consistent : All IsConsistent log
  pub asks : AsksFor f e bounds q
  pub tight : Tight f
  pub follows : EachFollows f.clauses.clauses log
  pub fresh : NoneIncludes f.clauses.clauses log
  pub honest : Honest e bounds pairs
  pub query : IsOfPairs e bounds pairs q

-- There are as many pairs as the budget says, which is not 0.
pub record AreSpent (budget : ℕ) (pairs : List Pair) : Type 0 where
  pub some : 0 < budget
  pub long : length pairs ≡ budget

-- the limit of a query
abbrev pub limit_of : Query → Option ℕ
limit_of (query.Wanted inputs limit) = limit
limit_of (query.Bad choice limit) = limit
limit_of (query.BadAt choice o limit) = Some limit

-- the search asks of all obligations together: of one alone only a certificate asks
abbrev pub IsOfSearch : Query → Type 0
IsOfSearch (query.Wanted inputs limit) = Unit {0}
IsOfSearch (query.Bad choice limit) = Unit {0}
IsOfSearch (query.BadAt choice o limit) = ⊥

-- there is room for a further pair: there is no budget of rounds, or there are fewer pairs
abbrev pub HasRoom : Budget → List Pair → Type 0
HasRoom budget pairs = (budget.rounds ≡ 0) ⊎ (length pairs < budget.rounds)
