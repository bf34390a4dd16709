-- What a session stands for.
use Rattle.std.specs.Prelude.{ℕ, ◌≡◌, ◌≤◌, ◌++◌, List, length, take, Contains, All, Option, Some, None}
use Rattle.sk_base.specs.declared.bounds.Bounds.{Bounds}
use Rattle.sk_model.specs.declared.expanded.Expanded.{Expanded}
use Rattle.sk_model.specs.declared.expanded.Input.{Input}
use Rattle.sk_clause.specs.Problem.{Problem}
use Rattle.sk_cnf.specs.declared.growing.Encoded.{Encoded}
use Rattle.sk_cnf.specs.Formula.{Tight}
use Rattle.sk_cnf.specs.Standing.{Begins}
use Rattle.sk_oblig_queries.specs.declared.query.Query.TheVariants as query
use Rattle.sk_oblig_queries.specs.Queries.{AsksFor}
use Rattle.sk_sat.specs.Solver.{State}
use Rattle.sk_loop_guesses.specs.asking.Asking.{Asking}
use Rattle.sk_loop_guesses.specs.Asking.{Demand, IsAsking}
use Rattle.sk_loop.specs.declared.session.Session.{Session}

-- the first limit is at least the second; that there is none is above each
abbrev pub IsAbove : Option ℕ → Option ℕ → Type 0
IsAbove None limit = Unit {0}
IsAbove (Some most) None = ⊥
IsAbove (Some most) (Some less) = less ≤ most

-- the inputs are the first of the others
pub record IsFront (front inputs : List Input) : Type 0 where
  pub rest : List Input
  pub is : inputs ≡ front ++ rest

-- an input that is listed, with a limit that is at least this one
pub record IsListed (inputs : List Input) (limit : Option ℕ) (demand : Demand) : Type 0 where
  pub there : Contains inputs demand.input
  pub above : IsAbove demand.limit limit

-- Each demand is of an input that is listed, and the first so many inputs are demanded with this limit.
pub record AreDemands (demands : List Demand) (inputs : List Input) (limit : Option ℕ) (count : ℕ) : Type 0 where
  pub listed : All (IsListed inputs limit) demands
  pub made : All (λ i. Contains demands (record { input = i; limit = limit })) (take count inputs)

-- The formula asks that the first so many of these inputs are passed within the limit, and for no more than that all are.
pub record Asks (a : Asking) (e : Expanded) (bounds : Bounds) (inputs : List Input) (limit : Option ℕ) (count : ℕ) : Type 0 where
  pub demands : List Demand
  pub asking : IsAsking a e bounds demands
  pub are : AreDemands demands inputs limit count

-- The formula has the names it had, and its clauses begin with those it had.
pub record KeepsClauses (old new : Encoded) : Type 0 where
  pub names : new.names ≡ old.names
  pub behind : Begins old.clauses new.clauses

-- The solver has the first so many clauses.
pub record IsLoaded (solver : State) (loaded : ℕ) (f : Problem) : Type 0 where
  pub vars : solver.vars ≤ f.vars
  pub within : loaded ≤ length f.clauses
  pub added : solver.added ≡ take loaded f.clauses

-- The formula asks for a choice that passes the inputs within the limit, in one way, and the solver has the first clauses of it.
pub record StandsFor (s : Session) (e : Expanded) (bounds : Bounds) (inputs : List Input) (limit : Option ℕ) : Type 0 where
  pub asked : Asks s.asking e bounds inputs limit (length inputs)
  pub count : s.count ≡ length inputs
  pub same : s.limit ≡ limit
  pub loaded : IsLoaded s.solver s.loaded s.asking.growing.encoded.clauses
  pub asks : AsksFor s.asking.growing.encoded e bounds (query.Wanted inputs limit)
  pub tight : Tight s.asking.growing.encoded

-- the session stands for such a query: of inputs that are the first of these, with a limit that is at least this one
pub record IsReady (s : Session) (e : Expanded) (bounds : Bounds) (inputs : List Input) (limit : Option ℕ) : Type 0 where
  pub before : List Input
  pub most : Option ℕ
  pub stands : StandsFor s e bounds before most
  pub front : IsFront before inputs
  pub above : IsAbove most limit
