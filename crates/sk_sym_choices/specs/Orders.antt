-- The order of the statements of a reorder, as numbers and as nodes.
use Rattle.std.specs.Prelude.{◌≡◌, ℕ, zero, suc, ◌<◌, ◌≤◌, ◌-◌, ◌==◌, List, [], ◌∷◌, ◌++◌, Bool, map, length, All, Option}
use Rattle.std.specs.List.{insert}
use Rattle.sk_dag.specs.declared.env.Env.{Env}
use Rattle.sk_dag.specs.declared.node.BoolId.{BoolId}
use Rattle.sk_dag.specs.Graph.{Graph, Grows, HasBool}
use Rattle.sk_dag.specs.Eval.{bool_value}
use Rattle.sk_model.specs.declared.expanded.Choice.{Choice}
use Rattle.sk_model.specs.Fill.{digit, arrange}
use Rattle.sk_sym_folds.specs.Chosen.{chosen_values}

-- the numbers below n, in order
abbrev pub up_to : ℕ → List ℕ
up_to zero = []
up_to (suc n) = up_to n ++ n ∷ []

-- the numbers of so many statements, in the order that the digits from a place on give them
unfoldable pub order : List ℕ → ℕ → ℕ → List ℕ
order values first count = arrange values first [] (up_to count)

-- for each turn whether it is that of the statement with number k
abbrev pub turns : List ℕ → ℕ → ℕ → ℕ → List Bool
turns values first count k = map (λ j. j == k) (order values first count)

-- each digit of so many statements is at most the number of those placed before it, as a choice in range says
pub record AreDigits (values : List ℕ) (first count : ℕ) : Type 0 where
  pub each : (j : ℕ) → j < count → digit values first j ≤ j

abbrev pub values_of : Graph → Env → List BoolId → List Bool
values_of g e nodes = map (bool_value g e) nodes

-- the nodes are in the graph
pub record AllThere (graph : Graph) (nodes : List BoolId) : Type 0 where
  pub each : All (HasBool graph.nodes) nodes

-- the nodes that are worth what the list is worth once one more is put in, so that as many stand behind it as a number
-- says that depends on the environment
pub record IsPut (graph : Graph) (behind : Env → ℕ) (nodes : List BoolId) (node : BoolId) (made : List BoolId) : Type 0 where
  pub there : AllThere graph made
  pub long : length made ≡ suc (length nodes)
  pub value : (g : Graph) → Grows graph g → (e : Env) → behind e ≤ length nodes → values_of g e made ≡ insert (values_of g e nodes) (length nodes - behind e) (bool_value g e node)

-- for each of so many turns a node that holds exactly where it is that of the statement with number k
pub record AreTurns (graph : Graph) (given : Option Choice) (first count k : ℕ) (nodes : List BoolId) : Type 0 where
  pub there : AllThere graph nodes
  pub long : length nodes ≡ count
  pub value : (g : Graph) → Grows graph g → (e : Env) → AreDigits (chosen_values given e) first count → values_of g e nodes ≡ turns (chosen_values given e) first count k

-- a node that is in the graph and is worth this from now on
pub record IsGiven (graph : Graph) (node : BoolId) (b : Bool) : Type 0 where
  pub there : HasBool graph.nodes node
  pub value : (g : Graph) → Grows graph g → (e : Env) → bool_value g e node ≡ b
