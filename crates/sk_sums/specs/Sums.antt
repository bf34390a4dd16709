-- Sums modulo 2 of the truth values of nodes.
use Rattle.std.specs.Prelude.{◌≡◌, ◌<◌, ℕ, length, slice_index, Bool, false, not, List, [], ◌∷◌, All, if◌then◌else◌}
use Rattle.sk_dag.specs.declared.env.Env.{Env}
use Rattle.sk_dag.specs.declared.value.Value.{Value}
use Rattle.sk_dag.specs.Graph.{Graph, Grows, HasSort, BoolSort}
use Rattle.sk_dag.specs.Eval.{as_bool, value_at, graph_values}
use Rattle.sk_sums.specs.declared.spread.Sum.{Sum}

-- the sum of two truth values modulo 2
abbrev pub plus : Bool → Bool → Bool
plus a b = if a then not b else b

-- the truth value with this number
abbrev pub truth_at : List Value → ℕ → Bool
truth_at vs i = as_bool (value_at vs i)

-- the sum of those with these numbers
abbrev pub sum_at : List Value → List ℕ → Bool
sum_at vs [] = false
sum_at vs (i ∷ is) = plus (truth_at vs i) (sum_at vs is)

-- the sum of its terms, and of 1 where it is odd
unfoldable pub sum_value : List Value → Sum → Bool
sum_value vs s = plus s.odd (sum_at vs s.terms.items)

-- the number stands at this place of the list
pub record StandsAt (is : List ℕ) (place i : ℕ) : Type 0 where
  pub within : place < length is
  pub here : slice_index is place ≡ i

-- the nodes with these numbers are there, and are truth values
abbrev pub AreTruths : Graph → List ℕ → Type 0
AreTruths graph is = All (λ i. HasSort graph.nodes i BoolSort) is

-- the sum has from now on the value of the node with this number
pub record SumsTo (graph : Graph) (s : Sum) (i : ℕ) : Type 0 where
  pub there : AreTruths graph s.terms.items
  pub value : (g : Graph) → Grows graph g → (e : Env) → sum_value (graph_values g e) s ≡ truth_at (graph_values g e) i
