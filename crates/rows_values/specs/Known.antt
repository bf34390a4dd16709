-- Which targets may stand in a reference.
use Rattle.std.specs.Prelude.{ℕ, ◌≤◌, List, length}
use Rattle.sk_dag.specs.declared.env.Env.{Env}
use Rattle.sk_dag.specs.declared.node.BoolId.{BoolId}
use Rattle.sk_dag.specs.Graph.{Graph}
use Rattle.sk_arr.specs.Held.{held_in, AllIn}

-- their truth values are in the graph, and in each environment at most one of them holds
pub record TargetsStand (g : Graph) (targets : List (ℕ × BoolId)) : Type 0 where
  pub there : AllIn g targets
  pub few : (e : Env) → length (held_in g e targets) ≤ 1
