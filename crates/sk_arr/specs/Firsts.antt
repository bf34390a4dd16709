-- The first target of a list.
use Rattle.std.specs.Prelude.{◌≡◌, ℕ, List, ◌∷◌}
use Rattle.sk_dag.specs.declared.node.BoolId.{BoolId}

-- this is the first target of a list, and what follows it
pub record IsFirst (targets : List (ℕ × BoolId)) (slot : ℕ) (guard : BoolId) (more : List (ℕ × BoolId)) : Type 0 where
  pub front : targets ≡ (slot, guard) ∷ more
