-- A table of the values of some nodes.
use Rattle.std.specs.Prelude.{◌≡◌, ℕ, List, Option, Some, nat_eq, IsSome}
use Rattle.std.specs.HashMap.{get}
use Rattle.sk_dag.specs.declared.value.Value.{Value}
use Rattle.sk_dag.specs.declared.table.Table.{Table}
use Rattle.sk_dag.specs.Eval.{value_at}

-- the value that stands in the table at this number
abbrev pub entry_of : Table → ℕ → Option Value
entry_of table i = get nat_eq table.values i

-- a value stands there
abbrev pub IsKnown : Table → ℕ → Type 0
IsKnown table i = IsSome (entry_of table i)

-- each value that stands in the table is the one that the list has at its number
pub record HoldsValues (table : Table) (vs : List Value) : Type 0 where
  pub each : (i : ℕ) (v : Value) → entry_of table i ≡ Some v → v ≡ value_at vs i
