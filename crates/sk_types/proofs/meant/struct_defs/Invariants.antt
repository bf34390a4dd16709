use Rattle.std.proofs.Common.{◌≡◌, ◌++◌}
use Rattle.std.specs.Vec.Iter.{into_iter_items}
use Rattle.sk_types.proofs.meant.struct_defs.Given as goal

-- the structs so far and those to come
abbrev pub invariant-loop-table : goal.invariant-loop-table
invariant-loop-table l = l.fn.tables ≡ l.defs ++ into_iter_items l.table-iterator
