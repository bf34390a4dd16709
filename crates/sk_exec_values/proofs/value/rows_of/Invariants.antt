use Rattle.std.proofs.Common.{◌≡◌, ◌-◌, ◌++◌}
use Rattle.std.specs.Vec.Iter.{into_iter_items}
use Rattle.sk_opts.specs.SpeltValues.{rows_of}
use Rattle.sk_exec_values.proofs.value.rows_of.Given as goal

-- the rows so far, and those of the values to come
abbrev pub invariant-loop : goal.invariant-loop
invariant-loop l = rows_of l.count l.rows l.fn.values.items ≡ l.made ++ rows_of l.count (l.rows - l.counter) (into_iter_items l.rest)
