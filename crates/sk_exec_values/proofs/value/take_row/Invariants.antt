use Rattle.std.proofs.Common.{◌≡◌, ◌-◌, ◌++◌, take, drop}
use Rattle.std.specs.Vec.Iter.{into_iter_items}
use Rattle.sk_exec_values.proofs.value.take_row.Given as goal

-- the values so far are the first, and those to come are behind them
abbrev pub invariant-loop : goal.invariant-loop
invariant-loop l = record {
  row : take l.count (into_iter_items l.fn.rest) ≡ l.row ++ take (l.count - l.counter) (into_iter_items l.rest);
  rest : drop l.count (into_iter_items l.fn.rest) ≡ drop (l.count - l.counter) (into_iter_items l.rest);
}
