use Rattle.std.proofs.Common.{◌≡◌, ◌-◌, ◌++◌}
use Rattle.std.specs.Prelude.{replicate}
use Rattle.sk_model.specs.Heap.{blank}
use Rattle.sk_interp.proofs.memory.add_blanks.Given as goal

abbrev pub invariant-loop : goal.invariant-loop
invariant-loop l = l.slots ++ replicate (l.count - l.counter) blank ≡ l.initial.slots ++ replicate l.count blank
