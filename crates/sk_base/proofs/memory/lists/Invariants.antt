use Rattle.std.proofs.Common.{◌≡◌, length}
use Rattle.sk_base.specs.Memory.{is_listed}
use Rattle.sk_base.proofs.memory.lists.Given as goal

abbrev pub invariant-loop-rest : goal.invariant-loop-rest
invariant-loop-rest l = is_listed l.numbers l.number ≡ is_listed l.rest l.number

abbrev pub decreases-loop-rest : goal.decreases-loop-rest
decreases-loop-rest l = length l.rest
