use Rattle.std.proofs.Common.{length, ◌-◌, ◌+◌}
use Rattle.sk_rup.specs.Steps.{Steps}
use Rattle.sk_rup.proofs.watches.Watches.propagate.Given as goal

abbrev pub invariant-queue : goal.invariant-queue
invariant-queue l = Steps l.known l.fn.trail l.trail

abbrev pub decreases-queue : goal.decreases-queue
decreases-queue l = (length l.trail.values.items - l.done) + (length l.trail.values.items - l.done_idle)
