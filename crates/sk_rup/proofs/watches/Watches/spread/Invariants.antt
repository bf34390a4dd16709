use Rattle.sk_rup.specs.Steps.{Steps}
use Rattle.sk_rup.proofs.watches.Watches.spread.Given as goal

abbrev pub invariant-loop-at : goal.invariant-loop-at
invariant-loop-at l = Steps l.known l.fn.trail l.trail
