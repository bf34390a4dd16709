use Rattle.std.proofs.Common.{length}
use Rattle.sk_sat.proofs.SettleLemmas.{Settles}
use Rattle.sk_sat.proofs.settle.settle.Given as goal

abbrev pub invariant-conflicts : goal.invariant-conflicts
invariant-conflicts l = Settles l.fn.known l.known l.fn.fresh l.fresh l.fn.trail l.trail l.conflict

abbrev pub decreases-conflicts : goal.decreases-conflicts
decreases-conflicts l = length l.trail.lims.items
