use Rattle.std.proofs.Common.{◌≡◌, drop, map}
use Rattle.sk_adt.specs.Faults.{sooner, soonest, stray}
use Rattle.sk_adt.proofs.faults.no_variant.Given as goal

abbrev pub invariant-loop-cases : goal.invariant-loop-cases
invariant-loop-cases l = sooner l.best (soonest (map (stray l.known) (drop l.cases-index l.switches))) ≡ soonest (map (stray l.known) l.switches)
