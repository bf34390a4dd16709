use Rattle.std.proofs.Common.{◌≡◌, [], drop, map}
use Rattle.sk_adt.specs.Faults.{sooner, soonest, first_again}
use Rattle.sk_adt.proofs.faults.cases_again.Given as goal

abbrev pub invariant-loop-cases : goal.invariant-loop-cases
invariant-loop-cases l = sooner l.best (soonest (map (first_again []) (drop l.cases-index l.switches))) ≡ soonest (map (first_again []) l.switches)
