use Rattle.sk_clause.specs.Values.{open_count}
use Rattle.sk_rup.specs.Steps.{Steps}
use Rattle.sk_rup.proofs.checker.complete.Given as goal

abbrev pub invariant-passes : goal.invariant-passes
invariant-passes l = Steps l.known l.fn.trail l.trail

abbrev pub decreases-passes : goal.decreases-passes
decreases-passes l = open_count l.trail.values.items
