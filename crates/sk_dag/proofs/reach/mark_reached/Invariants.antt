use Rattle.std.proofs.Common.{◌≤◌, length}
use Rattle.sk_dag.proofs.ReachLemmas.{MarksFrom}
use Rattle.sk_dag.proofs.reach.mark_reached.Given as goal

abbrev pub invariant-loop-i : goal.invariant-loop-i
invariant-loop-i l = record {
  bound : l.i ≤ length l.nodes;
  from : MarksFrom l.nodes l.roots l.marks l.i;
}

abbrev pub decreases-loop-i : goal.decreases-loop-i
decreases-loop-i l = l.i
