use Rattle.std.proofs.Common.{◌≡◌, take}
use Rattle.sk_dag.specs.Eval.{Keeps}
use Rattle.sk_arr.specs.Steps.{AreWritten}
use Rattle.sk_arr.proofs.index.written.Given as goal

-- those so far are written
abbrev pub invariant-loop-old : goal.invariant-loop-old
invariant-loop-old l = record {
  keeps : Keeps l.initial.dag l.dag;
  place : l.place ≡ l.old-index;
  written : AreWritten l.dag l.guard (take l.old-index l.list) l.index l.value l.made;
}
