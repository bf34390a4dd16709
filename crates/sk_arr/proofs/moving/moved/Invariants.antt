use Rattle.sk_dag.specs.Eval.{Keeps}
use Rattle.sk_arr.proofs.MoveLaws.{IsMovedSoFar}
use Rattle.sk_arr.proofs.moving.moved.Given as goal

-- the bits of the places so far are there
abbrev pub invariant-loop-place : goal.invariant-loop-place
invariant-loop-place l = record {
  keeps : Keeps l.initial.dag l.dag;
  moved : IsMovedSoFar l.dag l.row l.by l.place l.made;
}
