use Rattle.std.proofs.Common.{◌≡◌, ◌≤◌, length}
use Rattle.sk_dag.specs.Eval.{Keeps}
use Rattle.sk_arr.proofs.SumLaws.{IsSumSoFar}
use Rattle.sk_arr.proofs.bits.sum_of.Given as goal

-- the bits so far are added
abbrev pub invariant-loop-x : goal.invariant-loop-x
invariant-loop-x l = record {
  keeps : Keeps l.initial.dag l.dag;
  place : l.i ≡ l.x-index;
  within : l.x-index ≤ length l.a;
  sum : IsSumSoFar l.dag l.a l.b l.x-index l.made l.carry;
}
