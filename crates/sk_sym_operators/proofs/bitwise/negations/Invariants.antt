use Rattle.std.proofs.Common.{◌≤◌, length}
use Rattle.sk_dag.specs.Eval.{Keeps}
use Rattle.sk_sym_operators.proofs.EachBit.{AreNegationsSoFar}
use Rattle.sk_sym_operators.proofs.bitwise.negations.Given as goal

-- the bits so far are made
abbrev pub invariant-loop-a : goal.invariant-loop-a
invariant-loop-a l = record {
  keeps : Keeps l.initial.dag l.dag;
  within : l.a-index ≤ length l.x;
  negations : AreNegationsSoFar l.dag l.x l.a-index l.made;
}
