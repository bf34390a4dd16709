use Rattle.std.proofs.Common.{◌≡◌, ◌≤◌, length}
use Rattle.sk_dag.specs.Eval.{Keeps}
use Rattle.sk_sym_operators.specs.Bitwise.{bitwise}
use Rattle.sk_sym_operators.proofs.EachBit.{ArePairsSoFar}
use Rattle.sk_sym_operators.proofs.bitwise.pairs.Given as goal

-- the bits so far are made
abbrev pub invariant-loop-a : goal.invariant-loop-a
invariant-loop-a l = record {
  keeps : Keeps l.initial.dag l.dag;
  place : l.i ≡ l.a-index;
  within : l.a-index ≤ length l.x;
  pairs : ArePairsSoFar l.dag (bitwise l.op) l.x l.y l.a-index l.made;
}
