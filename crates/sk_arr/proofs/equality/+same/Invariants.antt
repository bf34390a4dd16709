use Rattle.std.proofs.Common.{◌≡◌, ◌+◌, ◌*◌, take}
use Rattle.sk_dag.specs.Eval.{Keeps}
use Rattle.sk_arr.specs.Answers.{AreEqual}
use Rattle.sk_arr.proofs.Depths.{depth, depths}
use Rattle.sk_arr.proofs.equality.+same.Given as goal

-- each call goes one down, from a list to an element or from an array to its list
abbrev pub decreases-same : goal.decreases-same
decreases-same l = 2 * depth l.a.now

abbrev pub decreases-same_all : goal.decreases-same_all
decreases-same_all l = 2 * depths l.list.now + 1

-- of those so far
abbrev pub invariant-same_all-loop-a : goal.invariant-same_all-loop-a
invariant-same_all-loop-a l = record {
  keeps : Keeps l.initial.dag l.dag;
  place : l.i ≡ l.a-index;
  equal : AreEqual l.dag (take l.a-index l.list) (take l.a-index l.others) l.r;
}
