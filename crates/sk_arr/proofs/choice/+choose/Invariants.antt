use Rattle.std.proofs.Common.{◌≡◌, ◌+◌, ◌*◌, take}
use Rattle.sk_dag.specs.Eval.{Keeps}
use Rattle.sk_arr.specs.Answers.{AreChoices}
use Rattle.sk_arr.proofs.Depths.{depth, depths}
use Rattle.sk_arr.proofs.choice.+choose.Given as goal

-- each call goes one down, from a list to an element or from an array to its list
abbrev pub decreases-choose_parts : goal.decreases-choose_parts
decreases-choose_parts l = 2 * depth l.a.now

abbrev pub decreases-choose_all : goal.decreases-choose_all
decreases-choose_all l = 2 * depths l.list.now + 1

-- of those so far one is chosen each
abbrev pub invariant-choose_all-loop-a : goal.invariant-choose_all-loop-a
invariant-choose_all-loop-a l = record {
  keeps : Keeps l.initial.dag l.dag;
  place : l.i ≡ l.a-index;
  choices : AreChoices l.dag l.c (take l.a-index l.list) (take l.a-index l.others) l.made;
}
