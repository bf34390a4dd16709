use Rattle.std.proofs.Common.{take}
use Rattle.sk_dag.specs.Graph.{Graph}
use Rattle.sk_arr.specs.Shapes.{AllStand}
use Rattle.sk_arr.specs.Answers.{AreCopies}
use Rattle.sk_sym.proofs.begin.copies.Given as goal

-- those so far are copied
abbrev pub invariant-loop-a : goal.invariant-loop-a
invariant-loop-a l = (g : Graph) → AllStand g (take l.a-index l.list) → AreCopies g (take l.a-index l.list) l.made
