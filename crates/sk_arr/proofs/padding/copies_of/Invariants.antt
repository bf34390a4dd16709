use Rattle.std.specs.Prelude.{replicate}
use Rattle.sk_dag.specs.Graph.{Graph}
use Rattle.sk_arr.specs.Shapes.{Stands}
use Rattle.sk_arr.specs.Answers.{AreCopies}
use Rattle.sk_arr.proofs.padding.copies_of.Given as goal

-- so many copies so far
abbrev pub invariant-loop : goal.invariant-loop
invariant-loop l = (g : Graph) → Stands g l.a → AreCopies g (replicate l.counter l.a) l.made
