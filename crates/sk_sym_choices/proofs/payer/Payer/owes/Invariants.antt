use Rattle.std.proofs.Common.{take}
use Rattle.sk_dag.specs.Eval.{Keeps}
use Rattle.sk_sym_choices.specs.Payments.{AreOwed}
use Rattle.sk_sym_choices.proofs.payer.Payer.owes.Given as goal

-- what is owed so far is noted
abbrev pub invariant-loop-o : goal.invariant-loop-o
invariant-loop-o l = record {
  keeps : Keeps l.initial.dag l.dag;
  owed : AreOwed l.self l.dag l.node (take l.o-index l.owed) l.fn.made l.made;
}
