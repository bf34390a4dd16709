use Rattle.std.proofs.Common.{take}
use Rattle.sk_dag.specs.Eval.{Keeps}
use Rattle.sk_sym_choices.specs.Payments.{AreMarked}
use Rattle.sk_sym_choices.proofs.payer.Payer.calls.Given as goal

-- what is called so far is marked
abbrev pub invariant-loop-c : goal.invariant-loop-c
invariant-loop-c l = record {
  keeps : Keeps l.initial.dag l.dag;
  marked : AreMarked l.self l.dag l.node (take l.c-index l.calls) l.fn.table l.table;
}
