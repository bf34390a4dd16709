use Rattle.std.proofs.Common.{false, true}
use Rattle.sk_dag.specs.Eval.{Keeps}
use Rattle.sk_sym_choices.specs.Orders.{IsGiven}
use Rattle.sk_sym_choices.proofs.Going.{Walked}
use Rattle.sk_sym_choices.proofs.payer.Payer.all.Given as goal

-- what is known so far
abbrev pub invariant-loop-n : goal.invariant-loop-n
invariant-loop-n l = record {
  keeps : Keeps l.initial.dag l.dag;
  never : IsGiven l.dag l.self.never false;
  always : IsGiven l.dag l.self.always true;
  walked : Walked l.self l.funs l.dag l.table l.made l.n l.at;
}
