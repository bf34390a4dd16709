use Rattle.std.proofs.Common.{◌≤◌}
use Rattle.std.specs.Option.{option_copied}
use Rattle.sk_dag.specs.Eval.{Keeps}
use Rattle.sk_sym_choices.specs.Payments.{AreColumns}
use Rattle.sk_sym_choices.proofs.program.orders.Given as goal

-- the first columns are made
abbrev pub invariant-loop-k : goal.invariant-loop-k
invariant-loop-k l = record {
  keeps : Keeps l.initial.dag l.dag;
  within : l.k ≤ l.fn.count;
  columns : AreColumns l.dag l.expanded (option_copied l.fn.chosen) l.fn.first l.fn.count l.k l.made;
}
