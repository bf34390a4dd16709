use Rattle.std.proofs.Common.{◌≤◌, ◌<◌, false}
use Rattle.std.specs.Option.{option_copied}
use Rattle.sk_dag.specs.Eval.{Keeps}
use Rattle.sk_sym_choices.specs.Orders.{AreTurns, IsGiven}
use Rattle.sk_sym_choices.proofs.order.turns_of.Given as goal

-- the nodes are the turns of the statement among those that are placed
abbrev pub invariant-loop-placed : goal.invariant-loop-placed
invariant-loop-placed l = record {
  keeps : Keeps l.initial.dag l.dag;
  never : IsGiven l.dag l.never false;
  below : l.fn.k < l._placed;
  within : l._placed ≤ l.fn.count;
  turns : AreTurns l.dag (option_copied l.fn.chosen) l.fn.first l._placed l.fn.k l.made;
}
