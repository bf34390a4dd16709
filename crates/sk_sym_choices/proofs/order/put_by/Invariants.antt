use Rattle.sk_dag.specs.Eval.{Keeps}
use Rattle.std.proofs.Common.{◌≤◌, ◌+◌, length}
use Rattle.std.specs.Option.{option_copied}
use Rattle.sk_model.specs.Parts.{value}
use Rattle.sk_sym_folds.specs.Chosen.{chosen_values}
use Rattle.sk_sym_choices.proofs.Turns.{IsPutSoFar}
use Rattle.sk_sym_choices.proofs.order.put_by.Given as goal

-- the first turns are worth what they are once one more is put in
abbrev pub invariant-loop-turn : goal.invariant-loop-turn
invariant-loop-turn l = record {
  keeps : Keeps l.initial.dag l.dag;
  within : l.turn ≤ length l.nodes + 1;
  put : IsPutSoFar l.dag (λ e. value (chosen_values (option_copied l.fn.chosen) e) l.fn.site) l.nodes l.fn.node l.turn l.made;
}
