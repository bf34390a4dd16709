use Rattle.std.specs.Option.{option_copied}
use Rattle.sk_dag.specs.Eval.{Keeps}
use Rattle.sk_model.specs.Open.{bits_at}
use Rattle.sk_sym_folds.specs.Chosen.{chosen_values}
use Rattle.sk_sym_literals.specs.Given.{AreChosen}
use Rattle.sk_sym_literals.proofs.hole.hole_bits.Given as goal

-- those so far have their values
abbrev pub invariant-loop-k : goal.invariant-loop-k
invariant-loop-k l = record {
  keeps : Keeps l.initial.dag l.dag;
  chosen : AreChosen l.dag l.expanded (λ e. record { values = chosen_values (option_copied l.chosen) e }) (λ a. bits_at a.values l.initial.dag.bits l.k l.site) l.made;
}
