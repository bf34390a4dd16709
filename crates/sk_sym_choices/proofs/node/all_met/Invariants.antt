use Rattle.std.proofs.Common.{◌≡◌, ◌&&◌, drop}
use Rattle.std.specs.Option.{option_copied}
use Rattle.sk_dag.specs.declared.env.Env.{Env}
use Rattle.sk_dag.specs.Graph.{Graph, Grows, HasBool}
use Rattle.sk_dag.specs.Eval.{bool_value, Keeps}
use Rattle.sk_sym_folds.specs.Chosen.{chosen_values}
use Rattle.sk_sym_choices.specs.Guards.{meets_all}
use Rattle.sk_sym_choices.specs.Sizes.{AreInRange}
use Rattle.sk_sym_choices.proofs.node.all_met.Given as goal

-- the tests so far are met, and those that are left are to be met
abbrev pub invariant-loop-test : goal.invariant-loop-test
invariant-loop-test l = record {
  keeps : Keeps l.initial.dag l.dag;
  there : HasBool l.dag.nodes l.met;
  value : (g : Graph) → Grows l.dag g → (e : Env) → AreInRange l.sites (chosen_values (option_copied l.fn.chosen) e) → (bool_value g e l.met && meets_all (chosen_values (option_copied l.fn.chosen) e) (drop l.test-index l.tests)) ≡ meets_all (chosen_values (option_copied l.fn.chosen) e) l.tests;
}
