use Rattle.std.proofs.Common.{arith, refl}
use Rattle.std.proofs.lemmas.Grind.{common_steps}
use Rattle.sk_tree.specs.declared.expr.EForm.TheFolds.{the_lemmas}
use Rattle.sk_types_rules.proofs.examples.constants.Goals as goal

pub returns-clause-seven : goal.returns-clause-seven
returns-clause-seven c = grind (arith, common_steps, the_lemmas)

pub returns-clause-negative : goal.returns-clause-negative
returns-clause-negative c = grind (arith, common_steps, the_lemmas)

pub returns-clause-back : goal.returns-clause-back
returns-clause-back c = grind (arith, common_steps, the_lemmas)

pub returns-clause-beyond : goal.returns-clause-beyond
returns-clause-beyond c = grind (arith, common_steps, the_lemmas)

pub returns-clause-variable : goal.returns-clause-variable
returns-clause-variable c = grind (arith, common_steps, the_lemmas)

pub returns-clause-named : goal.returns-clause-named
returns-clause-named c = grind (arith, common_steps, the_lemmas)

pub returns-clause-hidden : goal.returns-clause-hidden
returns-clause-hidden c = grind (arith, common_steps, the_lemmas)
