use Rattle.std.proofs.Common.{arith}
use Rattle.std.proofs.lemmas.Grind.{common_steps}
use Rattle.sk_tree.specs.declared.expr.EForm.TheFolds.{the_lemmas}
use Rattle.sk_tree.specs.declared.stmt.Form.TheFolds.{the_lemmas as stmt_lemmas}
use Rattle.sk_types_rules.proofs.examples.plain_forms.Goals as goal

pub returns-clause-step : goal.returns-clause-step
returns-clause-step c = grind (arith, common_steps, the_lemmas, stmt_lemmas)

pub returns-clause-names : goal.returns-clause-names
returns-clause-names c = grind (arith, common_steps, the_lemmas, stmt_lemmas)

pub returns-clause-loops : goal.returns-clause-loops
returns-clause-loops c = grind (arith, common_steps, the_lemmas, stmt_lemmas)
