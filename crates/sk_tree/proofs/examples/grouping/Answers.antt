use Rattle.std.proofs.Common.{arith}
use Rattle.std.proofs.lemmas.Grind.{common_steps}
use Rattle.sk_tree.specs.declared.expr.EForm.TheFolds.{the_lemmas}
use Rattle.sk_tree.proofs.examples.grouping.Goals as goal

pub returns : goal.returns
returns c = record { left = grind (arith, common_steps, the_lemmas); right = grind (arith, common_steps, the_lemmas) }
