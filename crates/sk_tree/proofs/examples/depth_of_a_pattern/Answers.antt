use Rattle.std.proofs.Common.{arith}
use Rattle.std.proofs.lemmas.Grind.{common_steps}
use Rattle.sk_tree.specs.declared.pattern.Pattern.TheFolds.{the_lemmas as of_pattern}
use Rattle.sk_tree.specs.declared.expr.EForm.TheFolds.{the_lemmas as of_expr}
use Rattle.sk_tree.proofs.examples.depth_of_a_pattern.Goals as goal

pub returns : goal.returns
returns c = record { depth = grind (arith, common_steps, of_pattern, of_expr) }
