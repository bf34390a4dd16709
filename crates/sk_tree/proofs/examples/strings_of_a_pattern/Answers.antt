use Rattle.std.proofs.Common.{arith}
use Rattle.std.proofs.lemmas.Grind.{common_steps}
use Rattle.sk_tree.specs.declared.pattern.Pattern.TheFolds.{the_lemmas}
use Rattle.sk_tree.proofs.examples.strings_of_a_pattern.Goals as goal

pub returns : goal.returns
returns c = record { strings = grind (arith, common_steps, the_lemmas) }
