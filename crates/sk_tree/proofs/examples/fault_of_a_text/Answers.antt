use Rattle.sk_tree.proofs.TextLemmas.{unclosed_fault}
use Rattle.sk_tree.proofs.examples.fault_of_a_text.Goals as goal

pub returns : goal.returns
returns c = record { fault = unclosed_fault }
