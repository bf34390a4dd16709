use Rattle.sk_print_laws.proofs.Items.{text_tells}
use Rattle.sk_print_laws.proofs.laws.text_tells_tree.Goals as goal

pub returns : goal.returns
returns c = text_tells
