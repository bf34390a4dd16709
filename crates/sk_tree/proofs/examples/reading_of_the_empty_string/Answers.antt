use Rattle.sk_tree.proofs.EmptyString.{reads_not}
use Rattle.sk_tree.proofs.examples.reading_of_the_empty_string.Goals as goal

pub returns : goal.returns
returns c = record { refused = reads_not }
