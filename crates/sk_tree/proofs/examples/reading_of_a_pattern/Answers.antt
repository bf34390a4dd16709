use Rattle.sk_tree.proofs.OfferLemmas.{offered_reads}
use Rattle.sk_tree.proofs.examples.reading_of_a_pattern.Goals as goal

pub returns : goal.returns
returns c = record { reads = offered_reads }
