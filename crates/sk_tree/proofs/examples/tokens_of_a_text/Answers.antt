use Rattle.sk_tree.proofs.TextLemmas.{commented_tokens}
use Rattle.sk_tree.proofs.examples.tokens_of_a_text.Goals as goal

pub returns : goal.returns
returns c = record { tokens = commented_tokens }
