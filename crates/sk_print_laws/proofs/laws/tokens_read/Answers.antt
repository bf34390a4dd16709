use Rattle.sk_print_laws.proofs.ItemsRead.{tokens_read}
use Rattle.sk_print_laws.proofs.laws.tokens_read.Goals as goal

pub returns : goal.returns
returns c = tokens_read
