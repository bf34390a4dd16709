use Rattle.sk_print_laws.proofs.TextReads.{text_reads}
use Rattle.sk_print_laws.proofs.laws.text_reads.Goals as goal

pub returns : goal.returns
returns c = text_reads
