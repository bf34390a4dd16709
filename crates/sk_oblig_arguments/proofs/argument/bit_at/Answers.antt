use Rattle.sk_oblig_arguments.proofs.Reading.{bit_reads}
use Rattle.sk_oblig_arguments.proofs.argument.bit_at.Goals as goal

pub returns-clause-reads : goal.returns-clause-reads
returns-clause-reads c = bit_reads c.in_ok-id.id c.args.scalar c.in_ok-id.ensures.there c.in_ok-id.ensures.value
