use Rattle.sk_oblig_arguments.proofs.Reading.{null_reads}
use Rattle.sk_oblig_arguments.proofs.argument.elem_at.Goals as goal

pub returns-in-Reference-clause-reads : goal.returns-in-Reference-clause-reads
returns-in-Reference-clause-reads c = rw c.in-Reference.is (null_reads c.in-Reference.field-0 c.args.scalar c.constant_null.result (c.constant_null.ensures c.args.dag.now))
