use Rattle.sk_oblig_arguments.proofs.Reading.{row_value, rows_value}
use Rattle.sk_oblig_arguments.proofs.argument.value_at.Goals as goal

pub returns-in_ok-r-in-One-clause-reads : goal.returns-in_ok-r-in-One-clause-reads
returns-in_ok-r-in-One-clause-reads c = rw c.in-One.is c.in_ok-r-in-One.ensures.reads

pub returns-in_ok-row-in-Array-clause-reads : goal.returns-in_ok-row-in-Array-clause-reads
returns-in_ok-row-in-Array-clause-reads c = rw c.in-Array.is (row_value c.in-Array.elem c.in-Array.n c.in_ok-row-in-Array.ensures.read)

pub returns-in_ok-rows-in-Grid-clause-reads : goal.returns-in_ok-rows-in-Grid-clause-reads
returns-in_ok-rows-in-Grid-clause-reads c = rw c.in-Grid.is (rows_value c.in-Grid.elem c.in-Grid.n c.in-Grid.m c.in_ok-rows-in-Grid.ensures.read)
