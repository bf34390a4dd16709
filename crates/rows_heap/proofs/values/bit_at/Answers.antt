use Rattle.rows_heap.proofs.ValueLaws.{bit_found}
use Rattle.rows_heap.proofs.values.bit_at.Goals as goal

pub returns-in-Bit : goal.returns-in-Bit
returns-in-Bit c = λ g heap are. bit_found (c.in_ok-shape.ensures g heap are) c.in-Bit.is
