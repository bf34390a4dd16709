use Rattle.rows_heap.proofs.ValueLaws.{reference_found}
use Rattle.rows_heap.proofs.values.target_at.Goals as goal

pub returns-in-Reference : goal.returns-in-Reference
returns-in-Reference c = λ g heap are. reference_found (c.in_ok-shape.ensures g heap are) c.in-Reference.is
