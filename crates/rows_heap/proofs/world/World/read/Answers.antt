use Rattle.rows_heap.proofs.ValueLaws.{bit_value}
use Rattle.rows_heap.proofs.world.World.read.Goals as goal

pub keep-requires-2-clause-value : goal.keep-requires-2-clause-value
keep-requires-2-clause-value c = bit_value _ c.in_ok-made.ensures.null
