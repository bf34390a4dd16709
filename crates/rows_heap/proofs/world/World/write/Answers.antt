use Rattle.rows_heap.proofs.ValueLaws.{bit_value}
use Rattle.rows_heap.proofs.world.World.write.Goals as goal

pub keep-requires-clause-value : goal.keep-requires-clause-value
keep-requires-clause-value c = bit_value _ c.in_ok-made.ensures.null
