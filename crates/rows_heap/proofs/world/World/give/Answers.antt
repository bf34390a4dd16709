use Rattle.sk_heap.proofs.Heaps.{HeapStands-keeps}
use Rattle.rows_heap.proofs.WorldLaws.{AreValues-keeps}
use Rattle.rows_heap.proofs.world.World.give.Goals as goal

pub invariant_of-self : goal.invariant_of-self
invariant_of-self c = (HeapStands-keeps c.value_given.ensures.keeps c.self.invariant.0, AreValues-keeps c.value_given.ensures.keeps c.self.invariant.1)

pub keep-requires-clause-values : goal.keep-requires-clause-values
keep-requires-clause-values c = AreValues-keeps c.value_given.ensures.keeps c.self.invariant.1

pub keep-requires-clause-value : goal.keep-requires-clause-value
keep-requires-clause-value c = c.in_ok-made.ensures.value _
