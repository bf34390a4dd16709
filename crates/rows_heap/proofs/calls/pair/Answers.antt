use Rattle.rows_heap.proofs.calls.pair.Goals as goal

pub returns : goal.returns
returns c = c.in_ok-shape.ensures _ _ _ _ c.in-Some-pair_of.ensures (c.in-Some-value_at.ensures _ _ c.requires) (c.in-Some-value_at-2.ensures _ _ c.requires)
