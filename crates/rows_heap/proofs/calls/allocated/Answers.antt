use Rattle.rows_heap.proofs.WorldLaws.{values_allocated, allocated_value, values_stay}
use Rattle.rows_heap.proofs.calls.allocated.Goals as goal

pub alloc_under-requires-clause-guard : goal.alloc_under-requires-clause-guard
alloc_under-requires-clause-guard c = c.in-Some.ensures _ _ c.requires.values

pub returns-in_err-r-clause-values : goal.returns-in_err-r-clause-values
returns-in_err-r-clause-values c = values_stay c.in_err-r.ensures.keeps c.in_err-r.ensures.err c.requires.values

pub returns-clause-values : goal.returns-clause-values
returns-clause-values c = values_allocated c.in_ok-r.ensures.keeps c.in_ok-r.ensures.allocated c.requires.values

pub returns-clause-value : goal.returns-clause-value
returns-clause-value c = allocated_value c.in_ok-r.ensures.allocated
