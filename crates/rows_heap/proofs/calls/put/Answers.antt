use Rattle.rows_heap.proofs.WorldLaws.{may_write, can_write, values_stay, values_written}
use Rattle.rows_heap.proofs.calls.put.Goals as goal

pub write_field_under-requires-clause-guard : goal.write_field_under-requires-clause-guard
write_field_under-requires-clause-guard c = c.in-Some.ensures _ _ c.requires.values

pub write_field_under-requires-clause-write : goal.write_field_under-requires-clause-write
write_field_under-requires-clause-write c = can_write c.requires.heap c.in-Some-field_type.ensures (c.in-Some-target_at.ensures _ _ c.requires.values) (c.in-Some-value_at.ensures _ _ c.requires.values)

pub returns-in_err-null-clause-heap : goal.returns-in_err-null-clause-heap
returns-in_err-null-clause-heap c =
    c.in_err-null.ensures.stands c.args.prog.now _
    (may_write c.requires.heap c.in-Some-field_type.ensures (c.in-Some-target_at.ensures _ _ c.requires.values) (c.in-Some-value_at.ensures _ _ c.requires.values))

pub returns-in_err-null-clause-values : goal.returns-in_err-null-clause-values
returns-in_err-null-clause-values c = values_stay c.in_err-null.ensures.keeps c.in_err-null.ensures.err c.requires.values

pub returns-clause-heap : goal.returns-clause-heap
returns-clause-heap c =
    c.in_ok-null.ensures.stands c.args.prog.now _
    (may_write c.requires.heap c.in-Some-field_type.ensures (c.in-Some-target_at.ensures _ _ c.requires.values) (c.in-Some-value_at.ensures _ _ c.requires.values))

pub returns-clause-values : goal.returns-clause-values
returns-clause-values c = values_written c.in_ok-null.ensures.keeps c.in_ok-null.ensures.written c.requires.values
