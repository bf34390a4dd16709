use Rattle.std.proofs.Common.{◌≡◌, drop, length}
use Rattle.sk_model.specs.Heap.{with_fields}
use Rattle.sk_interp.proofs.record.with_fields.Given as goal

-- what is set so far, and what is to come
abbrev pub invariant-loop-field : goal.invariant-loop-field
invariant-loop-field l = with_fields l.fn.fields l.fn.set.items ≡ with_fields l.made (drop (length l.yielded) l.fn.set.items)
