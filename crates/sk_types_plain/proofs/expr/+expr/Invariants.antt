use Rattle.std.proofs.Common.{◌≡◌, drop, ◌++◌}
use Rattle.sk_types_plain.proofs.expr.+expr.Given as goal

-- the copies so far and what is not copied yet
abbrev pub invariant-copy_exprs-loop-e : goal.invariant-copy_exprs-loop-e
invariant-copy_exprs-loop-e l = l.copies ++ drop l.e-index l.es ≡ l.es

abbrev pub invariant-copy_new_fields-loop-field : goal.invariant-copy_new_fields-loop-field
invariant-copy_new_fields-loop-field l = l.copies ++ drop l.field-index l.fields ≡ l.fields
