use Rattle.std.proofs.Common.{◌≡◌, drop, ◌++◌}
use Rattle.sk_types_plain.proofs.copy.copy_fields.Given as goal

-- the copies so far and what is not copied yet
abbrev pub invariant-loop-field : goal.invariant-loop-field
invariant-loop-field l = l.copies ++ drop l.field-index l.fields ≡ l.fields
