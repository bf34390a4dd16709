use Rattle.std.proofs.Common.{◌≡◌, drop, ◌++◌}
use Rattle.sk_expand_copies.proofs.copy.copy_field_defs.Given as goal

-- the copies so far, and what is left
abbrev pub invariant-loop-field : goal.invariant-loop-field
invariant-loop-field l = l.copies.items ++ drop l.field-index l.fields ≡ l.fields
