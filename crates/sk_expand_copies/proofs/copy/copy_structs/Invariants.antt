use Rattle.std.proofs.Common.{◌≡◌, drop, ◌++◌}
use Rattle.sk_expand_copies.proofs.copy.copy_structs.Given as goal

-- the copies so far, and what is left
abbrev pub invariant-loop-s : goal.invariant-loop-s
invariant-loop-s l = l.copies.items ++ drop l.s-index l.structs ≡ l.structs
