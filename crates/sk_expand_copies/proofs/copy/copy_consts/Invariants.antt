use Rattle.std.proofs.Common.{◌≡◌, drop, ◌++◌}
use Rattle.sk_expand_copies.proofs.copy.copy_consts.Given as goal

-- the copies so far, and what is left
abbrev pub invariant-loop-c : goal.invariant-loop-c
invariant-loop-c l = l.copies.items ++ drop l.c-index l.consts ≡ l.consts
