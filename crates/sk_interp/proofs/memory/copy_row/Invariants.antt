use Rattle.std.proofs.Common.{◌≡◌, drop, ◌++◌}
use Rattle.sk_interp.proofs.memory.copy_row.Given as goal

-- the copies so far and what is not copied yet
abbrev pub invariant-loop-v : goal.invariant-loop-v
invariant-loop-v l = l.made ++ drop l.v-index l.vs ≡ l.vs
