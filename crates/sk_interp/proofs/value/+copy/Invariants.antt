use Rattle.std.proofs.Common.{◌≡◌, drop, ◌++◌}
use Rattle.sk_interp.proofs.value.+copy.Given as goal

-- the copies so far and what is not copied yet
abbrev pub invariant-copy_all-loop-v : goal.invariant-copy_all-loop-v
invariant-copy_all-loop-v l = l.made ++ drop l.v-index l.vs ≡ l.vs
