use Rattle.std.proofs.Common.{◌≡◌, ℕ, ◌+◌, ◌-◌, length, get_or}
use Rattle.sk_sat.proofs.known.widen.Given as goal

abbrev pub invariant-places : goal.invariant-places
invariant-places l = (w : ℕ) → get_or l.heads.items w 0 ≡ get_or l.fn.heads.items w 0

abbrev pub decreases-places : goal.decreases-places
decreases-places l = (l.v + 1) - length l.heads.items
