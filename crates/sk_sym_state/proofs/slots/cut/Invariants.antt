use Rattle.std.proofs.Common.{◌≡◌, take, length}
use Rattle.sk_sym_state.proofs.slots.cut.Given as goal

-- the first so many are there still
abbrev pub invariant-loop-list : goal.invariant-loop-list
invariant-loop-list l = take l.count l.list ≡ take l.count l.fn.list

abbrev pub decreases-loop-list : goal.decreases-loop-list
decreases-loop-list l = length l.list
