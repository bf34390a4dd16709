use Rattle.std.proofs.Common.{◌≡◌, take}
use Rattle.sk_check.proofs.same.is_same_list.Given as goal

-- the same clauses so far
abbrev pub invariant-loop-i : goal.invariant-loop-i
invariant-loop-i l = take l.i l.one ≡ take l.i l.other
