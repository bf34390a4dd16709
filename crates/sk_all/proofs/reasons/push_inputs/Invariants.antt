use Rattle.std.proofs.Common.{◌≡◌, ◌++◌, take}
use Rattle.sk_all.proofs.reasons.push_inputs.Given as goal

-- the copies so far
abbrev pub invariant-loop-i : goal.invariant-loop-i
invariant-loop-i l = l.inputs ≡ l.fn.inputs ++ take l.i l.more
