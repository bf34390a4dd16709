use Rattle.std.proofs.Common.{◌≡◌, take}
use Rattle.sk_all_listing.proofs.proposing.copy_inputs.Given as goal

-- the first ones
abbrev pub invariant-loop-i : goal.invariant-loop-i
invariant-loop-i l = l.copies ≡ take l.i l.inputs
