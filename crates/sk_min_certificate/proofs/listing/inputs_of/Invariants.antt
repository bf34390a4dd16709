use Rattle.std.proofs.Common.{◌≡◌, take}
use Rattle.sk_loop_laws.specs.Honest.{inputs_of}
use Rattle.sk_min_certificate.proofs.listing.inputs_of.Given as goal

-- the inputs so far
abbrev pub invariant-loop-i : goal.invariant-loop-i
invariant-loop-i l = l.inputs ≡ inputs_of (take l.i l.pairs)
