use Rattle.std.proofs.Common.{◌≡◌, drop, ◌++◌}
use Rattle.sk_min_certify.proofs.lower.copy_inputs.Given as goal

-- the copies so far and what is not copied yet
abbrev pub invariant-loop-input : goal.invariant-loop-input
invariant-loop-input l = l.copies ++ drop l.input-index l.inputs ≡ l.inputs
