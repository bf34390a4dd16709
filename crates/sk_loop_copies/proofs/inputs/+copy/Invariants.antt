use Rattle.std.proofs.Common.{◌≡◌, drop, ◌++◌}
use Rattle.sk_loop_copies.proofs.inputs.+copy.Given as goal

-- the copies so far and what is not copied yet
abbrev pub invariant-copy_values-loop-value : goal.invariant-copy_values-loop-value
invariant-copy_values-loop-value l = l.copies ++ drop l.value-index l.values ≡ l.values
