use Rattle.std.proofs.Common.{◌≡◌, drop, ◌++◌}
use Rattle.sk_types_plain.proofs.copy.copy_params.Given as goal

-- the copies so far and what is not copied yet
abbrev pub invariant-loop-param : goal.invariant-loop-param
invariant-loop-param l = l.copies ++ drop l.param-index l.params ≡ l.params
