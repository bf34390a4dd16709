use Rattle.std.proofs.Common.{◌≡◌, drop, ◌++◌}
use Rattle.sk_expand_copies.proofs.copy.copy_params.Given as goal

-- the copies so far, and what is left
abbrev pub invariant-loop-param : goal.invariant-loop-param
invariant-loop-param l = l.copies.items ++ drop l.param-index l.params ≡ l.params
