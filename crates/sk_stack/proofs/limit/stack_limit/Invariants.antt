use Rattle.std.proofs.Common.{◌≡◌, length, true}
use Rattle.sk_stack.specs.Limits.{limit_from}
use Rattle.sk_stack.proofs.limit.stack_limit.Given as goal

-- what is left tells the same limit
abbrev pub invariant-loop-rest : goal.invariant-loop-rest
invariant-loop-rest l = limit_from l.begins l.rest ≡ limit_from true l.text

abbrev pub decreases-loop-rest : goal.decreases-loop-rest
decreases-loop-rest l = length l.rest
