use Rattle.std.proofs.Common.{◌≡◌, length}
use Rattle.sk_stack.specs.Limits.{number_at}
use Rattle.sk_stack.proofs.limit.number_at.Given as goal

-- what is left tells the same number
abbrev pub invariant-loop-rest : goal.invariant-loop-rest
invariant-loop-rest l = number_at l.rest ≡ number_at l.text

abbrev pub decreases-loop-rest : goal.decreases-loop-rest
decreases-loop-rest l = length l.rest
