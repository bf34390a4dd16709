use Rattle.std.proofs.Common.{◌≡◌, ◌<◌, ◌^◌, length}
use Rattle.sk_stack.specs.Limits.{digits_from}
use Rattle.sk_stack.proofs.limit.number_of.Given as goal

-- the digits behind the number so far make it the whole number
abbrev pub invariant-loop-rest : goal.invariant-loop-rest
invariant-loop-rest l = record { small : l.number < 2 ^ 64; rest : digits_from l.number l.rest ≡ digits_from 0 l.digits }

abbrev pub decreases-loop-rest : goal.decreases-loop-rest
decreases-loop-rest l = length l.rest
