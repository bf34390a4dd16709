use Rattle.std.proofs.Common.{◌≡◌}
use Rattle.sk_explain_types.proofs.advice.push_digits.Given as goal

-- the title stays
abbrev pub invariant-loop-rest : goal.invariant-loop-rest
invariant-loop-rest l = l.told.title ≡ l.fn.told.title

abbrev pub decreases-loop-rest : goal.decreases-loop-rest
decreases-loop-rest l = l.rest
