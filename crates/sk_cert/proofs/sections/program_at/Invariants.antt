use Rattle.std.proofs.Common.{length}
use Rattle.sk_cert.proofs.Advance.{IsUpTo}
use Rattle.sk_cert.proofs.sections.program_at.Given as goal

abbrev pub invariant-loop-end : goal.invariant-loop-end
invariant-loop-end l = IsUpTo l.text l.rest

abbrev pub decreases-loop-end : goal.decreases-loop-end
decreases-loop-end l = length l.rest
