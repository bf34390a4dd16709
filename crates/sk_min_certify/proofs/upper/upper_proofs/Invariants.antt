use Rattle.sk_min_certify.proofs.Above.{AreFirst}
use Rattle.sk_min_certify.proofs.upper.upper_proofs.Given as goal

-- a proof for each obligation so far
abbrev pub invariant-loop-place : goal.invariant-loop-place
invariant-loop-place g l = AreFirst l.expanded l.bounds l.choice l.value l.place l.upper
