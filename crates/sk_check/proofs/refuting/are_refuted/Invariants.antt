use Rattle.std.proofs.Common.{All, take}
use Rattle.sk_check_laws.specs.Parts.{Refuting}
use Rattle.sk_check.proofs.refuting.are_refuted.Given as goal

-- each so far is refuted
abbrev pub invariant-loop-proof : goal.invariant-loop-proof
invariant-loop-proof l = All Refuting (take l.proof-index l.proofs)
