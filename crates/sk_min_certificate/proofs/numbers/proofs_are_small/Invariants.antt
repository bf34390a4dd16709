use Rattle.std.proofs.Common.{All, take}
use Rattle.sk_cert.specs.Certificates.{IsSmallProof}
use Rattle.sk_min_certificate.proofs.numbers.proofs_are_small.Given as goal

-- those so far
abbrev pub invariant-loop-proof : goal.invariant-loop-proof
invariant-loop-proof l = All IsSmallProof (take l.proof-index l.proofs)
