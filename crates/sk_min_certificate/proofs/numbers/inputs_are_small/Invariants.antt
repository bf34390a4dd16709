use Rattle.std.proofs.Common.{All, take}
use Rattle.sk_cert.specs.Certificates.{IsSmallInput}
use Rattle.sk_min_certificate.proofs.numbers.inputs_are_small.Given as goal

-- those so far
abbrev pub invariant-loop-input : goal.invariant-loop-input
invariant-loop-input l = All IsSmallInput (take l.input-index l.inputs)
