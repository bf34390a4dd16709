use Rattle.std.proofs.Common.{◌≡◌, length}
use Rattle.sk_cert_inputs.specs.Reading.{row_listed}
use Rattle.sk_cert_inputs.proofs.Gathered.{gathered}
use Rattle.sk_cert_inputs.proofs.reading.row_listed.Given as goal

-- the elements so far, and those of the scalars to come
abbrev pub invariant-loop-rest : goal.invariant-loop-rest
invariant-loop-rest l = row_listed l.inbits l.elem l.scalars ≡ gathered l.row (row_listed l.inbits l.elem l.rest)

abbrev pub decreases-loop-rest : goal.decreases-loop-rest
decreases-loop-rest l = length l.rest
