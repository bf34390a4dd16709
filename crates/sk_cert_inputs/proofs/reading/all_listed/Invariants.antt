use Rattle.std.proofs.Common.{◌≡◌, length}
use Rattle.sk_cert_inputs.specs.Reading.{all_listed}
use Rattle.sk_cert_inputs.proofs.Gathered.{gathered}
use Rattle.sk_cert_inputs.proofs.reading.all_listed.Given as goal

-- the inputs so far, and those to come
abbrev pub invariant-loop-rest : goal.invariant-loop-rest
invariant-loop-rest l = all_listed l.prog l.bounds l.inputs ≡ gathered l.found (all_listed l.prog l.bounds l.rest)

abbrev pub decreases-loop-rest : goal.decreases-loop-rest
decreases-loop-rest l = length l.rest
