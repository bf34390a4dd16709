use Rattle.std.proofs.Common.{◌≡◌, ◌-◌}
use Rattle.sk_cert_inputs.specs.Reading.{rows_listed}
use Rattle.sk_cert_inputs.proofs.Gathered.{gathered}
use Rattle.sk_cert_inputs.proofs.reading.rows_listed.Given as goal

-- the rows so far, and those of the scalars to come
abbrev pub invariant-loop-place : goal.invariant-loop-place
invariant-loop-place l = rows_listed l.inbits l.elem l.length l.count l.scalars ≡ gathered l.rows (rows_listed l.inbits l.elem l.length (l.count - l._place) l.rest)
