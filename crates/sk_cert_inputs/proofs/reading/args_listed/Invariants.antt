use Rattle.std.proofs.Common.{◌≡◌, drop}
use Rattle.sk_cert_inputs.specs.Reading.{args_listed}
use Rattle.sk_cert_inputs.proofs.Gathered.{gathered}
use Rattle.sk_cert_inputs.proofs.reading.args_listed.Given as goal

-- the arguments so far, and those of the parameters and scalars to come
abbrev pub invariant-loop-param : goal.invariant-loop-param
invariant-loop-param l = args_listed l.inbits l.params l.args ≡ gathered l.values (args_listed l.inbits (drop l.param-index l.params) l.rest)
