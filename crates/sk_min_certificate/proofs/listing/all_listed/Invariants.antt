use Rattle.std.proofs.Common.{◌≡◌, ◌++◌, All, map, drop}
use Rattle.sk_cert.specs.Certificates.{HasScalars}
use Rattle.sk_cert_inputs.specs.Inputs.{as_listed}
use Rattle.sk_min_certificate.proofs.listing.all_listed.Given as goal

-- the inputs listed so far, each with scalars, and those to come
abbrev pub invariant-loop-input : goal.invariant-loop-input
invariant-loop-input l = record { are : map as_listed l.inputs ≡ l.list ++ map as_listed (drop l.input-index l.inputs); some : All HasScalars l.list }
