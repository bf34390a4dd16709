use Rattle.std.proofs.Common.{◌≡◌, ◌<◌, ◌^◌, drop}
use Rattle.sk_cert.specs.Words.{number_from}
use Rattle.sk_cert.proofs.parse.number_from.Given as goal

-- the digits behind the number so far make it the whole number
abbrev pub invariant-loop-b : goal.invariant-loop-b
invariant-loop-b l = record { small : l.number < 2 ^ 64; rest : number_from l.number (drop l.b-index l.digits) ≡ number_from 0 l.digits }
