use Rattle.std.proofs.Common.{◌≡◌, ◌<◌, drop}
use Rattle.sk_tree.specs.Tokens.{number_from}
use Rattle.sk_exec_values.proofs.number.number_below.Given as goal

-- the number so far is below the limit, and the digits behind it make it the whole number
abbrev pub invariant-loop-b : goal.invariant-loop-b
invariant-loop-b l = record { within : l.number < l.limit; rest : number_from l.number (drop l.b-index l.digits) ≡ number_from 0 l.digits }
