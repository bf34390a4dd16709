use Rattle.std.proofs.Common.{◌≡◌, ◌≤◌, drop}
use Rattle.sk_tree.specs.Tokens.{number_from}
use Rattle.sk_opts.proofs.number.number_to.Given as goal

abbrev pub invariant-loop-b : goal.invariant-loop-b
invariant-loop-b l = record { within : l.number ≤ l.most; rest : number_from l.number (drop l.b-index l.digits) ≡ number_from 0 l.digits }
