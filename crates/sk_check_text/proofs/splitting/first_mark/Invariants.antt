use Rattle.std.proofs.Common.{◌≡◌, ◌+◌, length, true}
use Rattle.sk_check_text.specs.Steps.{first_mark}
use Rattle.sk_check_text.proofs.splitting.first_mark.Given as goal

abbrev pub invariant-loop-rest : goal.invariant-loop-rest
invariant-loop-rest l = record { found : first_mark true 0 l.input ≡ first_mark l.starts l.at l.rest; passed : l.at + length l.rest ≡ length l.input }

abbrev pub decreases-loop-rest : goal.decreases-loop-rest
decreases-loop-rest l = length l.rest
