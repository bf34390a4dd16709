use Rattle.std.proofs.Common.{arith}
use Rattle.sk_oblig_queries.proofs.Steps.{number_none}
use Rattle.sk_oblig_queries.proofs.numbers.number.Goals as goal

pub loop-i-init : goal.loop-i-init
loop-i-init c = record { within = omega arith; below = omega arith; made = number_none }
