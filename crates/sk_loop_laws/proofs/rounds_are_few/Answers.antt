use Rattle.sk_loop_laws.proofs.Counting.{rounds_are_few}
use Rattle.sk_loop_laws.proofs.rounds_are_few.Goals as goal

pub returns : goal.returns
returns c = rounds_are_few
