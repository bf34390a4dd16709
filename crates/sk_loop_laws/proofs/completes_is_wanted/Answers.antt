use Rattle.sk_loop_laws.proofs.Completing.{completes_is_wanted}
use Rattle.sk_loop_laws.proofs.completes_is_wanted.Goals as goal

pub returns : goal.returns
returns c = completes_is_wanted
