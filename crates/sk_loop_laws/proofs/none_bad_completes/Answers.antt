use Rattle.sk_loop_laws.proofs.Completing.{none_bad_completes}
use Rattle.sk_loop_laws.proofs.none_bad_completes.Goals as goal

pub returns : goal.returns
returns c = none_bad_completes
