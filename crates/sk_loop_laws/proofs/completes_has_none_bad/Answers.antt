use Rattle.sk_loop_laws.proofs.Completing.{completes_has_none_bad}
use Rattle.sk_loop_laws.proofs.completes_has_none_bad.Goals as goal

pub returns : goal.returns
returns c = completes_has_none_bad
