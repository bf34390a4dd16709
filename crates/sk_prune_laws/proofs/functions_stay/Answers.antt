use Rattle.sk_prune_laws.proofs.Runs.{functions_stay}
use Rattle.sk_prune_laws.proofs.functions_stay.Goals as goal

pub returns : goal.returns
returns c = functions_stay
