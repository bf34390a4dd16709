use Rattle.sk_min_costs.proofs.Runs.{free_is_best}
use Rattle.sk_min_costs.proofs.laws.free_is_best.Goals as goal

pub returns : goal.returns
returns c = free_is_best
