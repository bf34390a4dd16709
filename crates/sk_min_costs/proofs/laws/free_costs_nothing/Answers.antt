use Rattle.sk_min_costs.proofs.Runs.{free_costs_nothing}
use Rattle.sk_min_costs.proofs.laws.free_costs_nothing.Goals as goal

pub returns : goal.returns
returns c = free_costs_nothing
