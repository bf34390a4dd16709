use Rattle.sk_model.proofs.OpenRuns.{closed_runs}
use Rattle.sk_model.proofs.running_laws.closed_runs_are_runs.Goals as goal

pub returns : goal.returns
returns c = closed_runs
