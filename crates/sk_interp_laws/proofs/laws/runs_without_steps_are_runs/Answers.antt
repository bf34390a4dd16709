use Rattle.sk_interp_laws.proofs.Runs.{traced_is_run}
use Rattle.sk_interp_laws.proofs.laws.runs_without_steps_are_runs.Goals as goal

pub returns : goal.returns
returns c = traced_is_run
