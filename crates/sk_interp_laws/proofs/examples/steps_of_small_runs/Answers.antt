use Rattle.sk_interp_laws.proofs.Computed.{examples}
use Rattle.sk_interp_laws.proofs.examples.steps_of_small_runs.Goals as goal

pub returns : goal.returns
returns c = examples
