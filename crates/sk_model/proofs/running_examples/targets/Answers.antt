use Rattle.sk_model.proofs.RunningExamples.{targets}
use Rattle.sk_model.proofs.running_examples.targets.Goals as goal

pub returns : goal.returns
returns c = targets
