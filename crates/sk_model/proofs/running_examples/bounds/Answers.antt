use Rattle.sk_model.proofs.RunningExamples.{bounds}
use Rattle.sk_model.proofs.running_examples.bounds.Goals as goal

pub returns : goal.returns
returns c = bounds
