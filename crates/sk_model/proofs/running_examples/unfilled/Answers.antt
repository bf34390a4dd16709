use Rattle.sk_model.proofs.RunningExamples.{unfilled}
use Rattle.sk_model.proofs.running_examples.unfilled.Goals as goal

pub returns : goal.returns
returns c = unfilled
