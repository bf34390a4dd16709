use Rattle.sk_model.proofs.RunningExamples.{ends}
use Rattle.sk_model.proofs.running_examples.ends.Goals as goal

pub returns : goal.returns
returns c = ends
