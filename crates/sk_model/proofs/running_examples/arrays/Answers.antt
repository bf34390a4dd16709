use Rattle.sk_model.proofs.RunningExamples.{arrays}
use Rattle.sk_model.proofs.running_examples.arrays.Goals as goal

pub returns : goal.returns
returns c = arrays
