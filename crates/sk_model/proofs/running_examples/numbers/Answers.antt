use Rattle.sk_model.proofs.RunningExamples.{numbers}
use Rattle.sk_model.proofs.running_examples.numbers.Goals as goal

pub returns : goal.returns
returns c = numbers
