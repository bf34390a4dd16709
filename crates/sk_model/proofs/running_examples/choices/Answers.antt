use Rattle.sk_model.proofs.RunningExamples.{choices}
use Rattle.sk_model.proofs.running_examples.choices.Goals as goal

pub returns : goal.returns
returns c = choices
