use Rattle.sk_model.proofs.RunningExamples.{refs}
use Rattle.sk_model.proofs.running_examples.refs.Goals as goal

pub returns : goal.returns
returns c = refs
