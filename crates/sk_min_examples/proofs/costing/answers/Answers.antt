use Rattle.sk_min_examples.proofs.Bests.{answers}
use Rattle.sk_min_examples.proofs.costing.answers.Goals as goal

pub returns : goal.returns
returns c = answers
