use Rattle.sk_min_examples.proofs.Pairs.{budgets}
use Rattle.sk_min_examples.proofs.pairing.budgets.Goals as goal

pub returns : goal.returns
returns c = budgets
