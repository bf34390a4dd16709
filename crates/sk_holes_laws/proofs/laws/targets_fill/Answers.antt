use Rattle.sk_holes_laws.proofs.Targets.{targets_fill}
use Rattle.sk_holes_laws.proofs.laws.targets_fill.Goals as goal

pub returns : goal.returns
returns c = targets_fill
