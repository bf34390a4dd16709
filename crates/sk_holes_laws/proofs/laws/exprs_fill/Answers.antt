use Rattle.sk_holes_laws.proofs.Targets.{exprs_fill}
use Rattle.sk_holes_laws.proofs.laws.exprs_fill.Goals as goal

pub returns : goal.returns
returns c = exprs_fill
