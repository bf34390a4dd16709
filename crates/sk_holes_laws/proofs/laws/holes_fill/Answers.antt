use Rattle.sk_holes_laws.proofs.Holes.{holes_fill}
use Rattle.sk_holes_laws.proofs.laws.holes_fill.Goals as goal

pub returns : goal.returns
returns c = holes_fill
