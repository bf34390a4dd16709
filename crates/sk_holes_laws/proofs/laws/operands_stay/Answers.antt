use Rattle.sk_holes_laws.proofs.Operands.{wanted_stays}
use Rattle.sk_holes_laws.proofs.laws.operands_stay.Goals as goal

pub returns : goal.returns
returns c = wanted_stays
