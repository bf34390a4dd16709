use Rattle.sk_holes_laws.proofs.Meant.{own_fits}
use Rattle.sk_holes_laws.proofs.laws.own_types_fit.Goals as goal

pub returns : goal.returns
returns c = own_fits
