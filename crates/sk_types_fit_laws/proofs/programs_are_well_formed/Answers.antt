use Rattle.sk_types_fit_laws.proofs.Whole.{well_formed}
use Rattle.sk_types_fit_laws.proofs.programs_are_well_formed.Goals as goal

pub returns : goal.returns
returns c = well_formed
