use Rattle.sk_front_laws.proofs.Whole.{texts_fit}
use Rattle.sk_front_laws.proofs.laws.texts_are_well_formed.Goals as goal

pub returns : goal.returns
returns c = texts_fit
