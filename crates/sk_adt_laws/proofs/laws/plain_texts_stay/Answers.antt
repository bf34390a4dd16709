use Rattle.sk_adt_laws.proofs.Stay.{stays}
use Rattle.sk_adt_laws.proofs.laws.plain_texts_stay.Goals as goal

pub returns : goal.returns
returns c = stays
