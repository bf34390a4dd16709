use Rattle.sk_adt_laws.proofs.Words.{small}
use Rattle.sk_adt_laws.proofs.laws.plain_forms_are_small.Goals as goal

pub returns : goal.returns
returns c = small
