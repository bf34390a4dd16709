use Rattle.sk_adt_text.proofs.Keeping.{texts_keep}
use Rattle.sk_adt_text.proofs.laws.texts_keep_variants.Goals as goal

pub returns : goal.returns
returns c = texts_keep
