use Rattle.sk_adt_text_laws.proofs.Tags.{tags}
use Rattle.sk_adt_text_laws.proofs.laws.lowered_tags_are_integers.Goals as goal

pub returns : goal.returns
returns c = tags
