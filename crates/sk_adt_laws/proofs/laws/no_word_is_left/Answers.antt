use Rattle.sk_adt_laws.proofs.Words.{no_word}
use Rattle.sk_adt_laws.proofs.laws.no_word_is_left.Goals as goal

pub returns : goal.returns
returns c = no_word
