use Rattle.std.proofs.Common.{refl}
use Rattle.sk_sym_operators.proofs.Operating.{on_two_words}
use Rattle.sk_sym_operators.proofs.Meaning.{word_and_other}
use Rattle.sk_sym_operators.proofs.binary.on_word.Goals as goal

pub returns-in_ok-made-in-Int-clause-operated : goal.returns-in_ok-made-in-Int-clause-operated
returns-in_ok-made-in-Int-clause-operated c = on_two_words _ _ _ _ refl c.in-Int.is c.in_ok-made-in-Int.ensures.computed

pub returns-in_ok-made-in_default-clause-operated : goal.returns-in_ok-made-in_default-clause-operated
returns-in_ok-made-in_default-clause-operated c = word_and_other _ _ _ c.in_default.not-Int c.in_ok-made-in_default.ensures.computed
