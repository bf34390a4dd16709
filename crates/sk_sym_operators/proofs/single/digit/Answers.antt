use Rattle.sk_sym_operators.proofs.Operating.{digit_is, one_word}
use Rattle.sk_sym_operators.proofs.single.digit.Goals as goal

pub returns-clause-value : goal.returns-clause-value
returns-clause-value c = digit_is _ _ _ _ c.in_ok-one.ensures.value c.in_ok-zero.ensures.keeps c.in_ok-zero.ensures.value c.in_ok-r.ensures.keeps c.in_ok-r.ensures.value

pub word-requires : goal.word-requires
word-requires c = one_word c.int_bits-width.ensures.well_formed
