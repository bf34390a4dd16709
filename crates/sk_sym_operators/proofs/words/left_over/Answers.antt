use Rattle.sk_sym_operators.proofs.Computing.{divided_law}
use Rattle.sk_sym_operators.proofs.words.left_over.Goals as goal

pub returns-clause-computed : goal.returns-clause-computed
returns-clause-computed c = divided_law _ _ _ _ c.in_ok-r.ensures.there c.in_ok-r.ensures.value c.in_ok-zero.ensures.value c.in_ok-zero.ensures.keeps c.in_ok-fails.ensures.keeps c.in_ok-fails.ensures.there c.in_ok-fails.ensures.value
