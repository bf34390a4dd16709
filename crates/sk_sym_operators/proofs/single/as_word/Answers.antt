use Rattle.std.proofs.Common.{refl}
use Rattle.sk_sym_operators.proofs.Operating.{coerced}
use Rattle.sk_sym_operators.proofs.single.as_word.Goals as goal

pub returns-clause-operated : goal.returns-clause-operated
returns-clause-operated c = coerced _ _ refl c.in_ok-r.ensures.value c.in_ok-made.ensures.keeps c.in_ok-made.ensures.computed
