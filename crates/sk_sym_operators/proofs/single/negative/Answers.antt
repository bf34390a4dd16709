use Rattle.std.proofs.Common.{refl}
use Rattle.sk_sym_operators.proofs.Operating.{neg_is}
use Rattle.sk_sym_operators.proofs.Meaning.{no_negative}
use Rattle.sk_sym_operators.proofs.single.negative.Goals as goal

pub returns-in_ok-made-in-Int-clause-operated : goal.returns-in_ok-made-in-Int-clause-operated
returns-in_ok-made-in-Int-clause-operated c = neg_is c.args.dag.now.bits _ _ refl c.in-Int.is c.in_ok-r-in-Int.ensures.value c.in_ok-made-in-Int.ensures.keeps c.in_ok-made-in-Int.ensures.computed

pub returns-in_ok-made-in_default-clause-operated : goal.returns-in_ok-made-in_default-clause-operated
returns-in_ok-made-in_default-clause-operated c = no_negative c.args.dag.now.bits c.args.a.now c.in_default.not-Int c.in_ok-made-in_default.ensures.computed
