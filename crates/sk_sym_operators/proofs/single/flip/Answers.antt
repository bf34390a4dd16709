use Rattle.std.proofs.Common.{refl}
use Rattle.sk_sym_operators.proofs.Operating.{flip_is}
use Rattle.sk_sym_operators.proofs.EachBit.{at_shape}
use Rattle.sk_sym_operators.proofs.Meaning.{no_flip}
use Rattle.sk_sym_operators.proofs.single.flip.Goals as goal

pub returns-in_ok-made-in-Bit-clause-operated : goal.returns-in_ok-made-in-Bit-clause-operated
returns-in_ok-made-in-Bit-clause-operated c = flip_is c.args.dag.now.bits _ _ refl c.in-Bit.is c.in_ok-r-in-Bit.ensures.value c.in_ok-made-in-Bit.ensures.keeps c.in_ok-made-in-Bit.ensures.computed

pub returns-in_ok-made-in-Array-clause-operated : goal.returns-in_ok-made-in-Array-clause-operated
returns-in_ok-made-in-Array-clause-operated c = at_shape c.args.dag.now.bits c.in-Array.is c.in_ok-made-in-Array.ensures.operated

pub returns-in_ok-made-in_default-clause-operated : goal.returns-in_ok-made-in_default-clause-operated
returns-in_ok-made-in_default-clause-operated c = no_flip c.args.dag.now.bits c.args.a.now c.in_default.not-Bit c.in_default.not-Array c.in_ok-made-in_default.ensures.computed
