use Rattle.sk_sym_operators.proofs.Computing.{and_is, or_is, xor_is}
use Rattle.sk_sym_operators.proofs.Meaning.{no_gate}
use Rattle.sk_sym_operators.proofs.words.on_bits.Goals as goal

pub returns-in_ok-made-in-And-clause-computed : goal.returns-in_ok-made-in-And-clause-computed
returns-in_ok-made-in-And-clause-computed c = and_is _ _ _ c.in-And.is c.in_ok-r-in-And.ensures.value c.in_ok-made-in-And.ensures.keeps c.in_ok-made-in-And.ensures.computed

pub returns-in_ok-made-in-Or-clause-computed : goal.returns-in_ok-made-in-Or-clause-computed
returns-in_ok-made-in-Or-clause-computed c = or_is _ _ _ c.in-Or.is c.in_ok-r-in-Or.ensures.value c.in_ok-made-in-Or.ensures.keeps c.in_ok-made-in-Or.ensures.computed

pub returns-in_ok-made-in-Xor-clause-computed : goal.returns-in_ok-made-in-Xor-clause-computed
returns-in_ok-made-in-Xor-clause-computed c = xor_is _ _ _ c.in-Xor.is c.in_ok-r-in-Xor.ensures.value c.in_ok-made-in-Xor.ensures.keeps c.in_ok-made-in-Xor.ensures.computed

pub returns-in_ok-made-in_default-clause-computed : goal.returns-in_ok-made-in_default-clause-computed
returns-in_ok-made-in_default-clause-computed c = no_gate _ _ c.in_default.not-And c.in_default.not-Or c.in_default.not-Xor c.in_ok-made-in_default.ensures.computed
