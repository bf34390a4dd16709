use Rattle.std.proofs.Common.{sym, ◌∙◌}
use Rattle.sk_sym_operators.proofs.Meaning.{not_bitwise}
use Rattle.sk_sym_operators.proofs.bitwise.joined_bit.Goals as goal

pub returns-in_ok-r-in_default-clause-value : goal.returns-in_ok-r-in_default-clause-value
returns-in_ok-r-in_default-clause-value c = λ h more e. c.in_ok-r-in_default.ensures.value h more e ∙ sym (not_bitwise _ _ _ c.in_default.not-And c.in_default.not-Or c.in_default.not-Xor)
