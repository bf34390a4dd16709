use Rattle.std.proofs.Common.{◌∙◌, ◌-◌, arith, ap, length}
use Rattle.sk_gates.specs.Bits.{bit_true}
use Rattle.sk_cnf.proofs.StepLaws.{sign_top}
use Rattle.sk_cnf.proofs.signed.sign.Goals as goal

pub returns-clause-value : goal.returns-clause-value
returns-clause-value c = λ v. ap (bit_true v) c.bit_at.ensures.bit ∙ sign_top v c.args.bits.now (length c.args.bits.now - 1) (omega arith)
