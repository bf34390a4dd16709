use Rattle.std.proofs.Common.{length}
use Rattle.sk_gates.specs.Words.{bits_word}
use Rattle.sk_gates.specs.Bits.{bit_true}
use Rattle.sk_gates.proofs.SharingLaws.{Builds-weaker}
use Rattle.sk_gates.proofs.WordLaws.{bits_below}
use Rattle.sk_cnf.proofs.SignedLaws.{absolute}
use Rattle.sk_cnf.proofs.signed.absolute.Goals as goal

pub returns-clause-gate : goal.returns-clause-gate
returns-clause-gate c =
    Builds-weaker _ _ c.in_ok-size.ensures.gate (λ v e.
    absolute (length c.args.bits.now) (bits_word v c.args.bits.now) (bits_word v c.in_ok-size.size) (bit_true v c.sign-negative.result) c.requires.some (bits_below v c.args.bits.now) (c.sign-negative.ensures.value v) e)
