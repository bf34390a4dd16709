use Rattle.std.proofs.Common.{◌^◌, length}
use Rattle.sk_gates.specs.Words.{bits_word}
use Rattle.sk_gates.specs.Bits.{bit_true}
use Rattle.sk_gates.proofs.SharingLaws.{Builds-then}
use Rattle.sk_gates.proofs.WordLaws.{bits_below}
use Rattle.sk_cnf.proofs.SignedLaws.{negated}
use Rattle.sk_cnf.proofs.signed.negate_if.Goals as goal

pub returns-clause-gate : goal.returns-clause-gate
returns-clause-gate c =
    Builds-then _ _ _ c.in_ok-flipped.ensures.gate c.in_ok-r.ensures.gate (λ v p q.
    negated (2 ^ length c.args.bits.now) (bits_word v c.args.bits.now) (bits_word v c.in_ok-flipped.flipped) (bits_word v c.in_ok-r.r) (bit_true v c.args.when) (bits_below v c.args.bits.now) p
    (rw (c.as_slice.ensures, c.as_slice-2.ensures, c.in_ok-none.ensures.value v, c.in_ok-flipped.ensures.length) at q))
