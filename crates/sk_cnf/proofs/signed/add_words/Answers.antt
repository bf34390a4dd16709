use Rattle.std.proofs.Common.{length}
use Rattle.sk_gates.specs.Words.{bits_word}
use Rattle.sk_gates.proofs.SharingLaws.{Builds-weaker}
use Rattle.sk_gates.proofs.WordLaws.{bits_below}
use Rattle.sk_cnf.proofs.SignedLaws.{added}
use Rattle.sk_cnf.proofs.signed.add_words.Goals as goal

pub returns-clause-gate : goal.returns-clause-gate
returns-clause-gate c =
    let w = length c.args.a.now in
    Builds-weaker _ _ c.in_ok-r.ensures.gate (λ v e.
    added w c.requires.some (bits_word v c.args.a.now) (bits_word v c.args.b.now) (bits_word v c.in_ok-r.r) (bits_below v c.args.a.now) (rw (← c.requires.lengths) at (bits_below v c.args.b.now)) e)
