use Rattle.std.proofs.Common.{◌≡◌, ◌∙◌, length}
use Rattle.sk_gates.specs.Words.{bits_word}
use Rattle.sk_gates.specs.Bits.{bit_true}
use Rattle.sk_gates.proofs.ExtensionLaws.{Continues-trans, Continues-adds, on_err}
use Rattle.sk_gates.proofs.SharingLaws.{Builds-then, Builds-both}
use Rattle.sk_gates.proofs.WordLaws.{bits_below}
use Rattle.std.proofs.Common.{◌&&◌}
use Rattle.sk_cnf.proofs.SignedLaws.{charged}
use Rattle.sk_cnf.proofs.signed.charge.Goals as goal

pub returns-clause-gate : goal.returns-clause-gate
returns-clause-gate c =
    let w = length c.args.amount.now in
    let long : length c.in_ok-sum.sum ≡ 64 = c.in_ok-sum.ensures.length ∙ c.requires.cost_length in
    Builds-then _ _ _ (Builds-both _ _ (Builds-both _ _ c.in_ok-counts.ensures.gate c.in_ok-more.ensures.gate) c.in_ok-sum.ensures.gate) c.in_ok-r.ensures.gate (λ v p q.
    let cost_below = rw c.requires.cost_length at (bits_below v c.args.cost.now) in
    let sum_below = rw long at (bits_below v c.in_ok-sum.sum) in
    let top = c.sign.ensures.value v in
    let counts = p.0.0 ∙ (λ i. bit_true v c.args.when && (c.negate.ensures.value v) i) in
    let more = c.in_ok-wide.ensures.value v ∙ p.0.1 in
    let sum = rw (c.as_slice.ensures, more, c.requires.cost_length) at p.1 in
    let r = rw (c.as_slice-2.ensures, c.as_slice-3.ensures, c.in_ok-most.ensures.value v) at q in
    charged w (bits_word v c.args.amount.now) (bits_word v c.args.cost.now) (bits_word v c.in_ok-sum.sum) (bits_word v c.in_ok-r.r) (bit_true v c.args.when) (bit_true v c.sign.result) (bit_true v c.in_ok-counts.counts) (bit_true v c.in_ok-sum.over)
    (bits_below v c.args.amount.now) c.requires.some top counts cost_below sum_below sum r)

pub returns-in_err-most-clause-err : goal.returns-in_err-most-clause-err
returns-in_err-most-clause-err c = on_err _ (Continues-trans (Continues-adds c.in_ok-counts.ensures.gate) (Continues-trans (Continues-adds c.in_ok-more.ensures.gate) (Continues-adds c.in_ok-sum.ensures.gate)))

pub returns-in_err-r-clause-err : goal.returns-in_err-r-clause-err
returns-in_err-r-clause-err c = on_err _ (Continues-trans (Continues-adds c.in_ok-counts.ensures.gate) (Continues-trans (Continues-adds c.in_ok-more.ensures.gate) (Continues-trans (Continues-adds c.in_ok-sum.ensures.gate) c.in_err-r.ensures.err)))
