use Rattle.std.proofs.Common.{◌≡◌, ◌∙◌, ap, length}
use Rattle.sk_gates.specs.Words.{bits_word}
use Rattle.sk_gates.proofs.ExtensionLaws.{Continues-trans, Continues-adds, on_err}
use Rattle.sk_gates.proofs.SharingLaws.{Builds-then, Builds-both}
use Rattle.sk_gates.proofs.WordLaws.{bits_below}
use Rattle.sk_cnf.proofs.SignedLaws.{divided}
use Rattle.sk_cnf.proofs.signed.divide_words.Goals as goal

pub returns-clause-gate : goal.returns-clause-gate
returns-clause-gate c =
    let w = length c.args.a.now in
    let first = c.in_ok-dividend.ensures.gate in
    let second = c.in_ok-divisor.ensures.gate in
    let long : length c.in_ok-whole.whole ≡ w = c.in_ok-whole.ensures.quotient_length ∙ ap length c.as_slice.ensures ∙ c.in_ok-dividend.ensures.length in
    Builds-then _ _ _ (Builds-both _ _ (Builds-both _ _ (Builds-both _ _ first second) c.in_ok-whole.ensures.gate) c.in_ok-negative.ensures.gate) c.in_ok-r.ensures.gate (λ v p q.
    let x = p.0.0.0 in
    let y = rw (← c.requires.lengths) at p.0.0.1 in
    let d = rw (c.as_slice.ensures, c.as_slice-2.ensures) at p.0.1.0 in
    let below = rw long at (bits_below v c.in_ok-whole.whole) in
    let r = rw (c.as_slice-3.ensures, long, p.1) at q in
    divided w c.requires.some _ _ _ _ _ _ x y (bits_word v c.in_ok-whole.whole) (bits_word v c.in_ok-r.r) below d r)

pub returns-in_err-negative-clause-err : goal.returns-in_err-negative-clause-err
returns-in_err-negative-clause-err c = on_err _ (Continues-trans (Continues-adds c.in_ok-dividend.ensures.gate) (Continues-trans (Continues-adds c.in_ok-divisor.ensures.gate) (Continues-trans (Continues-adds c.in_ok-whole.ensures.gate) c.in_err-negative.ensures.err)))

pub returns-in_err-r-clause-err : goal.returns-in_err-r-clause-err
returns-in_err-r-clause-err c = on_err _ (Continues-trans (Continues-adds c.in_ok-dividend.ensures.gate) (Continues-trans (Continues-adds c.in_ok-divisor.ensures.gate) (Continues-trans (Continues-adds c.in_ok-whole.ensures.gate) (Continues-trans (Continues-adds c.in_ok-negative.ensures.gate) c.in_err-r.ensures.err))))
