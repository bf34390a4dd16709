use Rattle.std.proofs.Common.{◌<◌, ◌^◌, ◌∙◌, arith}
use Rattle.sk_model.specs.Parts.{value}
use Rattle.sk_sym_folds.proofs.LowBits.{same_whole}
use Rattle.sk_sym_folds.proofs.holes.open_is.Goals as goal

pub returns-clause-value : goal.returns-clause-value
returns-clause-value c = λ g m e h.
    let wide = c.width_of.ensures.wide in
    let n : value e.choice c.args.site < 2 ^ c.width_of.result = omega (arith, wide, h, c.if-k-size.false) in
    let k : c.args.k < 2 ^ c.width_of.result = omega (arith, wide, c.if-k-size.false) in
    (rw c.in_ok-number.ensures.number at (c.in_ok-r-2.ensures.value g m e)) ∙ same_whole (value e.choice c.args.site) c.args.k c.width_of.result n k
