use Rattle.std.proofs.Common.{rules, w64, neg_ℤ, FitsSigned, ap, ◌∙◌}
use Rattle.std.proofs.lemmas.Int.{to_z-of_z, wrapping_neg_is}
use Rattle.std.specs.Int.{int_wrapping_neg}
use Rattle.sk_interp.proofs.Numbers.{made}
use Rattle.sk_interp.proofs.number.negate.Goals as goal

pub returns : goal.returns
returns c =
    let fit : FitsSigned w64 c.wrapping_neg.result = search rules in
    let is = to_z-of_z w64 c.wrapping_neg.result fit ∙ c.wrapping_neg.ensures ∙ ap (int_wrapping_neg w64) (to_z-of_z w64 c.args.x c.ranges.x) ∙ wrapping_neg_is w64 c.args.x c.ranges.x in
    made c.args.bits (neg_ℤ c.args.x) _ c.wrap.result c.requires.bits_low c.requires.bits_high c.wrap.ensures.range is c.wrap.ensures.value
