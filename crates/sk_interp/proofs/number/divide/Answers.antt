use Rattle.std.proofs.Common.{ap, ◌∙◌, w64}
use Rattle.std.proofs.lemmas.Int.{to_z-of_z, quot_is}
use Rattle.sk_base.specs.Word.{wrapped}
use Rattle.sk_interp.proofs.Numbers.{word_fits, quotient_fits, not_minus_one}
use Rattle.sk_interp.proofs.number.divide.Goals as goal

pub returns : goal.returns
returns c =
    let other = not_minus_one c.args.y c.if-y-eqminus1.false in
    let fits = quotient_fits c.args.x c.args.y c.ranges.x c.requires.some other in
    to_z-of_z w64 c.wrap.result (word_fits c.args.bits c.wrap.result c.requires.bits_high c.wrap.ensures.range) ∙ c.wrap.ensures.value ∙ ap (wrapped c.args.bits) (quot_is w64 c.args.x c.args.y c.ranges.x c.ranges.y fits)
