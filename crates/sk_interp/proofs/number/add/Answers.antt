use Rattle.std.proofs.Common.{w64, ◌+ℤ◌}
use Rattle.std.proofs.lemmas.Int.{wrapping_add_is}
use Rattle.sk_interp.proofs.Numbers.{made}
use Rattle.sk_interp.proofs.number.add.Goals as goal

pub returns : goal.returns
returns c = made c.args.bits (c.args.x +ℤ c.args.y) _ c.wrap.result c.requires.bits_low c.requires.bits_high c.wrap.ensures.range (wrapping_add_is w64 c.args.x c.args.y c.ranges.x c.ranges.y) c.wrap.ensures.value
