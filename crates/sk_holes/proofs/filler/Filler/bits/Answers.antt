-- one more bit
use Rattle.std.proofs.Common.{◌+◌, ◌-◌, ◌∷◌, [], ◌∙◌, append_assoc, arith}
use Rattle.sk_model.specs.Fill.{bit_at}
use Rattle.sk_holes.specs.Filling.{number, bits_filled}
use Rattle.sk_holes.proofs.Lists.{bits_on}
use Rattle.sk_holes.proofs.filler.Filler.bits.Goals as goal

pub loop-preserved : goal.loop-preserved
loop-preserved c =
    let f = c.args.self.now in
    let step = bits_on f.values.now (number f) c.args.span c.args.count c.loop.counter c.loop.at c.loop-test.true in
    let kept = rw step at c.loop.invariant.filled in
    record {
      filled = rw (c.in_ok-push.ensures.items, c.next-number.ensures.value, c.next-number.ensures.at) (append_assoc c.loop.bits.items (bit_at f.values.now (number f) c.args.span c.loop.at ∷ []) (bits_filled f c.args.span (c.args.count - (c.loop.counter + 1)) (c.loop.at + 1)) ∙ kept);
      at = omega (arith, c.loop-test.true, c.loop.invariant.at, c.next-number.ensures.at);
      within = omega (arith, c.loop-test.true);
    }
