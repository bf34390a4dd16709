use Rattle.std.proofs.Common.{sym, ◌∙◌, arith}
use Rattle.sk_oblig_queries.proofs.Powers.{power_on}
use Rattle.sk_oblig_queries.proofs.widths.bits_of_size.Goals as goal

pub loop-bits-preserved : goal.loop-bits-preserved
loop-bits-preserved c = record {
  within = omega (arith, c.loop-bits-test.true);
  first = sym (power_on c.args.size c.loop-bits.bits c.loop-bits-test.true (omega (arith, c.power.ensures, c.if-size-power.false))) ∙ c.loop-bits.invariant.first;
}
