use Rattle.std.proofs.Common.{arith, ap, length}
use Rattle.std.proofs.lemmas.List.{length_push}
use Rattle.sk_rup.proofs.TrailLemmas.{covers_pop, front_pop}
use Rattle.sk_rup.proofs.trail.clear.Goals as goal

pub pops-preserved-then-l-values : goal.pops-preserved-then-l-values
pops-preserved-then-l-values c = record {
  covers = covers_pop c.pops.values c.pops.lits.items c.pop.new.self.items c.in-Some.l c.in-Some.ensures.items c.if-l-values.true c.pops.invariant.covers;
  front = front_pop c.args.lits.now.items c.pops.lits.items c.pop.new.self.items c.in-Some.l c.pops.invariant.front c.in-Some.ensures.items;
  enough = omega (arith, ap length c.in-Some.ensures.items, length_push c.pop.new.self.items c.in-Some.l, c.pops.lits.ok.0);
}
