use Rattle.sk_oblig_queries.specs.Queries.{leaf_of}
use Rattle.sk_oblig_queries.proofs.Steps.{leaves_step}
use Rattle.sk_oblig_queries.proofs.leaves.leaves_of_widths.Goals as goal

pub loop-i-preserved : goal.loop-i-preserved
loop-i-preserved c = leaves_step (leaf_of c.args.query.now) c.args.widths.now c.loop-i.i _ c.in_ok-place.place c.loop-i.leaves c.push_bits.new.leaves c.loop-i-test.true c.in_ok-place.ensures.number c.loop-i.invariant c.in_ok-push_bits.ensures
