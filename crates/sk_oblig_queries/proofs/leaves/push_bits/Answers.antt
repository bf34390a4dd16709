use Rattle.sk_oblig_queries.specs.Queries.{leaf_of}
use Rattle.sk_oblig_queries.proofs.Steps.{bits_next}
use Rattle.sk_oblig_queries.proofs.leaves.push_bits.Goals as goal

pub loop-k-preserved : goal.loop-k-preserved
loop-k-preserved c = bits_next (leaf_of c.args.query.now c.args.place) c.loop-k.k c.leaf_of.result c.args.leaves.now c.loop-k.leaves c.push.new.self c.leaf_of.ensures c.loop-k.invariant c.in_ok-push.ensures.ok
