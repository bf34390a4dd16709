use Rattle.sk_oblig_queries.proofs.Steps.{obligations_step}
use Rattle.sk_oblig_queries.proofs.listing.obligations.Goals as goal

pub loop-n-preserved : goal.loop-n-preserved
loop-n-preserved c = obligations_step c.as_slice-fun-items.result.now c.loop-n.n c.fun-item.result (record { index = c.in_ok-index.index }) c.loop-n.list c.push_fun.new.list c.loop-n-test.true c.fun-item.is c.in_ok-index.ensures.number c.loop-n.invariant c.in_ok-push_fun.ensures
