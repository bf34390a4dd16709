use Rattle.sk_dag.proofs.ReachLemmas.{children_before}
use Rattle.sk_dag.proofs.graph.Dag.reached.Goals as goal

pub mark_reached-requires-clause-ordered : goal.mark_reached-requires-clause-ordered
mark_reached-requires-clause-ordered c = rw c.as_slice.ensures.keys (λ i n at. children_before _ _ i n (c.self.invariant.each i n at))
