use Rattle.std.proofs.Common.{length, ◌<◌}
use Rattle.std.proofs.lemmas.Option.{slice_get-get_or}
use Rattle.sk_dag.proofs.EvalLemmas.{IsNode-found}
use Rattle.sk_dag.proofs.graph.Dag.node.Goals as goal

pub returns : goal.returns
returns c =
    let below : c.args.index < length c.self.inside.nodes.keys = rw (← c.self.view_is) at c.requires in
    rw (← c.self.view_is, c.as_slice.ensures.keys)
    (IsNode-found _ _ _ c.self.invariant (slice_get-get_or c.self.inside.nodes.keys c.args.index _ below))
