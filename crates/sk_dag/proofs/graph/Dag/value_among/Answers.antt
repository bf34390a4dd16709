use Rattle.std.proofs.Common.{arith, length, ◌+◌, ◌<◌}
use Rattle.sk_dag.proofs.EvalLemmas.{IsWellFormed-take, value_at-take}
use Rattle.sk_dag.proofs.graph.Dag.value_among.Goals as goal

pub values_of-requires : goal.values_of-requires
values_of-requires c =
    let below : c.args.index < length c.self.inside.nodes.keys = rw (← c.self.view_is) at c.requires in
    rw c.as_slice.ensures.keys (IsWellFormed-take _ _ _ c.self.invariant (omega arith))

pub returns : goal.returns
returns c =
    let below : c.args.index < length c.self.inside.nodes.keys = rw (← c.self.view_is) at c.requires in
    rw (c.value.ensures, c.in_ok-values.ensures, c.as_slice.ensures.keys, ← c.self.view_is)
    (value_at-take _ _ c.self.inside.nodes.keys (c.args.index + 1) c.args.index (omega arith) (omega arith))
