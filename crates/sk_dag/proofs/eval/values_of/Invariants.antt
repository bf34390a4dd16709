use Rattle.std.proofs.Common.{◌≡◌, take}
use Rattle.sk_dag.specs.Eval.{values}
use Rattle.sk_dag.proofs.eval.values_of.Given as goal

abbrev pub invariant-loop-node : goal.invariant-loop-node
invariant-loop-node l = l.values.items ≡ values l.bits l.env (take l.node-index l.nodes)
