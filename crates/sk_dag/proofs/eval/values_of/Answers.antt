use Rattle.std.proofs.Common.{arith, false, refl}
use Rattle.sk_dag.specs.Eval.{values}
use Rattle.sk_dag.specs.declared.node.Node.TheVariants.{Flag}
use Rattle.sk_dag.proofs.EvalLemmas.{values_more, HoldsMachineWords-values}
use Rattle.sk_dag.proofs.ReachLemmas.{each_all}
use Rattle.sk_dag.proofs.eval.values_of.Goals as goal

pub loop-node-init : goal.loop-node-init
unfolding values
loop-node-init c = c.in_ok-values.ensures.items

pub value_of-value-requires-clause-words : goal.value_of-value-requires-clause-words
value_of-value-requires-clause-words c =
    rw c.loop-node.invariant (HoldsMachineWords-values _ _ _ c.requires c.loop-node.node-index (omega arith)).each

pub loop-node-preserved : goal.loop-node-preserved
loop-node-preserved c =
    let more = values_more c.args.bits c.args.env.now c.args.nodes.now c.loop-node.node-index (Flag false) (omega arith) in
    let pushed = c.in_ok-push.ensures.items in
    let valued = c.value_of-value.ensures c.loop-node.values.items (each_all _ _ (λ i k. refl)) in
    cc
