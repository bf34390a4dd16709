use Rattle.sk_dag.proofs.NodeEq.{same_node, node_same}
use Rattle.sk_dag.proofs.GraphLemmas.{IsWellFormed-insert_key, IsAdded-insert_key}
use Rattle.sk_dag.proofs.EvalLemmas.{Makes-from_added, Keeps-grows}
use Rattle.sk_dag.specs.contracts.node.NodePartialEq.TheImpl as node_eq
use Rattle.sk_dag.proofs.graph.Dag.intern.Goals as goal

pub invariant_of-self-2 : goal.invariant_of-self-2
invariant_of-self-2 c =
    let may = rw (← c.self.view_is) at c.requires in
    let e = c.in_ok-index.ensures in
    rw e.keys (IsWellFormed-insert_key (node_eq.eq-value).it node_same _ _ _ c.self.invariant may (rw e.keys at e.unique))

pub returns-clause-makes : goal.returns-clause-makes
returns-clause-makes c =
    let e = c.in_ok-index.ensures in
    let may = rw (← c.self.view_is) at c.requires in
    rw (← c.self.view_is)
    (Makes-from_added _ _ _ _ c.self.invariant (invariant_of-self-2 c) may (IsAdded-insert_key (node_eq.eq-value).it same_node node_same _ _ _ _ e.stored.0 e.keys e.stored.1 e.stored.2 e.unique))

pub returns-clause-keeps : goal.returns-clause-keeps
returns-clause-keeps c = Keeps-grows (returns-clause-makes c).grows
