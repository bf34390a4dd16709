use Rattle.sk_dag.proofs.ReachLemmas.{AddsAtMost-made}
use Rattle.sk_dag.proofs.graph.Dag.copy_wanted.Goals as goal

pub returns-clause-only : goal.returns-clause-only
returns-clause-only c = AddsAtMost-made c.args.wanted c.if-not-wanted.false c.in_ok-number.ensures.makes
