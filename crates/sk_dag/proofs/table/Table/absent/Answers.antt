use Rattle.std.proofs.Common.{arith}
use Rattle.sk_dag.proofs.ReachLemmas.{each_at}
use Rattle.sk_dag.proofs.table.Table.absent.Goals as goal

pub returns-clause-none : goal.returns-clause-none
returns-clause-none c = λ e. each_at _ _ (λ k l. c.loop-index.invariant k (omega (arith, l)))
