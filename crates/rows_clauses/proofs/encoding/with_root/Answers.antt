use Rattle.sk_dag.proofs.EvalLemmas.{Grows-refl}
use Rattle.rows_clauses.proofs.encoding.with_root.Goals as goal

pub require-requires-clause-begun : goal.require-requires-clause-begun
require-requires-clause-begun g =
    (g.args.dag.now, _, g.requires.1, Grows-refl g.args.dag.now)
