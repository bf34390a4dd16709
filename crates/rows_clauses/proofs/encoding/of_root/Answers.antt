use Rattle.std.proofs.Common.{[], refl}
use Rattle.rows_clauses.proofs.encoding.of_root.Goals as goal

pub require-requires-clause-begun : goal.require-requires-clause-begun
require-requires-clause-begun g =
    (record { bits = g.args.dag.now.bits; nodes = [] }, [], g.in_ok-growing.ensures g.args.dag.now.bits, record { bits = refl; nodes = refl })

pub returns : goal.returns
returns g =
    g.in_ok-require.ensures.stands (record { bits = g.args.dag.now.bits; nodes = [] }) [] (g.in_ok-growing.ensures g.args.dag.now.bits) (record { bits = refl; nodes = refl })
