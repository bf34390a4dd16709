use Rattle.std.proofs.Common.{ℕ, ◌<◌, get_or}
use Rattle.sk_dag.specs.Below.{IsKnown}
use Rattle.sk_dag.proofs.table.Table.absent.Given as goal

abbrev pub invariant-loop-index : goal.invariant-loop-index
invariant-loop-index l = (k : ℕ) → k < l.index-index → IsKnown l.self (get_or l.indices k 0)
