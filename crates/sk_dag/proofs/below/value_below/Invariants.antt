use Rattle.std.proofs.Common.{All, ◌<◌, length}
use Rattle.sk_dag.specs.Eval.{values}
use Rattle.sk_dag.specs.Below.{HoldsValues}
use Rattle.sk_dag.proofs.below.value_below.Given as goal

abbrev pub invariant-loop : goal.invariant-loop
invariant-loop l = record {
  table : HoldsValues l.table (values l.bits l.env l.nodes);
  waiting : All (λ i. i < length l.nodes) l.waiting.items;
}
