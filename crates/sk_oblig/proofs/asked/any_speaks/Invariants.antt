use Rattle.std.proofs.Common.{◌≡◌, length, take}
use Rattle.sk_dag.specs.Eval.{Keeps}
use Rattle.sk_oblig_queries.specs.Widths.{obligations_widths}
use Rattle.sk_oblig.specs.Nodes.{SaysAnyBad}
use Rattle.sk_oblig.proofs.asked.any_speaks.Given as goal

-- those so far have their numbers before this one
abbrev pub invariant-loop-obligation : goal.invariant-loop-obligation
invariant-loop-obligation l = record {
  keeps : Keeps l.initial.dag l.dag;
  place : l.first ≡ length (obligations_widths l.fn.bounds.inbits l.fn.expanded.prog (take l.obligation-index l.fn.obligations));
  bad : SaysAnyBad l.dag l.fn.expanded l.fn.choice l.fn.bounds l.fn.limit (take l.obligation-index l.fn.obligations) l.any;
}
