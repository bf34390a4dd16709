use Rattle.std.proofs.Common.{◌≡◌, take}
use Rattle.sk_dag.specs.Eval.{Keeps}
use Rattle.sk_oblig.specs.Nodes.{SaysInRange}
use Rattle.sk_oblig.proofs.range.in_range.Given as goal

-- the test is done for the sites so far
abbrev pub invariant-loop-site : goal.invariant-loop-site
invariant-loop-site l = record {
  keeps : Keeps l.initial.dag l.dag;
  place : l.place ≡ l.site-index;
  range : SaysInRange l.dag (take l.site-index l.fn.sites) l.all;
}
