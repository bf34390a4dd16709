use Rattle.std.proofs.Common.{◌≡◌}
use Rattle.sk_sym_operators.specs.Fitting.{nodes_of}
use Rattle.sk_sym_operators.proofs.fitting.nodes_of.Given as goal

-- those so far are made
abbrev pub invariant-loop-i : goal.invariant-loop-i
invariant-loop-i l = record {
  made : l.made ≡ nodes_of l.no l.list l.i;
}
