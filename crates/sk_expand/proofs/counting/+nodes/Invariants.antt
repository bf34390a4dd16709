use Rattle.std.proofs.Common.{◌≡◌, drop, ◌+◌}
use Rattle.sk_expand.specs.Nodes.{exprs_nodes, fields_nodes}
use Rattle.sk_expand.proofs.counting.+nodes.Given as goal

-- nothing is made, and what is taken so far, and for the rest, is all that is taken
abbrev pub invariant-take_exprs-loop-e : goal.invariant-take_exprs-loop-e
invariant-take_exprs-loop-e l = record {
  copies : l.made.copies ≡ l.fn.made.copies;
  room : l.fn.made.room + exprs_nodes (drop l.e-index l.es) ≡ l.made.room + exprs_nodes l.es;
}

abbrev pub invariant-take_fields-loop-x : goal.invariant-take_fields-loop-x
invariant-take_fields-loop-x l = record {
  copies : l.made.copies ≡ l.fn.made.copies;
  room : l.fn.made.room + fields_nodes (drop l.x-index l.given) ≡ l.made.room + fields_nodes l.given;
}
