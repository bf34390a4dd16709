use Rattle.std.proofs.Common.{◌≡◌, drop, ◌+◌}
use Rattle.sk_model.specs.Nodes.{consts_nodes}
use Rattle.sk_expand.proofs.counting.take_consts.Given as goal

-- nothing is made, and what is taken so far, and for the rest, is all that is taken
abbrev pub invariant-loop-c : goal.invariant-loop-c
invariant-loop-c l = record {
  copies : l.made.copies ≡ l.fn.made.copies;
  room : l.fn.made.room + consts_nodes (drop l.c-index l.consts) ≡ l.made.room + consts_nodes l.consts;
}
