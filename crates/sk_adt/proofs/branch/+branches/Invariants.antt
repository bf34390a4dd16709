use Rattle.std.proofs.Common.{◌≡◌, ◌++◌, drop, map}
use Rattle.sk_adt.specs.Branches.{branched, branched_case}
use Rattle.sk_adt.specs.Chains.{heads}
use Rattle.sk_adt.proofs.branch.+branches.Given as goal

abbrev pub invariant-push_pieces-loop-piece : goal.invariant-push_pieces-loop-piece
invariant-push_pieces-loop-piece l = record {
  tokens : l.out.items ++ branched l.known l.fn.inside.items (drop l.piece-index l.pieces) ≡ l.fn.out.items ++ branched l.known l.fn.inside.items l.pieces;
  same : l.inside.items ≡ l.fn.inside.items;
}

abbrev pub invariant-push_branches-loop-case : goal.invariant-push_branches-loop-case
invariant-push_branches-loop-case l = record {
  tokens : l.out.items ++ heads l.known l.fn.inside.items l.x l.spots (map (branched_case l.known) (drop l.case-index l.cases))
      ≡ l.fn.out.items ++ heads l.known l.fn.inside.items l.x l.fn.spots (map (branched_case l.known) l.cases);
  same : l.inside.items ≡ l.fn.inside.items;
}
