use Rattle.std.proofs.Common.{◌≡◌}
use Rattle.sk_sym_frames.proofs.Refs.{HaveSoFar}
use Rattle.sk_sym_frames.proofs.ended.refs_of.Given as goal

-- those of the parameters so far are made
abbrev pub invariant-loop-p : goal.invariant-loop-p
invariant-loop-p l = record {
  slot : l.slot ≡ l.p-index;
  refs : HaveSoFar l.params l.slots l.p-index l.made;
}
