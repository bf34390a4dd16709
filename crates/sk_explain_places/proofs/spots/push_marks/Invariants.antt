use Rattle.std.proofs.Common.{◌≡◌, ◌++◌}
use Rattle.sk_explain_places.specs.Spots.{marks}
use Rattle.sk_explain_places.proofs.spots.push_marks.Given as goal

abbrev pub invariant-loop-at : goal.invariant-loop-at
invariant-loop-at l = l.out.items ≡ l.fn.out.items ++ marks l._at
