use Rattle.std.proofs.Common.{◌≡◌, ◌++◌, length}
use Rattle.std.specs.List.{flat_map}
use Rattle.sk_explain_search.specs.Lines.{behind_blank}
use Rattle.sk_explain_search.proofs.lines.push_holes.Given as goal

abbrev pub invariant-loop-rest : goal.invariant-loop-rest
invariant-loop-rest l = l.note.bytes.items ++ flat_map behind_blank l.rest ≡ l.fn.note.bytes.items ++ flat_map behind_blank l.holes

abbrev pub decreases-loop-rest : goal.decreases-loop-rest
decreases-loop-rest l = length l.rest
