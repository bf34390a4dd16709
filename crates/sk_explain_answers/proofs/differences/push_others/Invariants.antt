use Rattle.std.proofs.Common.{◌≡◌, ◌++◌, length}
use Rattle.std.specs.List.{flat_map}
use Rattle.sk_explain_answers.specs.Differences.{behind_comma}
use Rattle.sk_explain_answers.proofs.differences.push_others.Given as goal

abbrev pub invariant-loop-rest : goal.invariant-loop-rest
invariant-loop-rest l = l.note.bytes.items ++ flat_map behind_comma l.rest ≡ l.fn.note.bytes.items ++ flat_map behind_comma l.values

abbrev pub decreases-loop-rest : goal.decreases-loop-rest
decreases-loop-rest l = length l.rest
