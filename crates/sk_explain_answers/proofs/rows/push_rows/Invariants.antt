use Rattle.std.proofs.Common.{◌≡◌, ◌++◌, length, map}
use Rattle.std.specs.List.{flat_map}
use Rattle.sk_explain_answers.specs.Rows.{words_of, row_of}
use Rattle.sk_explain_answers.proofs.rows.push_rows.Given as goal

abbrev pub invariant-loop-rest : goal.invariant-loop-rest
invariant-loop-rest l = map words_of l.rows ++ flat_map (row_of l.kind) l.rest ≡ map words_of l.fn.rows ++ flat_map (row_of l.kind) l.lines

abbrev pub decreases-loop-rest : goal.decreases-loop-rest
decreases-loop-rest l = length l.rest
