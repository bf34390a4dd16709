use Rattle.std.proofs.Common.{◌≡◌, length, map}
use Rattle.sk_explain_answers.specs.Rows.{words_of}
use Rattle.sk_explain_answers.specs.Differences.{values_from, values_of}
use Rattle.sk_explain_answers.proofs.differences.values_of.Given as goal

-- the rows to come decide
abbrev pub invariant-loop-rest : goal.invariant-loop-rest
invariant-loop-rest l = values_from l.found l.site (map words_of l.rest) ≡ values_of l.site (map words_of l.rows)

abbrev pub decreases-loop-rest : goal.decreases-loop-rest
decreases-loop-rest l = length l.rest
