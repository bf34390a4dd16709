use Rattle.std.proofs.Common.{◌≡◌, ◌≤◌, map}
use Rattle.sk_explain_answers.specs.Rows.{words_of}
use Rattle.sk_explain_answers.specs.Differences.{differing}
use Rattle.sk_explain_answers.proofs.differences.differing.Given as goal

-- the sites so far
abbrev pub invariant-loop-site : goal.invariant-loop-site
invariant-loop-site l = record { same : l.numbers ≡ differing (map words_of l.rows) l.site; within : l.site ≤ l.sites }
