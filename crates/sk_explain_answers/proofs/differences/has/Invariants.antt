use Rattle.std.proofs.Common.{◌≡◌, length}
use Rattle.sk_explain_answers.specs.Differences.{has}
use Rattle.sk_explain_answers.proofs.differences.has.Given as goal

abbrev pub invariant-loop-rest : goal.invariant-loop-rest
invariant-loop-rest l = has l.words l.word ≡ has l.rest l.word

abbrev pub decreases-loop-rest : goal.decreases-loop-rest
decreases-loop-rest l = length l.rest
