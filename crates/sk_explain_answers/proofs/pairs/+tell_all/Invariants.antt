use Rattle.std.proofs.Common.{length}
use Rattle.sk_explain_answers.proofs.pairs.+tell_all.Given as goal

abbrev pub decreases-tell_all : goal.decreases-tell_all
decreases-tell_all l = length l.pairs.now
