use Rattle.std.proofs.Common.{length}
use Rattle.sk_explain_answers.proofs.differences.+tell_sites.Given as goal

abbrev pub decreases-tell_sites : goal.decreases-tell_sites
decreases-tell_sites l = length l.numbers.now
