use Rattle.std.proofs.Common.{length}
use Rattle.sk_explain_causes.proofs.declared.push_listed.Given as goal

abbrev pub decreases-loop-rest : goal.decreases-loop-rest
decreases-loop-rest l = length l.rest
