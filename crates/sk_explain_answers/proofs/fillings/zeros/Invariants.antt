use Rattle.std.proofs.Common.{◌≡◌, ◌++◌, length}
use Rattle.sk_explain_answers.specs.Fillings.{zeros}
use Rattle.sk_explain_answers.proofs.fillings.zeros.Given as goal

abbrev pub invariant-loop-rest : goal.invariant-loop-rest
invariant-loop-rest l = l.values ++ zeros l.rest ≡ zeros l.sites

abbrev pub decreases-loop-rest : goal.decreases-loop-rest
decreases-loop-rest l = length l.rest
