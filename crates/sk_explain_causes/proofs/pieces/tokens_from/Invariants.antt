use Rattle.std.proofs.Common.{◌≡◌, length}
use Rattle.sk_explain_causes.specs.Tokens.{tokens_from}
use Rattle.sk_explain_causes.proofs.pieces.tokens_from.Given as goal

abbrev pub invariant-loop-rest : goal.invariant-loop-rest
invariant-loop-rest l = tokens_from l.byte l.tokens ≡ tokens_from l.byte l.rest

abbrev pub decreases-loop-rest : goal.decreases-loop-rest
decreases-loop-rest l = length l.rest
