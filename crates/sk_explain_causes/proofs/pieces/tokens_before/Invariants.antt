use Rattle.std.proofs.Common.{◌≡◌, ◌≤◌, take, count_by}
use Rattle.sk_explain_causes.specs.Tokens.{begins_before}
use Rattle.sk_explain_causes.proofs.pieces.tokens_before.Given as goal

abbrev pub invariant-loop-token : goal.invariant-loop-token
invariant-loop-token l = (l.count ≡ count_by (begins_before l.byte) (take l.token-index l.tokens)) × (l.count ≤ l.token-index)
