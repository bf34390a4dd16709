use Rattle.std.proofs.Common.{◌≡◌, take}
use Rattle.sk_adt.proofs.token.copies.Given as goal

abbrev pub invariant-loop-token : goal.invariant-loop-token
invariant-loop-token l = l.out ≡ take l.token-index l.tokens
