use Rattle.std.proofs.Common.{◌≡◌, ◌++◌, drop}
use Rattle.sk_adt.proofs.push.push_copies.Given as goal

abbrev pub invariant-loop-token : goal.invariant-loop-token
invariant-loop-token l = l.out.items ++ drop l.token-index l.tokens ≡ l.fn.out.items ++ l.tokens
