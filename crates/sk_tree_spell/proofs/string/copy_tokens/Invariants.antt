use Rattle.std.proofs.Common.{◌≡◌, drop, ◌++◌}
use Rattle.sk_tree_spell.proofs.string.copy_tokens.Given as goal

abbrev pub invariant-loop-token : goal.invariant-loop-token
invariant-loop-token l = l.out ++ drop l.token-index l.tokens ≡ l.tokens
