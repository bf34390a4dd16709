use Rattle.std.proofs.Common.{◌≡◌, drop, ◌++◌}
use Rattle.sk_expand_copies.proofs.copy.+copy.Given as goal

-- the copies so far, and what is left
abbrev pub invariant-copy_exprs-loop-e : goal.invariant-copy_exprs-loop-e
invariant-copy_exprs-loop-e l = l.copies.items ++ drop l.e-index l.es ≡ l.es

abbrev pub invariant-copy_fields-loop-x : goal.invariant-copy_fields-loop-x
invariant-copy_fields-loop-x l = l.copies.items ++ drop l.x-index l.given ≡ l.given
