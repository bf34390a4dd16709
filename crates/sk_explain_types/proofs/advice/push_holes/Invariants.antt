use Rattle.std.proofs.Common.{◌≡◌}
use Rattle.sk_explain_types.proofs.advice.push_holes.Given as goal

-- the title stays
abbrev pub invariant-loop-at : goal.invariant-loop-at
invariant-loop-at l = l.told.title ≡ l.fn.told.title
