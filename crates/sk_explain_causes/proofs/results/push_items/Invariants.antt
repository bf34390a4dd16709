use Rattle.std.proofs.Common.{◌≡◌}
use Rattle.sk_explain_causes.proofs.results.push_items.Given as goal

-- the title stays
abbrev pub invariant-loop-item : goal.invariant-loop-item
invariant-loop-item l = l.told.title ≡ l.fn.told.title
