use Rattle.std.proofs.Common.{◌≡◌}
use Rattle.sk_explain_names.proofs.dropped.push_dropped.Given as goal

-- the title stays
abbrev pub invariant-loop-it : goal.invariant-loop-it
invariant-loop-it l = l.told.title ≡ l.fn.told.title
