use Rattle.std.proofs.Common.{◌≡◌}
use Rattle.sk_explain_runs.proofs.unused.push_sites.Given as goal

-- the title stays
abbrev pub invariant-loop-span : goal.invariant-loop-span
invariant-loop-span l = l.told.title ≡ l.fn.told.title
