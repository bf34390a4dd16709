use Rattle.std.proofs.Common.{◌≡◌}
use Rattle.sk_explain_causes.proofs.searches.push_pragmas.Given as goal

-- the title stays
abbrev pub invariant-loop-three : goal.invariant-loop-three
invariant-loop-three l = l.told.title ≡ l.fn.told.title
