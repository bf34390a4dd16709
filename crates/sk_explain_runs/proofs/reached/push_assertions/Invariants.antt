use Rattle.std.proofs.Common.{◌≡◌}
use Rattle.sk_explain_runs.proofs.reached.push_assertions.Given as goal

-- the title stays
abbrev pub invariant-loop-byte : goal.invariant-loop-byte
invariant-loop-byte l = l.told.title ≡ l.fn.told.title
