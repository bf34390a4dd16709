use Rattle.std.proofs.Common.{◌≡◌}
use Rattle.sk_explain_runs.proofs.unused.push_numbers.Given as goal

-- the title stays
abbrev pub invariant-loop-number : goal.invariant-loop-number
invariant-loop-number l = l.told.title ≡ l.fn.told.title
