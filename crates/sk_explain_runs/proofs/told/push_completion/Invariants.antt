use Rattle.std.proofs.Common.{◌≡◌}
use Rattle.sk_explain_runs.proofs.told.push_completion.Given as goal

-- the title stays
abbrev pub invariant-loop-harness : goal.invariant-loop-harness
invariant-loop-harness l = l.told.title ≡ l.fn.told.title
