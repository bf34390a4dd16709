use Rattle.std.proofs.Common.{◌≡◌}
use Rattle.sk_explain_steps.proofs.tell.push_first.Given as goal

-- the title stays
abbrev pub invariant-loop-step : goal.invariant-loop-step
invariant-loop-step l = l.told.title ≡ l.fn.told.title
