use Rattle.std.proofs.Common.{◌≡◌, ◌++◌, length}
use Rattle.std.specs.List.{flat_map}
use Rattle.sk_trace_text.specs.StepTexts.{step_line}
use Rattle.sk_trace_text.proofs.shown.push_steps.Given as goal

-- the text so far, and the lines of the steps to come
abbrev pub invariant-loop-rest : goal.invariant-loop-rest
invariant-loop-rest l = l.out.items ++ flat_map step_line l.rest ≡ l.fn.out.items ++ flat_map step_line l.steps

abbrev pub decreases-loop-rest : goal.decreases-loop-rest
decreases-loop-rest l = length l.rest
