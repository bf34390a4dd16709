use Rattle.std.proofs.Common.{◌≡◌}
use Rattle.sk_explain_names.proofs.asked.push_functions.Given as goal

-- the title stays
abbrev pub invariant-loop-number : goal.invariant-loop-number
invariant-loop-number l =
    (goal.iterator-loop-number).can_next l.number-iterator ×
    (goal.iterator-loop-number).is_finite l.number-iterator ×
    (l.told.title ≡ l.fn.told.title)
