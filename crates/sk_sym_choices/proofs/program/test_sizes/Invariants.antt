use Rattle.std.proofs.Common.{ℕ, List, ◌<◌, ◌≤◌}
use Rattle.sk_model.specs.Fill.{digit}
use Rattle.sk_sym_choices.specs.Sizes.{AreInRange}
use Rattle.sk_sym_choices.proofs.program.test_sizes.Given as goal

-- those so far are digits
abbrev pub invariant-loop-placed : goal.invariant-loop-placed
invariant-loop-placed l = (values : List ℕ) → AreInRange l.sites values → (j : ℕ) → j < l.placed → digit values l.fn.first j ≤ j
