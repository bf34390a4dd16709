-- How many records the runs of a program may make, counted from its text: the forms `new`, with the
-- multiples of the steps, for each obligation by itself. What counts is the greatest of these numbers.
use Rattle.std.specs.Prelude.{ℕ, List}
use Rattle.sk_base.specs.declared.bounds.Bounds.{Bounds}
use Rattle.sk_model.specs.declared.expanded.Expanded.{Expanded}
use Rattle.sk_model.specs.Slots.{greatest}
use Rattle.sk_model.specs.Obligations.{obligations}
use Rattle.sk_model.specs.Steps.{all_work}

-- for each obligation
abbrev pub news_of : Bounds → Expanded → List ℕ
news_of bounds e = all_work (record { node = 0; fresh = 1 }) bounds e.prog.funs (obligations e.prog)

abbrev pub news : Bounds → Expanded → ℕ
news bounds e = greatest (news_of bounds e)
