use Rattle.rows_heap.proofs.ValueLaws.{values_alike, chosen_value}
use Rattle.rows_heap.proofs.WorldLaws.{AreValues-keeps}
use Rattle.rows_heap.proofs.calls.chosen.Goals as goal

pub choose-requires-clause-c : goal.choose-requires-clause-c
choose-requires-clause-c c = c.in-Some.ensures _ _ c.requires.values

pub choose-requires-clause-a : goal.choose-requires-clause-a
choose-requires-clause-a c = (c.in-Some-value_at.ensures _ _ c.requires.values).stands

pub choose-requires-clause-b : goal.choose-requires-clause-b
choose-requires-clause-b c = (c.in-Some-value_at-2.ensures _ _ c.requires.values).stands

pub choose-requires-clause-alike : goal.choose-requires-clause-alike
choose-requires-clause-alike c = values_alike (c.in-Some-value_at.ensures _ _ c.requires.values) (c.in-Some-value_at-2.ensures _ _ c.requires.values)

pub returns-clause-value : goal.returns-clause-value
returns-clause-value c = chosen_value c.in_ok-shape.ensures.choice (c.in-Some-value_at.ensures _ _ c.requires.values) (c.in-Some-value_at-2.ensures _ _ c.requires.values)

pub returns-in_err-shape-clause-values : goal.returns-in_err-shape-clause-values
returns-in_err-shape-clause-values c = AreValues-keeps c.in_err-shape.ensures.keeps c.requires.values

pub returns-clause-values : goal.returns-clause-values
returns-clause-values c = AreValues-keeps c.in_ok-shape.ensures.keeps c.requires.values
