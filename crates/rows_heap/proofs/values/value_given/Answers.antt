use Rattle.rows_heap.proofs.ValueLaws.{bit_value, int_value, null_value}
use Rattle.rows_heap.proofs.values.value_given.Goals as goal

pub returns-in_ok-id-in-Flag-clause-value : goal.returns-in_ok-id-in-Flag-clause-value
returns-in_ok-id-in-Flag-clause-value c = λ heap. bit_value _ c.in_ok-id-in-Flag.ensures.there

pub returns-in_ok-id-in-InputBit-clause-value : goal.returns-in_ok-id-in-InputBit-clause-value
returns-in_ok-id-in-InputBit-clause-value c = λ heap. bit_value _ c.in_ok-id-in-InputBit.ensures.there

pub returns-in_ok-id-in-Word-clause-value : goal.returns-in_ok-id-in-Word-clause-value
returns-in_ok-id-in-Word-clause-value c = λ heap. int_value _ c.in_ok-id-in-Word.ensures.there

pub returns-in_ok-id-in-InputWord-clause-value : goal.returns-in_ok-id-in-InputWord-clause-value
returns-in_ok-id-in-InputWord-clause-value c = λ heap. int_value _ c.in_ok-id-in-InputWord.ensures.there

pub returns-in-Null-clause-value : goal.returns-in-Null-clause-value
returns-in-Null-clause-value c = λ heap. null_value _ _ c.new-slots.ensures.items
