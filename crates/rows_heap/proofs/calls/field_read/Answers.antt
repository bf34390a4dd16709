use Rattle.sk_heap.proofs.Structs.{field_of_types}
use Rattle.rows_heap.proofs.WorldLaws.{AreValues-keeps, read_value, null_there}
use Rattle.rows_heap.proofs.calls.field_read.Goals as goal

pub read_field-requires-clause-there : goal.read_field-requires-clause-there
read_field-requires-clause-there c = field_of_types c.args.prog.now c.in-Some.target.of c.args.field _ c.in-Some-field_type.ensures

pub read_field-requires-clause-target : goal.read_field-requires-clause-target
read_field-requires-clause-target c = c.in-Some.ensures _ _ c.requires.values

pub returns-clause-value : goal.returns-clause-value
returns-clause-value c = read_value c.in-Some-field_type.ensures c.in_ok-found.ensures.read

pub returns-clause-null : goal.returns-clause-null
returns-clause-null c = null_there c.in_ok-found.ensures.read

pub returns-in_err-found-clause-values : goal.returns-in_err-found-clause-values
returns-in_err-found-clause-values c = AreValues-keeps c.in_err-found.ensures.keeps c.requires.values

pub returns-clause-values : goal.returns-clause-values
returns-clause-values c = AreValues-keeps c.in_ok-found.ensures.keeps c.requires.values
