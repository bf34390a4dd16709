use Rattle.std.proofs.Common.{take}
use Rattle.sk_arr.specs.Shapes.{AlikeTo}
use Rattle.rows_values.proofs.known.alike_to.Given as goal

-- those so far have the form
abbrev pub invariant-loop-b : goal.invariant-loop-b
invariant-loop-b l = AlikeTo l.a (take l.b-index l.list)
