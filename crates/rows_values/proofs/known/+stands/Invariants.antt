use Rattle.std.proofs.Common.{take}
use Rattle.sk_arr.specs.Shapes.{AllStand}
use Rattle.rows_values.proofs.known.+stands.Given as goal

-- those so far stand
abbrev pub invariant-all_stand-loop-a : goal.invariant-all_stand-loop-a
invariant-all_stand-loop-a l = AllStand l.dag (take l.a-index l.list)
