use Rattle.std.proofs.Common.{take}
use Rattle.sk_arr.specs.Bits.{AreBits}
use Rattle.rows_values.proofs.known.are_bits.Given as goal

-- those so far are bits
abbrev pub invariant-loop-a : goal.invariant-loop-a
invariant-loop-a l = AreBits (take l.a-index l.list)
