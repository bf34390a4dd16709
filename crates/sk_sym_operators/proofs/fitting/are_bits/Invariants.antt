use Rattle.std.proofs.Common.{take}
use Rattle.sk_arr.specs.Bits.{AreBits}
use Rattle.sk_sym_operators.proofs.fitting.are_bits.Given as goal

-- those so far are bits
abbrev pub invariant-loop-s : goal.invariant-loop-s
invariant-loop-s l = record {
  bits : AreBits (take l.s-index l.list);
}
