use Rattle.std.proofs.Common.{◌≡◌, take, map}
use Rattle.sk_gates.specs.declared.bit.Bit.TheVariants.{Literal}
use Rattle.sk_gates.proofs.convert.as_bits.Given as goal

abbrev pub invariant-loop-i : goal.invariant-loop-i
invariant-loop-i l = record { so_far : l.bits ≡ map Literal (take l.i l.lits) }
