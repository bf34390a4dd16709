use Rattle.std.proofs.Common.{◌≡◌, ◌++◌, drop}
use Rattle.sk_oblig_queries.specs.Numbers.{numbers_said}
use Rattle.sk_oblig_queries.proofs.numbers.numbers_of_bits.Given as goal

-- the numbers so far and those of the bits that are left are all
abbrev pub invariant-loop-width : goal.invariant-loop-width
invariant-loop-width l = l.numbers ++ numbers_said (drop l.width-index l.widths) l.rest ≡ numbers_said l.widths l.bits
