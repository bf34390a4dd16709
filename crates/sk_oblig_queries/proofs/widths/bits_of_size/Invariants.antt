use Rattle.std.proofs.Common.{◌≡◌, ◌≤◌, ◌-◌}
use Rattle.sk_oblig_queries.specs.Numbers.{first_power, bits_of_size}
use Rattle.sk_oblig_queries.proofs.widths.bits_of_size.Given as goal

-- no power before is at least the size
abbrev pub invariant-loop-bits : goal.invariant-loop-bits
invariant-loop-bits l = record {
  within : l.bits ≤ 64;
  first : first_power l.size (64 - l.bits) l.bits ≡ bits_of_size l.size;
}
