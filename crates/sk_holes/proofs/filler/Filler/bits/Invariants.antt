use Rattle.std.proofs.Common.{◌≡◌, ◌++◌, ◌+◌, ◌-◌, ◌≤◌}
use Rattle.sk_holes.specs.Filling.{bits_filled}
use Rattle.sk_holes.proofs.filler.Filler.bits.Given as goal

-- the bits so far, and those that are left
abbrev pub invariant-loop : goal.invariant-loop
invariant-loop l = record {
  filled : l.bits.items ++ bits_filled l.self l.span (l.count - l.counter) l.at ≡ bits_filled l.self l.span l.count l.fn.at;
  at : l.at + (l.count - l.counter) ≡ l.fn.at + l.count;
  within : l.counter ≤ l.count;
}
