use Rattle.std.proofs.Common.{◌≡◌, ◌≤◌, ◌<◌, ◌^◌, length, take}
use Rattle.sk_gates.specs.Words.{number}
use Rattle.sk_oblig_queries.proofs.numbers.number.Given as goal

-- the number of the bits so far
abbrev pub invariant-loop-i : goal.invariant-loop-i
invariant-loop-i l = record {
  within : l.i ≤ length l.bits;
  below : l.number < 2 ^ l.i;
  made : l.number ≡ number (take l.i l.bits);
}
