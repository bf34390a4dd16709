use Rattle.std.proofs.Common.{◌≡◌, ℕ, ◌+◌, ◌^◌, Bool, length, take}
use Rattle.sk_gates.specs.Bits.{AreOver}
use Rattle.sk_gates.specs.Words.{bits_word}
use Rattle.sk_gates.proofs.each.not_each.Given as goal

abbrev pub invariant-loop-i : goal.invariant-loop-i
invariant-loop-i l = record {
  long : length l.opposite ≡ l.i;
  within : (n : ℕ) → AreOver n l.bits → AreOver n l.opposite;
  value : (v : ℕ → Bool) → bits_word v l.opposite + bits_word v (take l.i l.bits) + 1 ≡ 2 ^ l.i;
}
