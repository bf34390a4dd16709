use Rattle.std.proofs.Common.{◌≡◌, ◌≤◌, ℕ, Bool, length}
use Rattle.sk_gates.specs.Bits.{AreOver}
use Rattle.sk_gates.specs.Words.{bits_word}
use Rattle.sk_gates.proofs.each.padded.Given as goal

abbrev pub invariant-loop : goal.invariant-loop
invariant-loop l = record {
  long : length l.padded ≡ l.counter;
  most : l.counter ≤ l.len;
  within : (n : ℕ) → AreOver n l.fn.bits → AreOver n l.padded;
  value : (v : ℕ → Bool) → bits_word v l.padded ≡ bits_word v l.fn.bits;
}
