use Rattle.std.proofs.Common.{◌≡◌, ◌%◌, ◌^◌, ℕ, Bool, length}
use Rattle.sk_gates.specs.Bits.{AreOver}
use Rattle.sk_gates.specs.Words.{bits_word}
use Rattle.sk_cnf.proofs.signed.constant.Given as goal

abbrev pub invariant-loop-k : goal.invariant-loop-k
invariant-loop-k l = record {
  long : length l.bits ≡ l.k;
  within : (n : ℕ) → AreOver n l.bits;
  value : (v : ℕ → Bool) → bits_word v l.bits ≡ l.fn.number % 2 ^ l.k;
}
