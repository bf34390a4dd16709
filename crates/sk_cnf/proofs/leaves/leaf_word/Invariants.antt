use Rattle.std.proofs.Common.{◌≡◌, ◌<◌, ℕ, Bool, length, All, map}
use Rattle.sk_gates.specs.Bits.{AreOver}
use Rattle.sk_gates.specs.Words.{bits_word}
use Rattle.sk_cnf.specs.Leaves.{number_of, leaf_bit, with_bit}
use Rattle.sk_cnf.proofs.leaves.leaf_word.Given as goal

abbrev pub invariant-loop-k : goal.invariant-loop-k
invariant-loop-k l = record {
  long : length l.bits ≡ l.k;
  within : (n : ℕ) → All (λ x. x < n) l.fn.names → AreOver n l.bits;
  value : (v : ℕ → Bool) → bits_word v l.bits ≡ number_of l.k (λ k. leaf_bit l.fn.leaves.keys (map v l.fn.names) (with_bit l.fn.leaf k));
}
