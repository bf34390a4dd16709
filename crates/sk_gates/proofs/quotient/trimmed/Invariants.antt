use Rattle.std.proofs.Common.{◌≡◌, ◌≤◌, ℕ, Bool, take}
use Rattle.sk_gates.specs.Words.{bits_word}
use Rattle.sk_gates.proofs.quotient.trimmed.Given as goal

abbrev pub invariant-loop-i : goal.invariant-loop-i
invariant-loop-i l = record {
  most : l.count ≤ l.i;
  value : (v : ℕ → Bool) → bits_word v (take l.count l.bits) ≡ bits_word v (take l.i l.bits);
}
