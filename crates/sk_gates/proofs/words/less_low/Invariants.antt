use Rattle.std.proofs.Common.{◌≡◌, ◌≤◌, nat_lt, take}
use Rattle.sk_gates.specs.Bits.{bit_true, reach, AreOver}
use Rattle.sk_gates.specs.Extension.{Continues}
use Rattle.sk_gates.specs.Sharing.{Builds}
use Rattle.sk_gates.specs.Words.{bits_word}
use Rattle.sk_gates.proofs.words.less_low.Given as goal

abbrev pub invariant-loop-i : goal.invariant-loop-i
invariant-loop-i l = record {
  gate : Builds l.fn.to l.to (λ v. bit_true v l.below ≡ nat_lt (bits_word v (take l.i l.a)) (bits_word v (take l.i l.b)));
  behind : Continues l.fn.to l.to;
  a_within : AreOver l.to.vars l.a;
  b_within : AreOver l.to.vars l.b;
  below_within : reach l.below ≤ l.to.vars;
}
