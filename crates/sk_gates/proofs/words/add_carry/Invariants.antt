use Rattle.std.proofs.Common.{◌≡◌, ◌+◌, ◌*◌, ◌^◌, ◌≤◌, length, take}
use Rattle.sk_gates.specs.Bits.{bit_true, reach, AreOver}
use Rattle.sk_gates.specs.Extension.{Continues}
use Rattle.sk_gates.specs.Sharing.{Builds}
use Rattle.sk_gates.specs.Words.{digit, bits_word}
use Rattle.sk_gates.proofs.words.add_carry.Given as goal

abbrev pub invariant-loop-i : goal.invariant-loop-i
invariant-loop-i l = record {
  gate : Builds l.fn.to l.to (λ v. bits_word v l.sum + 2 ^ l.i * digit (bit_true v l.next) ≡ bits_word v (take l.i l.a) + bits_word v (take l.i l.b) + digit (bit_true v l.fn.carry));
  behind : Continues l.fn.to l.to;
  long : length l.sum ≡ l.i;
  a_within : AreOver l.to.vars l.a;
  b_within : AreOver l.to.vars l.b;
  sum_within : AreOver l.to.vars l.sum;
  next_within : reach l.next ≤ l.to.vars;
}
