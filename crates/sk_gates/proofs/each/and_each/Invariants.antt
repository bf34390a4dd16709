use Rattle.std.proofs.Common.{◌≡◌, ◌≤◌, ◌*◌, length, take}
use Rattle.sk_gates.specs.Bits.{bit_true, reach, AreOver}
use Rattle.sk_gates.specs.Extension.{Continues}
use Rattle.sk_gates.specs.Sharing.{Builds}
use Rattle.sk_gates.specs.Words.{digit, bits_word}
use Rattle.sk_gates.proofs.each.and_each.Given as goal

abbrev pub invariant-loop-i : goal.invariant-loop-i
invariant-loop-i l = record {
  gate : Builds l.fn.to l.to (λ v. bits_word v l.kept ≡ digit (bit_true v l.fn.bit) * bits_word v (take l.i l.bits));
  behind : Continues l.fn.to l.to;
  long : length l.kept ≡ l.i;
  bits_within : AreOver l.to.vars l.bits;
  bit_within : reach l.fn.bit ≤ l.to.vars;
  kept_within : AreOver l.to.vars l.kept;
}
