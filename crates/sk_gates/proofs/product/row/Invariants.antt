use Rattle.std.proofs.Common.{◌≡◌, ◌≤◌, ◌+◌, ◌*◌, ◌^◌, length, take}
use Rattle.sk_gates.specs.Bits.{bit_true, reach, AreOver}
use Rattle.sk_gates.specs.Extension.{Continues}
use Rattle.sk_gates.specs.Sharing.{Builds}
use Rattle.sk_gates.specs.Words.{digit, bits_word}
use Rattle.sk_gates.proofs.product.row.Given as goal

abbrev pub invariant-loop-i : goal.invariant-loop-i
invariant-loop-i l = record {
  gate : Builds l.fn.to l.to (λ v. bits_word v l.moved ≡ 2 ^ l.fn.shift * (digit (bit_true v l.fn.bit) * bits_word v (take l.i l.a)));
  behind : Continues l.fn.to l.to;
  long : length l.moved ≡ l.fn.shift + l.i;
  a_within : AreOver l.to.vars l.a;
  bit_within : reach l.fn.bit ≤ l.to.vars;
  moved_within : AreOver l.to.vars l.moved;
}
