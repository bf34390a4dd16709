use Rattle.std.proofs.Common.{◌≡◌, ◌*◌, ◌%◌, ◌^◌, length, take}
use Rattle.sk_gates.specs.Bits.{AreOver}
use Rattle.sk_gates.specs.Extension.{Continues}
use Rattle.sk_gates.specs.Sharing.{Builds}
use Rattle.sk_gates.specs.Words.{bits_word}
use Rattle.sk_gates.proofs.product.add_rows.Given as goal

abbrev pub invariant-loop-i : goal.invariant-loop-i
invariant-loop-i l = record {
  gate : Builds l.fn.to l.to (λ v. bits_word v l.sum ≡ (bits_word v l.a * bits_word v (take l.i l.b)) % 2 ^ length l.a);
  behind : Continues l.fn.to l.to;
  long : length l.sum ≡ length l.a;
  a_within : AreOver l.to.vars l.a;
  b_within : AreOver l.to.vars l.b;
  sum_within : AreOver l.to.vars l.sum;
}
