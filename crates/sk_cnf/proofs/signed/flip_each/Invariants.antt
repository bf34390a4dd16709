use Rattle.std.proofs.Common.{◌≡◌, ◌-◌, ◌^◌, ◌≤◌, length, take, if◌then◌else◌}
use Rattle.sk_gates.specs.Bits.{bit_true, reach, AreOver}
use Rattle.sk_gates.specs.Extension.{Continues}
use Rattle.sk_gates.specs.Sharing.{Builds}
use Rattle.sk_gates.specs.Words.{bits_word}
use Rattle.sk_cnf.proofs.signed.flip_each.Given as goal

abbrev pub invariant-loop-i : goal.invariant-loop-i
invariant-loop-i l = record {
  gate : Builds l.fn.to l.to (λ v. bits_word v l.flipped ≡ (if bit_true v l.fn.when then 2 ^ l.i - 1 - bits_word v (take l.i l.bits) else bits_word v (take l.i l.bits)));
  behind : Continues l.fn.to l.to;
  long : length l.flipped ≡ l.i;
  bits_within : AreOver l.to.vars l.bits;
  when_within : reach l.fn.when ≤ l.to.vars;
  flipped_within : AreOver l.to.vars l.flipped;
}
