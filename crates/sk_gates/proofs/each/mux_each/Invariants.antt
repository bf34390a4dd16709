use Rattle.std.proofs.Common.{◌≡◌, ◌≤◌, length, take, if◌then◌else◌}
use Rattle.sk_gates.specs.Bits.{bit_true, reach, AreOver}
use Rattle.sk_gates.specs.Extension.{Continues}
use Rattle.sk_gates.specs.Sharing.{Builds}
use Rattle.sk_gates.specs.Words.{bits_word}
use Rattle.sk_gates.proofs.each.mux_each.Given as goal

abbrev pub invariant-loop-i : goal.invariant-loop-i
invariant-loop-i l = record {
  gate : Builds l.fn.to l.to (λ v. bits_word v l.chosen ≡ (if bit_true v l.fn.condition then bits_word v (take l.i l.a) else bits_word v (take l.i l.b)));
  behind : Continues l.fn.to l.to;
  long : length l.chosen ≡ l.i;
  condition_within : reach l.fn.condition ≤ l.to.vars;
  a_within : AreOver l.to.vars l.a;
  b_within : AreOver l.to.vars l.b;
  chosen_within : AreOver l.to.vars l.chosen;
}
