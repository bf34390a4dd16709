use Rattle.std.proofs.Common.{◌≡◌, ◌≤◌, ◌-◌, length, drop}
use Rattle.sk_gates.specs.Bits.{AreOver}
use Rattle.sk_gates.specs.Extension.{Continues}
use Rattle.sk_gates.specs.Sharing.{Builds}
use Rattle.sk_gates.specs.Words.{bits_word}
use Rattle.sk_gates.specs.Division.{AreTops, IsDivided}
use Rattle.sk_gates.proofs.quotient.divide.Given as goal

abbrev pub invariant-loop-k : goal.invariant-loop-k
invariant-loop-k l = record {
  gate : Builds l.fn.to l.to (λ v. AreTops v l.divisor l.tops → 1 ≤ bits_word v l.divisor
      → IsDivided (bits_word v (drop (length l.a - l.k) l.a)) (bits_word v l.divisor) (bits_word v (drop (length l.a - l.k) l.quotient)) (bits_word v l.left));
  behind : Continues l.fn.to l.to;
  quotient_long : length l.quotient ≡ length l.a;
  left_short : length l.left ≤ l.k;
  left_fits : length l.left ≤ length l.divisor;
  a_within : AreOver l.to.vars l.a;
  divisor_within : AreOver l.to.vars l.divisor;
  tops_within : AreOver l.to.vars l.tops;
  quotient_within : AreOver l.to.vars l.quotient;
  left_within : AreOver l.to.vars l.left;
}
