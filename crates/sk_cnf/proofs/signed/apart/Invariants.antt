use Rattle.std.proofs.Common.{◌≡◌, ◌≤◌, nat_eq, not, take}
use Rattle.sk_gates.specs.Bits.{bit_true, reach, AreOver}
use Rattle.sk_gates.specs.Extension.{Continues}
use Rattle.sk_gates.specs.Sharing.{Builds}
use Rattle.sk_gates.specs.Words.{bits_word}
use Rattle.sk_cnf.proofs.signed.apart.Given as goal

abbrev pub invariant-loop-i : goal.invariant-loop-i
invariant-loop-i l = record {
  gate : Builds l.fn.to l.to (λ v. bit_true v l.some ≡ not (nat_eq (bits_word v (take l.i l.a)) (bits_word v (take l.i l.b))));
  behind : Continues l.fn.to l.to;
  a_within : AreOver l.to.vars l.a;
  b_within : AreOver l.to.vars l.b;
  some_within : reach l.some ≤ l.to.vars;
}
