use Rattle.std.proofs.Common.{◌≡◌, ◌≤◌, ◌+◌, ℕ, ◌-◌, nat_eq, length, drop}
use Rattle.sk_gates.specs.Bits.{reach, AreOver}
use Rattle.sk_gates.specs.Extension.{Continues}
use Rattle.sk_gates.specs.Sharing.{Builds}
use Rattle.sk_gates.proofs.DivisionLaws.{AreTopsTo}
use Rattle.sk_gates.proofs.quotient.tops_of.Given as goal

abbrev pub invariant-loop-k : goal.invariant-loop-k
invariant-loop-k l = record {
  gate : Builds l.fn.to l.to (λ v. AreTopsTo v l.k l.bits l.tops);
  last : Rattle.std.proofs.Common.get_or l.tops l.k (Rattle.sk_gates.specs.declared.bit.Bit.TheVariants.Constant Rattle.std.proofs.Common.false) ≡ l.clear;
  behind : Continues l.fn.to l.to;
  long : length l.tops ≡ l.k + 1;
  bits_within : AreOver l.to.vars l.bits;
  clear_within : reach l.clear ≤ l.to.vars;
  tops_within : AreOver l.to.vars l.tops;
}
