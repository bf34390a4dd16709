use Rattle.std.proofs.Common.{◌≡◌, length, take, map}
use Rattle.sk_clause.specs.Meaning.{lit_true}
use Rattle.sk_clause.specs.Problem.{IsWithin}
use Rattle.sk_gates.specs.Bits.{bit_true, AreOver}
use Rattle.sk_gates.specs.Extension.{Adds, Continues}
use Rattle.sk_gates.proofs.convert.as_literals.Given as goal

abbrev pub invariant-loop-i : goal.invariant-loop-i
invariant-loop-i l = record {
  gate : Adds l.fn.to l.to (λ v. map (lit_true v) l.lits ≡ map (bit_true v) (take l.i l.bits));
  behind : Continues l.fn.to l.to;
  long : length l.lits ≡ l.i;
  bits_within : AreOver l.to.vars l.bits;
  lits_within : IsWithin l.to.vars l.lits;
}
