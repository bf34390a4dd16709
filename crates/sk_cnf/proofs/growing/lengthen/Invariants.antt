use Rattle.std.proofs.Common.{◌≡◌, ℕ, length}
use Rattle.sk_cnf.specs.Codes.{TableFits, IsLonger}
use Rattle.sk_cnf.proofs.growing.lengthen.Given as goal

abbrev pub invariant-loop : goal.invariant-loop
invariant-loop l = record {
  long : length l.codes ≡ l.counter;
  fits : (w vars : ℕ) → TableFits w vars l.fn.codes → TableFits w vars l.codes;
  longer : IsLonger l.fn.codes l.codes;
}
