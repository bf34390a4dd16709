use Rattle.std.proofs.Common.{◌≡◌, ◌-◌, codes}
use Rattle.sk_cert.specs.Words.{clause_in}
use Rattle.sk_cert.specs.Readers.{one, repeated}
use Rattle.sk_cert.proofs.Repeated.{behind_all}
use Rattle.sk_cert.proofs.reader.formula_rows.Given as goal

abbrev pub invariant-loop-i : goal.invariant-loop-i
invariant-loop-i l = record {
  vars : l.clauses.vars ≡ l.vars;
  rows : repeated (one (clause_in (codes "c") l.vars)) l.count l.text ≡ behind_all l.clauses.clauses (repeated (one (clause_in (codes "c") l.vars)) (l.count - l.i) l.rest);
}
