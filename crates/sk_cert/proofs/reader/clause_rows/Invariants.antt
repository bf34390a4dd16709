use Rattle.std.proofs.Common.{◌≡◌, ◌-◌}
use Rattle.sk_cert.specs.Words.{clause_in}
use Rattle.sk_cert.specs.Readers.{one, repeated}
use Rattle.sk_cert.proofs.Repeated.{behind_all}
use Rattle.sk_cert.proofs.reader.clause_rows.Given as goal

abbrev pub invariant-loop-i : goal.invariant-loop-i
invariant-loop-i l = repeated (one (clause_in l.kind l.vars)) l.count l.text ≡ behind_all l.clauses (repeated (one (clause_in l.kind l.vars)) (l.count - l.i) l.rest)
