use Rattle.std.proofs.Common.{◌∙◌, ◌++◌, ◌∷◌, [], List, ap}
use Rattle.sk_clause.specs.declared.lit.Lit.{Lit}
use Rattle.sk_cert.specs.Words.{clause_in}
use Rattle.sk_cert.specs.Readers.{one}
use Rattle.sk_cert.proofs.Repeated.{repeated_step}
use Rattle.sk_cert.proofs.reader.clause_rows.Goals as goal

pub loop-i-preserved : goal.loop-i-preserved
loop-i-preserved c = repeated_step (one (clause_in c.args.kind.now c.args.vars)) c.args.count c.loop-i.i c.loop-i.clauses _ c.loop-i.rest.now c.args.text.now c.in_ok-clause.clause c.in_ok-clause.behind.now c.loop-i-test.true c.loop-i.invariant c.in_ok-clause.ensures (c.in_ok-push.ensures.ok ∙ ap (λ (x : List Lit). c.loop-i.clauses ++ x ∷ []) c.as_slice.ensures)
