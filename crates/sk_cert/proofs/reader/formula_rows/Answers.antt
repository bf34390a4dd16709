use Rattle.std.proofs.Common.{◌∙◌, ◌++◌, ◌∷◌, ◌<◌, ◌^◌, [], ℕ, List, All, ap, sym, subst, arith, codes}
use Rattle.sk_clause.specs.declared.lit.Lit.{Lit}
use Rattle.sk_clause.specs.Problem.{Problem}
use Rattle.sk_cert.specs.Words.{clause_in}
use Rattle.sk_cert.specs.Readers.{one}
use Rattle.sk_cert.proofs.Repeated.{repeated_step}
use Rattle.sk_cert.proofs.Parts.{clause_within}
use Rattle.sk_cert.proofs.reader.formula_rows.Goals as goal

pub push-requires : goal.push-requires
push-requires c =
    let small : c.args.vars < 2 ^ 64 = omega arith in
    let within : All (λ l. l.var < c.args.vars) c.in_ok-clause.clause = clause_within c.args.vars small c.loop-i.rest.now (c.in_ok-clause.clause, c.in_ok-clause.behind.now) c.in_ok-clause.ensures in
    subst (λ (x : List Lit). All (λ l. l.var < c.loop-i.clauses.vars) x) (sym c.as_slice.ensures)
    (subst (λ (n : ℕ). All (λ l. l.var < n) c.in_ok-clause.clause) (sym c.loop-i.invariant.vars) within)

pub loop-i-preserved : goal.loop-i-preserved
loop-i-preserved c = record {
  vars = ap (λ (p : Problem). p.vars) c.in_ok-push.ensures.ok ∙ c.loop-i.invariant.vars;
  rows = repeated_step (one (clause_in (codes "c") c.args.vars)) c.args.count c.loop-i.i c.loop-i.clauses.clauses _ c.loop-i.rest.now c.args.text.now c.in_ok-clause.clause c.in_ok-clause.behind.now c.loop-i-test.true c.loop-i.invariant.rows c.in_ok-clause.ensures (ap (λ (p : Problem). p.clauses) c.in_ok-push.ensures.ok ∙ ap (λ (x : List Lit). c.loop-i.clauses.clauses ++ x ∷ []) c.as_slice.ensures);
}
