use Rattle.std.proofs.Common.{◌≡◌, ◌∙◌, ap, map, sym, subst}
use Rattle.std.proofs.lemmas.Result.{err_from_is_err_and}
use Rattle.dimacs_text.specs.Formula.{AreFormula}
use Rattle.dimacs_text.proofs.read.read_clauses.Goals as goal

pub returns-in_err-clauses-clause-err : goal.returns-in_err-clauses-clause-err
returns-in_err-clauses-clause-err c =
    let p = err_from_is_err_and c.from_residual-in_err-clauses.result c.from_residual-in_err-clauses.ensures.1 in
    rw (p.1, p.2) (λ m q f. c.in_err-clauses.ensures.err m q
    (subst (λ t. AreFormula t q) (sym (ap (map (λ x. x.now)) c.deref.ensures.value ∙ c.in_ok-lines.ensures)) f))
