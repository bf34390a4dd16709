use Rattle.std.proofs.Common.{◌≡◌, ◌∙◌, [], get_or, map, sym, subst}
use Rattle.std.proofs.lemmas.Result.{err_from_is_err_and}
use Rattle.dimacs_text.specs.Formula.{said, AreHeader, AreFormula}
use Rattle.dimacs_text.proofs.RowsLemmas.{lt_texts}
use Rattle.dimacs_text.proofs.ReadLemmas.{no_rows, no_count, formula_is}
use Rattle.dimacs_text.proofs.read.formula_of.Goals as goal

pub returns-in_err-list-clause-err : goal.returns-in_err-list-clause-err
returns-in_err-list-clause-err c =
    let p = err_from_is_err_and c.from_residual-in_err-list.result c.from_residual-in_err-list.ensures.1 in
    rw (p.1, p.2) (λ m q f. no_rows (map (λ x. x.now) c.args.lines.now) c.in_ok-at.at c.in_ok-at.header.vars c.in_ok-at.header.count
    (lt_texts c.args.lines.now c.in_ok-at.at c.in_ok-at.ensures.within) c.in_ok-at.ensures.silent c.in_ok-at.ensures.header
    (λ cs a e. c.in_err-list.ensures.err m cs a) q f)

pub returns-then-len-header-clause-err : goal.returns-then-len-header-clause-err
returns-then-len-header-clause-err c = λ m q f.
    no_count (map (λ x. x.now) c.args.lines.now) c.in_ok-at.at c.in_ok-at.header.vars c.in_ok-at.header.count c.in_ok-list.list
    (lt_texts c.args.lines.now c.in_ok-at.at c.in_ok-at.ensures.within) c.in_ok-at.ensures.silent c.in_ok-at.ensures.header c.in_ok-list.ensures.ok
    (λ e. c.if-len-header.true (c.len.ensures ∙ e)) q f

pub returns-clause-ok : goal.returns-clause-ok
returns-clause-ok c =
    let header = subst (λ n. AreHeader (said (get_or (map (λ x. x.now) c.args.lines.now) c.in_ok-at.at [])) c.in_ok-at.header.vars n) (sym c.if-len-header.false ∙ c.len.ensures) c.in_ok-at.ensures.header in
    subst (AreFormula (map (λ x. x.now) c.args.lines.now)) (sym c.in_ok-clauses.ensures)
    (formula_is (map (λ x. x.now) c.args.lines.now) c.in_ok-at.at c.in_ok-at.header.vars c.in_ok-list.list
    (lt_texts c.args.lines.now c.in_ok-at.at c.in_ok-at.ensures.within) c.in_ok-at.ensures.silent header c.in_ok-list.ensures.ok)
