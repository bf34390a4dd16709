use Rattle.std.proofs.Common.{Some, sym, subst}
use Rattle.dimacs_text.specs.Formula.{AreRows}
use Rattle.dimacs_text.proofs.RowsLemmas.{tail_texts}
use Rattle.dimacs_text.proofs.read.rows_from.Goals as goal

pub returns-in-Ok-clause-ok : goal.returns-in-Ok-clause-ok
returns-in-Ok-clause-ok c =
    subst (λ t. AreRows (Some c.args.vars) t c.in-Ok.list) (tail_texts c.args.from c.args.lines.now c.tail.result.now c.tail.ensures) c.in-Ok.ensures.ok

pub returns-in-Err-clause-err : goal.returns-in-Err-clause-err
returns-in-Err-clause-err c = λ m cs a.
    c.in-Err.ensures.err m cs (subst (λ t. AreRows (Some c.args.vars) t cs) (sym (tail_texts c.args.from c.args.lines.now c.tail.result.now c.tail.ensures)) a)
