use Rattle.std.proofs.Common.{◌∙◌, ◌+◌, length, ap, subst, sym, []}
use Rattle.std.proofs.lemmas.List.{length_push}
use Rattle.sk_clause.specs.Meaning.{Refutes}
use Rattle.dimacs.proofs.solve.solve.Goals as goal

pub returns-in-Unsat : goal.returns-in-Unsat
returns-in-Unsat c =
    let o = rw c.in-Unsat.is at c.in_ok-answer.ensures.answer in
    let e = ap length o.0 ∙ length_push _ [] in
    (subst (λ cs. Refutes cs c.in-Unsat.log) c.in_ok-solver.ensures.added o.1, e ∙ ap (λ n. n + 1) (sym c.learnt_len-learnt.ensures.len))
