use Rattle.std.proofs.Common.{◌≡◌, ◌+◌, ◌++◌, [], ◌∷◌, take, map, subst}
use Rattle.std.proofs.lemmas.Result.{err_from_is_err_and}
use Rattle.dimacs_text.specs.Reading.{IsRead, IsStuck}
use Rattle.dimacs_text.proofs.RowsLemmas.{stuck_all, text_step}
use Rattle.dimacs_text.proofs.rows.take_words.Goals as goal

pub returns-in_err-take_word-clause-err : goal.returns-in_err-take_word-clause-err
returns-in_err-take_word-clause-err c =
    let p = err_from_is_err_and c.from_residual.result c.from_residual.ensures.1 in
    let i = c.loop-word.word-index in
    let words = c.args.words.now in
    rw (p.1, p.2) (λ m ws r. stuck_all c.args.limit ws (map (λ x. x.now) words) (i + 1)
    (subst (IsStuck c.args.limit) (text_step ws words i _ c.loop-word-test.true)
    (c.in_err-take_word.ensures.err m (ws ++ take i (map (λ x. x.now) words)) (c.loop-word.invariant ws r))))

pub loop-word-preserved : goal.loop-word-preserved
loop-word-preserved c = λ ws r.
    let i = c.loop-word.word-index in
    let words = c.args.words.now in
    let new = c.take_word.new.rows in
    subst (λ x. IsRead c.args.limit x new.clauses new.begun.items) (text_step ws words i _ c.loop-word-test.true)
    (c.in_ok-take_word.ensures.ok (ws ++ take i (map (λ x. x.now) words)) (c.loop-word.invariant ws r))
