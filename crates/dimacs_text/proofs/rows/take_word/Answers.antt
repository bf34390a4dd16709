use Rattle.std.proofs.Common.{◌≡◌, ◌++◌, ◌∙◌, [], ◌∷◌, sym, subst, ℤ, pos, w64, to_z, of_z}
use Rattle.std.proofs.lemmas.Int.{to_z-of_z}
use Rattle.dimacs_text.specs.Formula.{Writes, lit_number}
use Rattle.dimacs_text.specs.Reading.{IsRead}
use Rattle.dimacs_text.proofs.RowsLemmas.{read_end}
use Rattle.dimacs_text.proofs.rows.take_word.Goals as goal

pub returns-in_ok-take_lit-in-Some-clause-ok : goal.returns-in_ok-take_lit-in-Some-clause-ok
returns-in_ok-take_lit-in-Some-clause-ok c = λ ws r.
    let h = c.in_ok-number.ensures.ok in
    let n = to_z-of_z w64 c.in_ok-number.number h.fits in
    c.in_ok-take_lit-in-Some.ensures.ok ws c.args.word.now (subst (Writes c.args.word.now) (sym (c.in-Some.ensures.some ∙ n)) h) r

pub returns-in_ok-take_end-in-None-clause-ok : goal.returns-in_ok-take_end-in-None-clause-ok
returns-in_ok-take_end-in-None-clause-ok c = λ ws r.
    let h = c.in_ok-number.ensures.ok in
    let n = to_z-of_z w64 c.in_ok-number.number h.fits in
    let e = c.in_ok-take_end-in-None.ensures in
    let w = c.args.word.now in
    let old = c.args.rows.now in
    subst (λ d. IsRead c.args.limit (ws ++ w ∷ []) d c.take_end.new.rows.begun.items) (sym e.0)
    (subst (λ b. IsRead c.args.limit (ws ++ w ∷ []) (old.clauses ++ old.begun.items ∷ []) b) (sym e.1)
    (read_end c.args.limit ws old.clauses old.begun.items w r (subst (Writes w) (sym n ∙ c.in-None.ensures.none) h)))
