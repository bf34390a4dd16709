use Rattle.std.proofs.Common.{◌≡◌, ◌+◌, ◌++◌, take, map, subst}
use Rattle.std.specs.List.{flat_map}
use Rattle.dimacs_text.specs.Formula.{said}
use Rattle.dimacs_text.specs.Reading.{IsRead, IsStuck}
use Rattle.dimacs_text.proofs.RowsLemmas.{line_step}
use Rattle.dimacs_text.proofs.rows.take_lines.Goals as goal

pub returns-in-Err-clause-err : goal.returns-in-Err-clause-err
returns-in-Err-clause-err c = λ m ws r.
    let i = c.loop-i.i in
    let lines = c.args.lines.now in
    subst (IsStuck c.args.limit) (line_step ws lines i _ c.loop-i-test.true)
    (c.in-Err.ensures.err m (ws ++ flat_map said (take i (map (λ x. x.now) lines))) (c.loop-i.invariant ws r))

pub loop-i-preserved : goal.loop-i-preserved
loop-i-preserved c = λ ws r.
    let i = c.loop-i.i in
    let lines = c.args.lines.now in
    let new = c.take_line.new.rows in
    subst (λ x. IsRead c.args.limit x new.clauses new.begun.items) (line_step ws lines i _ c.loop-i-test.true)
    (c.in-Ok.ensures.ok (ws ++ flat_map said (take i (map (λ x. x.now) lines))) (c.loop-i.invariant ws r))
