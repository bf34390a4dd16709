use Rattle.std.proofs.Common.{◌≡◌, ◌<◌, [], length, map, arith, rules}
use Rattle.std.proofs.lemmas.Grind.{common_steps}
use Rattle.std.proofs.lemmas.List.{nil_from_length}
use Rattle.std.proofs.lemmas.Result.{err_from_is_err_and}
use Rattle.dimacs_text.proofs.RowsLemmas.{read_begins_at, rows_stuck, rows_open, rows_end}
use Rattle.dimacs_text.proofs.rows.clauses_of.Goals as goal

pub returns-in_err-take_lines-clause-err : goal.returns-in_err-take_lines-clause-err
returns-in_err-take_lines-clause-err c =
    let p = err_from_is_err_and c.from_residual.result c.from_residual.ensures.1 in
    let begin = read_begins_at c.args.limit c.new.result c.new-2.result.items c.new.ensures c.new-2.ensures.items in
    rw (p.1, p.2) (λ m cs a. rows_stuck c.args.limit (map (λ x. x.now) c.args.lines.now) c.in_err-take_lines.field-0.0.line
    (c.in_err-take_lines.ensures.err m [] begin) cs a)

pub returns-then-not-is_empty-clause-err : goal.returns-then-not-is_empty-clause-err
returns-then-not-is_empty-clause-err c =
    let begin = read_begins_at c.args.limit c.new.result c.new-2.result.items c.new.ensures c.new-2.ensures.items in
    let some : 0 < length c.take_lines.new.rows.begun.items = first_of (grind (arith, common_steps), search rules) in
    λ m cs a. rows_open c.args.limit (map (λ x. x.now) c.args.lines.now) c.take_lines.new.rows.clauses c.take_lines.new.rows.begun.items
    (c.in_ok-take_lines.ensures.ok [] begin) some cs a

pub returns-then-not-is_empty-clause-line : goal.returns-then-not-is_empty-clause-line
returns-then-not-is_empty-clause-line c = (c.last_line.ensures.some, c.last_line.ensures.most)

pub returns-clause-ok : goal.returns-clause-ok
returns-clause-ok c =
    let begin = read_begins_at c.args.limit c.new.result c.new-2.result.items c.new.ensures c.new-2.ensures.items in
    let none : c.take_lines.new.rows.begun.items ≡ [] = first_of (grind (arith, common_steps, nil_from_length), search (rules, nil_from_length)) in
    rows_end c.args.limit (map (λ x. x.now) c.args.lines.now) c.take_lines.new.rows.clauses c.take_lines.new.rows.begun.items
    (c.in_ok-take_lines.ensures.ok [] begin) none
