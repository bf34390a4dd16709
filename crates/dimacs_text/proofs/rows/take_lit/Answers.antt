use Rattle.std.proofs.Common.{◌≡◌, arith, rules}
use Rattle.dimacs_text.proofs.RowsLemmas.{stuck_lit}
use Rattle.dimacs_text.proofs.rows.take_lit.Goals as goal

pub returns-then-not-is_allowed-clause-err : goal.returns-then-not-is_allowed-clause-err
returns-then-not-is_allowed-clause-err c = λ _ ws w h r.
    stuck_lit c.args.limit ws c.args.rows.now.clauses c.args.rows.now.begun.items w c.args.l r h (λ k. let t = c.is_allowed.ensures.1 k in search rules)
