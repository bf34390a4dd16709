use Rattle.sk_clause.specs.Problem.{IsWithin}
use Rattle.rows_clauses.proofs.logs.put.Given as goal

abbrev pub invariant-loop-l : goal.invariant-loop-l
invariant-loop-l l = IsWithin l.clauses.vars l.within.items
