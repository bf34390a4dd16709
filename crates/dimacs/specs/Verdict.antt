-- What the answer to a formula says.
use Rattle.std.specs.Prelude.{◌≡◌, ℕ, ◌+◌, length}
use Rattle.sk_clause.specs.Meaning.{valuation, Meets, Refutes}
use Rattle.sk_clause.specs.Problem.{Problem}
use Rattle.dimacs.specs.declared.solve.Verdict.{Verdict}
use Rattle.dimacs.specs.declared.solve.Verdict.TheVariants.{Sat, Unsat}

-- A value for each variable, and each clause true; or a log that refutes the clauses, and is all that was learnt and
-- then the empty clause.
abbrev pub IsVerdict : Problem → Verdict → ℕ → Type 0
IsVerdict problem (Sat values) learnt = (length values ≡ problem.vars) × Meets (valuation values) problem.clauses
IsVerdict problem (Unsat log) learnt = Refutes problem.clauses log × (length log ≡ learnt + 1)
