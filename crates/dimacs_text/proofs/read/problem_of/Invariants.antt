use Rattle.std.proofs.Common.{◌≡◌, take}
use Rattle.dimacs_text.proofs.read.problem_of.Given as goal

abbrev pub invariant-loop-i : goal.invariant-loop-i
invariant-loop-i l = l.clauses ≡ record { vars = l.vars; clauses = take l.i l.list }
