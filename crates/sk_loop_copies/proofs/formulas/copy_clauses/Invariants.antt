use Rattle.std.proofs.Common.{◌≡◌, take}
use Rattle.sk_loop_copies.proofs.formulas.copy_clauses.Given as goal

-- the clauses so far
abbrev pub invariant-loop-i : goal.invariant-loop-i
invariant-loop-i l = l.copy ≡ record { vars = l.clauses.vars; clauses = take l.i l.clauses.clauses }
