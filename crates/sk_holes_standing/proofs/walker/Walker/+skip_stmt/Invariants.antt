use Rattle.std.proofs.Common.{◌≡◌, drop, ◌+◌}
use Rattle.sk_holes_standing.specs.Standing.{stmts}
use Rattle.sk_holes_standing.proofs.walker.Walker.+skip_stmt.Given as goal

-- the sites passed so far, and those that are left
abbrev pub invariant-skip_stmts-loop-s : goal.invariant-skip_stmts-loop-s
invariant-skip_stmts-loop-s l = l.at + (stmts l.self (drop l.s-index l.ss)).count ≡ l.fn.at + (stmts l.self l.ss).count
