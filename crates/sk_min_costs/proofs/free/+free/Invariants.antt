use Rattle.std.proofs.Common.{◌≡◌, drop}
use Rattle.sk_min_costs.specs.Free.{stmts_free}
use Rattle.sk_min_costs.proofs.free.+free.Given as goal

-- the statements to come decide
abbrev pub invariant-stmts_free-loop-stmt : goal.invariant-stmts_free-loop-stmt
invariant-stmts_free-loop-stmt l = stmts_free l.stmts ≡ stmts_free (drop l.stmt-index l.stmts)
