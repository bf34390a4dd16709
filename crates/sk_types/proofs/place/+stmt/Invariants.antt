use Rattle.std.proofs.Common.{◌≡◌, drop}
use Rattle.std.specs.Prelude.{map}
use Rattle.sk_types.specs.Places.{some_yes, stmt_has}
use Rattle.sk_types.proofs.place.+stmt.Given as goal

-- the statements to come decide
abbrev pub invariant-stmts_have-loop-stmt : goal.invariant-stmts_have-loop-stmt
invariant-stmts_have-loop-stmt l = some_yes (map (stmt_has l.span) l.stmts) ≡ some_yes (map (stmt_has l.span) (drop l.stmt-index l.stmts))
