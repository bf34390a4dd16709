use Rattle.std.proofs.Common.{◌≡◌, drop}
use Rattle.std.specs.Prelude.{map}
use Rattle.std.specs.List.{list_all}
use Rattle.sk_types_rules.specs.Types.{is_yes, stmt_free}
use Rattle.sk_types_stmts.proofs.free.+free.Given as goal

-- the statements to come decide
abbrev pub invariant-all_free-loop-stmt : goal.invariant-all_free-loop-stmt
invariant-all_free-loop-stmt l = list_all is_yes (map stmt_free l.stmts) ≡ list_all is_yes (map stmt_free (drop l.stmt-index l.stmts))
