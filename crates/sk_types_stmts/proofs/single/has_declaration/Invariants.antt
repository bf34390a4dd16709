use Rattle.std.proofs.Common.{◌≡◌, drop}
use Rattle.std.specs.List.{list_any}
use Rattle.sk_types_rules.specs.Types.{is_declaration}
use Rattle.sk_types_stmts.proofs.single.has_declaration.Given as goal

-- the statements to come decide
abbrev pub invariant-loop-stmt : goal.invariant-loop-stmt
invariant-loop-stmt l = list_any is_declaration l.stmts ≡ list_any is_declaration (drop l.stmt-index l.stmts)
