use Rattle.std.proofs.Common.{◌≡◌, drop, ◌++◌}
use Rattle.std.specs.Prelude.{map}
use Rattle.sk_types_rules.specs.Plain.{all_made, plainly}
use Rattle.sk_types_plain.proofs.stmt.+plain.Given as goal

-- what is made and what is to come
abbrev pub invariant-all_made-loop-stmt : goal.invariant-all_made-loop-stmt
invariant-all_made-loop-stmt l = l.rows ++ all_made (map plainly (drop l.stmt-index l.stmts)) ≡ all_made (map plainly l.stmts)
