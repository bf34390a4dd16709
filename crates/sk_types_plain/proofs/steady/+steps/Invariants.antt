use Rattle.std.proofs.Common.{◌≡◌, drop}
use Rattle.std.specs.Prelude.{map}
use Rattle.std.specs.List.{list_all}
use Rattle.sk_types_rules.specs.Plain.{is_yes, stmt_steps}
use Rattle.sk_types_plain.proofs.steady.+steps.Given as goal

-- the statements to come decide
abbrev pub invariant-first_unsteady-loop-stmt : goal.invariant-first_unsteady-loop-stmt
invariant-first_unsteady-loop-stmt l = list_all is_yes (map stmt_steps l.stmts) ≡ list_all is_yes (map stmt_steps (drop l.stmt-index l.stmts))
