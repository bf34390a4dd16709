-- Lists of parts, as code walks over them.
use Rattle.std.specs.Prelude.{ℕ, List, map, Option, option_map}
use Rattle.sk_prog.specs.declared.expr.PExpr.{PExpr}
use Rattle.sk_prog.specs.declared.expr.PField.{PField}
use Rattle.sk_prog.specs.declared.expr.PEForm.TheFolds.{fold-PField}
use Rattle.sk_prog.specs.declared.stmt.PStmt.{PStmt}
use Rattle.sk_prog.specs.declared.stmt.PForm.{PForm}
use Rattle.sk_prog.specs.declared.stmt.PForm.TheFolds.{fold-PForm}
use Rattle.sk_model.specs.Parts.{joined}
use Rattle.sk_prune.specs.Called.{eform_called, expr_called}
use Rattle.sk_prune.specs.Renamed.{Typed, eform_renamed, expr_again, field_again, expr_renamed, form_renamed, stmt_again, stmt_renamed}

abbrev pub exprs_called : List PExpr → List ℕ
exprs_called es = joined (map expr_called es)

abbrev pub field_called : PField → List ℕ
field_called = fold-PField (List ℕ) (List ℕ) (List ℕ) eform_called (λ e. e.form) (λ x. x.value)

abbrev pub fields_called : List PField → List ℕ
fields_called xs = joined (map field_called xs)

module _ (number : ℕ → ℕ) where
  abbrev pub exprs_renamed : List PExpr → List PExpr
  exprs_renamed es = map (expr_renamed number) es

  abbrev pub field_renamed : PField → PField
  field_renamed = fold-PField Typed PExpr PField (eform_renamed number) (expr_again number) (field_again number)

  abbrev pub fields_renamed : List PField → List PField
  fields_renamed xs = map field_renamed xs

  abbrev pub other_renamed : Option PStmt → Option PStmt
  other_renamed o = option_map (stmt_renamed number) o

  abbrev pub act_renamed : PForm → PForm
  act_renamed = fold-PForm PForm PStmt (form_renamed number) (stmt_again number)
