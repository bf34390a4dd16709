-- What of the parts of a program stands by one walker, and how many sites they have.
use Rattle.std.specs.Prelude.{ℕ, ◌+◌, ◌-◌, ◌≤◌, ◌==◌, List, map, Option, option_map, length, nat_lt}
use Rattle.sk_prog.specs.declared.ty.Ty.{Ty}
use Rattle.sk_prog.specs.declared.expr.PExpr.{PExpr}
use Rattle.sk_prog.specs.declared.expr.PField.{PField}
use Rattle.sk_prog.specs.declared.expr.PEForm.TheFolds.{fold-PField}
use Rattle.sk_prog.specs.declared.stmt.PStmt.{PStmt}
use Rattle.sk_model.specs.Parts.{Part}
use Rattle.sk_model.specs.Stands.{Standing, own, beside, in_row, first_of, only, by_value, if_there, eform_standing, expr_standing, value_standing, repeat_standing, stmt_standing}
use Rattle.sk_holes_standing.specs.declared.walker.Walker.{Walker}
use Rattle.sk_holes_standing.specs.Marks.{some_of}

module _ (w : Walker) where
  -- there are values for so many sites from a place on
  abbrev pub Has : ℕ → ℕ → Type 0
  Has i count = i + count ≤ length w.values.now

  abbrev pub expr : PExpr → Part Standing
  expr = expr_standing w.values.now

  abbrev pub field : PField → Part Standing
  field = fold-PField (Option Ty → Part Standing) (Part Standing) (Part Standing) (eform_standing w.values.now) (λ e. e.form e.ty) (λ x. x.value)

  abbrev pub exprs : List PExpr → Part Standing
  exprs es = in_row (map expr es)

  abbrev pub fields : List PField → Part Standing
  fields xs = in_row (map field xs)

  -- of strings of which the first has number k, the one with number v stands
  abbrev pub strings : ℕ → ℕ → List PExpr → Part Standing
  strings v k es = in_row (some_of (λ n. n == v) k (map expr es))

  -- the strings of a pattern, whose site says which one stands
  abbrev pub pattern : List PExpr → Part Standing
  pattern es = by_value w.values.now only (map expr es)

  abbrev pub optional : Option PExpr → Part Standing
  optional = value_standing w.values.now

  abbrev pub stmt : PStmt → Part Standing
  stmt = stmt_standing w.values.now

  abbrev pub stmts : List PStmt → Part Standing
  stmts ss = in_row (map stmt ss)

  abbrev pub branch : Option PStmt → Part Standing
  branch s = if_there (option_map stmt s)

  -- of copies of which the first has number k, those with a number below v stand
  abbrev pub copies : ℕ → ℕ → List PStmt → Part Standing
  copies v k ss = in_row (some_of (λ n. nat_lt n v) k (map stmt ss))

  -- the copies of a repeat, whose site says how many stand
  abbrev pub kept : List PStmt → Part Standing
  kept ss = by_value w.values.now first_of (map stmt ss)

  abbrev pub repeated : PExpr → List PStmt → Part Standing
  repeated count ss = repeat_standing w.values.now count (map stmt ss)

  -- the statements of a reorder, which all stand, behind its own sites
  abbrev pub reordered : List PStmt → Part Standing
  reordered ss = beside (own (length ss - 1)) (in_row (map stmt ss))
