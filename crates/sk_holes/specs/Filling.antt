-- What the parts of a program become by one filler, and how many sites they have.
use Rattle.std.specs.Prelude.{ℕ, List, map, Option, option_map, length, ◌+◌, ◌≤◌, if◌then◌else◌}
use Rattle.sk_base.specs.declared.span.Span.{Span}
use Rattle.sk_prog.specs.declared.ty.Ty.{Ty}
use Rattle.sk_prog.specs.declared.ids.FunId.{FunId}
use Rattle.sk_prog.specs.declared.expr.PExpr.{PExpr}
use Rattle.sk_prog.specs.declared.expr.PField.{PField}
use Rattle.sk_prog.specs.declared.expr.PEForm.TheFolds.{fold-PField}
use Rattle.sk_prog.specs.declared.stmt.PStmt.{PStmt}
use Rattle.sk_prog.specs.declared.stmt.PForm.{PForm}
use Rattle.sk_prog.specs.declared.stmt.PForm.TheFolds.{fold-PForm}
use Rattle.sk_model.specs.Parts.{Part, counts, in_turn, value}
use Rattle.sk_model.specs.Sites.{is_hole}
use Rattle.sk_model.specs.Fill.{Opened, hole_part, bits_at, renamed, eform_part, expr_step, field_step, expr_part, value_part, any_part, some_copies, all_copies, form_part, stmt_step, stmt_part}
use Rattle.sk_holes.specs.declared.filler.Filler.{Filler}
use Rattle.sk_holes.specs.Table.{numbered}

module _ (f : Filler) where
  abbrev pub number : ℕ → ℕ
  number = numbered f.table.now f.last

  -- there are values for so many sites from a place on
  abbrev pub Reaches : ℕ → ℕ → Type 0
  Reaches i count = i + count ≤ length f.values.now

  abbrev pub value_at : ℕ → ℕ
  value_at = value f.values.now

  abbrev pub new_id : FunId → FunId
  new_id = renamed f.values.now number

  abbrev pub bits_filled : Span → ℕ → ℕ → List PExpr
  bits_filled = bits_at f.values.now number

  abbrev pub hole : Option Ty → Span → Part PExpr
  hole = hole_part f.values.now number

  abbrev pub expr : PExpr → Part PExpr
  expr = expr_part f.values.now number

  abbrev pub field : PField → Part PField
  field = fold-PField (Opened f.values.now number) (Part PExpr) (Part PField) (eform_part f.values.now number) (expr_step f.values.now number) (field_step f.values.now number)

  abbrev pub exprs : List PExpr → Part (List PExpr)
  exprs es = record { count = counts (map expr es); at = in_turn (map expr es) }

  abbrev pub fields : List PField → Part (List PField)
  fields xs = record { count = counts (map field xs); at = in_turn (map field xs) }

  abbrev pub optional : Option PExpr → Part (Option PExpr)
  optional = value_part f.values.now number

  abbrev pub stmt : PStmt → Part PStmt
  stmt = stmt_part f.values.now number

  abbrev pub form : PForm → Part PForm
  form = fold-PForm (Part PForm) (Part PStmt) (form_part f.values.now number) (stmt_step f.values.now number)

  abbrev pub stmts : List PStmt → Part (List PStmt)
  stmts ss = record { count = counts (map stmt ss); at = in_turn (map stmt ss) }

  abbrev pub branch : Option PStmt → Part (Option PStmt)
  branch s = any_part f.values.now number (option_map stmt s)

  -- the block of copies that a repeat with this count becomes
  abbrev pub repeated : PExpr → List PStmt → Part PForm
  repeated count copies = if is_hole count.form then some_copies f.values.now number (map stmt copies) else all_copies f.values.now number (map stmt copies)
