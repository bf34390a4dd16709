-- The marks of the parts of a program under some values.
use Rattle.std.specs.Prelude.{ℕ, ◌+◌, ◌-◌, ◌≤◌, List, [], ◌∷◌, ◌++◌, map, Bool, Option, option_map, length, nat_lt}
use Rattle.std.specs.List.{list_all}
use Rattle.sk_prog.specs.declared.ty.Ty.{Ty}
use Rattle.sk_prog.specs.declared.expr.PExpr.{PExpr}
use Rattle.sk_prog.specs.declared.expr.PField.{PField}
use Rattle.sk_prog.specs.declared.expr.PEForm.TheFolds.{fold-PField}
use Rattle.sk_prog.specs.declared.stmt.PStmt.{PStmt}
use Rattle.sk_prog.specs.declared.prog.Fun.{Fun}
use Rattle.sk_holes_marks.specs.Marking.{Marking, own, beside, in_row, if_there, some_of, is_one, is_first, by_value, eform_marking, expr_marking, value_marking, repeat_marking, stmt_marking, body_marking}

-- each of these values is a number of a program
abbrev pub are_numbers : List ℕ → Bool
are_numbers vs = list_all (λ v. nat_lt v 4294967296) vs

module _ (values : List ℕ) where
  -- there are values for so many sites from a place on
  abbrev pub Has : ℕ → ℕ → Type 0
  Has i count = i + count ≤ length values

  abbrev pub expr : PExpr → Marking
  expr = expr_marking values

  abbrev pub field : PField → Marking
  field = fold-PField (Option Ty → Marking) Marking Marking (eform_marking values) (λ e. e.form e.ty) (λ x. x.value)

  abbrev pub exprs : List PExpr → Marking
  exprs es = in_row (map expr es)

  abbrev pub fields : List PField → Marking
  fields xs = in_row (map field xs)

  -- of strings of which the first has number k, the one with number v stands
  abbrev pub strings : ℕ → ℕ → List PExpr → Marking
  strings v k es = in_row (some_of (is_one v) k (map expr es))

  -- the strings of a pattern, whose site says which one stands
  abbrev pub pattern : List PExpr → Marking
  pattern es = by_value values is_one (map expr es)

  abbrev pub optional : Option PExpr → Marking
  optional = value_marking values

  abbrev pub stmt : PStmt → Marking
  stmt = stmt_marking values

  abbrev pub stmts : List PStmt → Marking
  stmts ss = in_row (map stmt ss)

  abbrev pub branch : Option PStmt → Marking
  branch s = if_there (option_map stmt s)

  -- of copies of which the first has number k, those with a number below v stand
  abbrev pub copies : ℕ → ℕ → List PStmt → Marking
  copies v k ss = in_row (some_of (is_first v) k (map stmt ss))

  -- the copies of a repeat, whose site says how many stand
  abbrev pub kept : List PStmt → Marking
  kept ss = by_value values is_first (map stmt ss)

  abbrev pub repeated : PExpr → List PStmt → Marking
  repeated count ss = repeat_marking values count (map stmt ss)

  -- the statements of a reorder, behind its own sites
  abbrev pub reordered : List PStmt → Marking
  reordered ss = beside (own (length ss - 1)) (in_row (map stmt ss))

  -- how many sites a function has
  abbrev pub sites_of : Fun → ℕ
  sites_of f = (body_marking values f.body).count

  -- the marks of functions, where these stand and the first site has place i
  abbrev pub marks_of_funs : List Bool → ℕ → List Fun → List Bool
  marks_of_funs [] i fs = []
  marks_of_funs (b ∷ bs) i [] = []
  marks_of_funs (b ∷ bs) i (f ∷ fs) = (body_marking values f.body).at b i ++ marks_of_funs bs (i + sites_of f) fs
