-- What the parts of a program become while copies of generators are being walked, one inside another.
use Rattle.std.specs.Prelude.{ℕ, ◌≡◌, ◌+◌, ◌++◌, List, [], ◌∷◌, map, Option, None, option_map}
use Rattle.sk_base.specs.declared.span.Span.{Span}
use Rattle.sk_base.specs.declared.bounds.Bounds.{Bounds}
use Rattle.sk_prog.specs.declared.expr.PExpr.{PExpr}
use Rattle.sk_prog.specs.declared.expr.PField.{PField}
use Rattle.sk_prog.specs.declared.expr.PEForm.{PEForm}
use Rattle.sk_prog.specs.declared.expr.PEForm.TheFolds.{fold-PField, fold-PEForm}
use Rattle.sk_prog.specs.declared.stmt.PStmt.{PStmt}
use Rattle.sk_prog.specs.declared.stmt.PForm.{PForm}
use Rattle.sk_prog.specs.declared.stmt.PForm.TheFolds.{fold-PForm}
use Rattle.sk_prog.specs.declared.prog.FunKind.TheVariants as kind
use Rattle.sk_prog.specs.declared.prog.Fun.{Fun}
use Rattle.sk_model.specs.Parts.{total}
use Rattle.sk_model.specs.Expand.{Walk, ◌>>=◌, CallWalk, in_order, if_any, eform_walk, expr_step, field_step, walk_expr, walk_value, form_walk, stmt_step, walk_stmt, walk_stmts, copy_of, one_less, all_left, calls_walk, are_ordinary, ordinary_count}
use Rattle.sk_expand.specs.declared.walker.Walker.{Walker}
use Rattle.sk_expand_copies.specs.Ranks.{ranks_from}

-- one walk and then another
abbrev pub followed : {A B : Type 0} → Walk A → (A → Walk B) → Walk B
followed w f = w >>= f

-- how many more copies of each function may be walked inside one another, where these copies are being walked, the
-- outermost first
abbrev pub spent : List ℕ → List ℕ → List ℕ
spent left [] = left
spent left (f ∷ fs) = spent (one_less left f) fs

abbrev pub left_under : Bounds → List Fun → List ℕ → List ℕ
left_under bounds funs active = spent (all_left bounds funs) active

-- what calls become where copies of these functions are being walked
unfoldable pub calls_under : Bounds → List Fun → List ℕ → CallWalk
calls_under bounds funs active = calls_walk bounds funs (total (left_under bounds funs active)) (left_under bounds funs active)

-- what stands in the place of a copy while its body is being walked
abbrev pub nothing : Fun
nothing = record { name = []; kind = kind.Plain; result = None; params = []; slots = 0; implements = None; body = [] }

-- the table of a walker holds the new numbers of its functions
pub record HasNumbers (w : Walker) : Type 0 where
  pub table : w.table.now ≡ ranks_from 0 (are_ordinary w.funs.now)
  pub ordinary : w.ordinary ≡ ordinary_count w.funs.now

module _ (w : Walker) where
  abbrev pub calls_in : CallWalk
  calls_in = calls_under w.bounds w.funs.now w.active.now

  abbrev pub expr_in : PExpr → Walk PExpr
  expr_in e = walk_expr w.bounds calls_in e

  abbrev pub exprs_in : List PExpr → Walk (List PExpr)
  exprs_in es = in_order (map expr_in es)

  abbrev pub eform_in : PEForm → Span → Walk PEForm
  eform_in = fold-PEForm (Span → Walk PEForm) (Walk PExpr) (Walk PField) (eform_walk w.bounds calls_in) (expr_step w.bounds calls_in) (field_step w.bounds calls_in)

  abbrev pub field_in : PField → Walk PField
  field_in = fold-PField (Span → Walk PEForm) (Walk PExpr) (Walk PField) (eform_walk w.bounds calls_in) (expr_step w.bounds calls_in) (field_step w.bounds calls_in)

  abbrev pub fields_in : List PField → Walk (List PField)
  fields_in xs = in_order (map field_in xs)

  abbrev pub value_in : Option PExpr → Walk (Option PExpr)
  value_in e = walk_value w.bounds calls_in e

  abbrev pub stmt_in : PStmt → Walk PStmt
  stmt_in s = walk_stmt w.bounds calls_in s

  abbrev pub stmts_in : List PStmt → Walk (List PStmt)
  stmts_in ss = walk_stmts w.bounds calls_in ss

  abbrev pub form_in : PForm → Walk PForm
  form_in = fold-PForm (Walk PForm) (Walk PStmt) (form_walk w.bounds calls_in) (stmt_step w.bounds calls_in)

  abbrev pub branch_in : Option PStmt → Walk (Option PStmt)
  branch_in s = if_any (option_map stmt_in s)

  -- the body of a copy of the function f, where so many copies are made before it
  abbrev pub body_in : ℕ → Fun → Walk (List PStmt)
  body_in f fun = walk_stmts w.bounds (calls_under w.bounds w.funs.now (w.active.now ++ f ∷ [])) fun.body

  -- a copy of the function f that comes after so many others, and those that are made in it
  abbrev pub copies_in : ℕ → Fun → ℕ → List Fun
  copies_in f fun k = copy_of fun (k + 1) (body_in f fun (k + 1)).made ∷ (body_in f fun (k + 1)).copies
