-- How many steps the runs of a program may take, counted from its text. The steps of a function are 1
-- and those of its statements. The steps of a node are 1 and those of its parts; a coercion has the steps
-- of its content.
--   in a while the condition counts for one turn more than the bound on turns, the body for that bound
--   in a reorder of n statements each counts n times
--   all strings of a pattern, all copies of a repeat and all branches count; the count of a repeat does not
--   a call has the steps of its function too, but none where it would fail because too many calls are
--     active
-- A harness has the steps of its function, and `f implements g` those of both. The total is the sum over
-- all obligations.
--
-- The forms `new` are counted with the same multiples, for each obligation by itself. So both are said
-- once, by how much a node and how much a `new` counts.
use Rattle.std.specs.Prelude.{ℕ, zero, suc, ◌+◌, ◌*◌, ◌==◌, ◌++◌, List, [], ◌∷◌, map, length, count_by, slice_get, Option, Some, None, nat_lt, if◌then◌else◌}
use Rattle.sk_base.specs.declared.bounds.Bounds.{Bounds}
use Rattle.sk_prog.specs.declared.expr.PExpr.{PExpr}
use Rattle.sk_prog.specs.declared.expr.PEForm.TheOpen as P
use Rattle.sk_prog.specs.declared.expr.PEForm.TheFolds.{fold-PExpr}
use Rattle.sk_prog.specs.declared.stmt.PStmt.{PStmt}
use Rattle.sk_prog.specs.declared.stmt.PForm.TheOpen as S
use Rattle.sk_prog.specs.declared.stmt.PForm.TheFolds.{fold-PStmt}
use Rattle.sk_prog.specs.declared.prog.Fun.{Fun}
use Rattle.sk_model.specs.declared.expanded.Expanded.{Expanded}
use Rattle.sk_model.specs.declared.expanded.Obligation.{Obligation}
use Rattle.sk_model.specs.declared.expanded.Obligation.TheVariants as obligation
use Rattle.sk_model.specs.Parts.{total}
use Rattle.sk_model.specs.Obligations.{obligations}
use Rattle.sk_model.specs.Run.{most_calls}

-- how much a node counts, and how much more a `new`
pub record Measure : Type 0 where
  pub node : ℕ
  pub fresh : ℕ

module _ (measure : Measure) (turns : ℕ) (call : ℕ → ℕ) where
  abbrev pub eform_work : P.PEForm-F ℕ ℕ ℕ → ℕ
  eform_work (P.ToInt e) = e
  eform_work (P.Pad e) = e
  eform_work (P.Call f args) = measure.node + (total args + call f.index)
  eform_work (P.New s fields) = measure.node + (measure.fresh + total fields)
  eform_work (P.Number n) = measure.node
  eform_work P.True = measure.node
  eform_work P.False = measure.node
  eform_work P.Null = measure.node
  eform_work (P.Var slot name) = measure.node
  eform_work (P.Const c) = measure.node
  eform_work (P.Hole width) = measure.node
  eform_work (P.Pattern strings) = measure.node + total strings
  eform_work (P.Paren e) = measure.node + e
  eform_work (P.Braces es) = measure.node + total es
  eform_work (P.Member e s field) = measure.node + e
  eform_work (P.Index e i) = measure.node + (e + i)
  eform_work (P.Slice e i n) = measure.node + (e + i)
  eform_work (P.Unary op e) = measure.node + e
  eform_work (P.Binary op a b) = measure.node + (a + b)
  eform_work (P.Cond c a b) = measure.node + (c + (a + b))

  abbrev pub expr_work : PExpr → ℕ
  expr_work = fold-PExpr ℕ ℕ ℕ eform_work (λ e. e.form) (λ x. x.value)

  abbrev pub value_work : Option PExpr → ℕ
  value_work (Some e) = expr_work e
  value_work None = 0

  abbrev pub any_work : Option ℕ → ℕ
  any_work (Some n) = n
  any_work None = 0

  -- the work of the parts of a statement with this form
  abbrev pub form_work : S.PForm-F ℕ ℕ → ℕ
  form_work (S.While c a) = (turns + 1) * expr_work c + turns * a
  form_work (S.Reorder ss) = length ss * total ss
  form_work (S.Repeat count copies) = total copies
  form_work (S.MinRepeat copies) = total copies
  form_work (S.Block ss) = total ss
  form_work (S.Declare slot name t value) = value_work value
  form_work (S.Assign target value) = expr_work target + expr_work value
  form_work (S.Call e) = expr_work e
  form_work (S.If c a b) = expr_work c + (a + any_work b)
  form_work (S.Return value) = value_work value
  form_work (S.Assert e) = expr_work e
  form_work (S.Assume e) = expr_work e
  form_work (S.Minimize e) = expr_work e

  abbrev pub stmt_work : PStmt → ℕ
  stmt_work = fold-PStmt ℕ ℕ form_work (λ s. measure.node + s.form)

  abbrev pub body_work : Option Fun → ℕ
  body_work None = 0
  body_work (Some f) = measure.node + total (map stmt_work f.body)

module _ (measure : Measure) (bounds : Bounds) (funs : List Fun) where
  -- the work of a call where calls of these functions are active, and so many more calls may be
  unfoldable pub call_work : ℕ → List ℕ → ℕ → ℕ
  call_work zero active f = 0
  call_work (suc left) active f =
      if nat_lt (count_by (λ g. g == f) active) bounds.inline_amnt
      then body_work measure bounds.unroll (call_work left (active ++ f ∷ [])) (slice_get funs f)
      else 0

  abbrev pub fun_work : ℕ → ℕ
  fun_work f = call_work most_calls [] f

  abbrev pub obligation_work : Obligation → ℕ
  obligation_work (obligation.Harness f) = fun_work f.index
  obligation_work (obligation.Implements f g) = fun_work f.index + fun_work g.index

  -- for each obligation
  abbrev pub all_work : List Obligation → List ℕ
  all_work os = map obligation_work os

abbrev pub steps_of : Bounds → Expanded → List ℕ
steps_of bounds e = all_work (record { node = 1; fresh = 0 }) bounds e.prog.funs (obligations e.prog)

-- the steps over all obligations
abbrev pub steps : Bounds → Expanded → ℕ
steps bounds e = total (steps_of bounds e)
