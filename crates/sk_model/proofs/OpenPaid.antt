-- In a program that leaves nothing open no minrepeat pays.
use Rattle.std.proofs.Common.{◌≡◌, ℕ, ◌+◌, List, [], ◌∷◌, ◌++◌, map, Option, Some, None, Bool, true, false, not, ◌&&◌, ◌-◌, length, refl, sym, subst}
use Rattle.std.specs.Prelude.{IsTrue, nat_lt, nat_le, ◌||◌, if◌then◌else◌}
use Rattle.std.specs.List.{list_all}
use Rattle.std.proofs.lemmas.Bool.{false≢true, and_parts}
use Rattle.sk_base.specs.declared.span.Span.{Span}
use Rattle.sk_prog.specs.declared.ty.Ty.{Ty}
use Rattle.sk_prog.specs.declared.expr.PExpr.{PExpr}
use Rattle.sk_prog.specs.declared.expr.PField.{PField}
use Rattle.sk_prog.specs.declared.expr.PEForm.{PEForm}
use Rattle.sk_prog.specs.declared.expr.PEForm.TheOpen as P
use Rattle.sk_prog.specs.declared.expr.PEForm.TheViews as V
use Rattle.sk_prog.specs.declared.expr.PEForm.TheFolds.{map-PEForm, map-PExpr, map-PField, fold-PEForm, fold-PField, fold-roll-PEForm, fold-roll-PExpr, fold-roll-PField, ind-PExpr}
use Rattle.sk_prog.specs.declared.stmt.PStmt.{PStmt}
use Rattle.sk_prog.specs.declared.stmt.PForm.{PForm}
use Rattle.sk_prog.specs.declared.stmt.PForm.TheOpen as S
use Rattle.sk_prog.specs.declared.stmt.PForm.TheViews as W
use Rattle.sk_prog.specs.declared.stmt.PForm.TheFolds.{map-PForm, map-PStmt, fold-PForm, fold-roll-PForm, fold-roll-PStmt, ind-PStmt}
use Rattle.sk_prog.specs.declared.prog.Fun.{Fun}
use Rattle.sk_model.specs.declared.expanded.Expanded.{Expanded}
use Rattle.sk_model.specs.Parts.{Part}
use Rattle.sk_model.specs.Stands.{Standing, own, first_of, by_value, beside, in_row, part_if, is_called, eform_standing, expr_standing, value_standing, form_standing, stmt_standing, body_standing, standing_from, standing, all_paid}
use Rattle.sk_model.specs.Sites.{is_hole}
use Rattle.sk_model.specs.Filled.{is_yes}
use Rattle.sk_model.specs.ClosedExprs.{eform_closed, expr_closed, any_closed}
use Rattle.sk_model.specs.Closed.{form_closed, stmt_closed, fun_closed}

abbrev pub Pays : Part Standing → Type 0
Pays p = (i : ℕ) → (p.at i).paid ≡ []

beside_pays : (p q : Part Standing) → Pays p → Pays q → Pays (beside p q)
beside_pays p q hp hq i = rw (hp i, hq (i + p.count)) refl

module _ {A : Type 0} (ok : A → Bool) (f : A → Part Standing) where
  row_pays : (qs : List ((x : A) × (IsTrue (ok x) → Pays (f x)))) → IsTrue (list_all is_yes (map ok (map (λ q. q.0) qs))) → Pays (in_row (map f (map (λ q. q.0) qs)))
  row_pays [] h = λ i. refl
  row_pays (q ∷ qs) h =
      let both = and_parts (ok q.0) (list_all is_yes (map ok (map (λ q. q.0) qs))) h in
      beside_pays (f q.0) (in_row (map f (map (λ q. q.0) qs))) (q.1 both.0) (row_pays qs both.1)

module _ (values : List ℕ) where
  abbrev form_is_closed : PEForm → Option Ty → Bool
  form_is_closed = fold-PEForm (Option Ty → Bool) Bool Bool eform_closed (λ x. x.form x.ty) (λ x. x.value)

  abbrev field_is_closed : PField → Bool
  field_is_closed = fold-PField (Option Ty → Bool) Bool Bool eform_closed (λ x. x.form x.ty) (λ x. x.value)

  abbrev eform_stands : PEForm → Option Ty → Part Standing
  eform_stands = fold-PEForm (Option Ty → Part Standing) (Part Standing) (Part Standing) (eform_standing values) (λ e. e.form e.ty) (λ x. x.value)

  abbrev expr_stands : PExpr → Part Standing
  expr_stands = expr_standing values

  abbrev field_stands : PField → Part Standing
  field_stands = fold-PField (Option Ty → Part Standing) (Part Standing) (Part Standing) (eform_standing values) (λ e. e.form e.ty) (λ x. x.value)

  abbrev At_eform : PEForm → Type 0
  At_eform f = (t : Option Ty) → IsTrue (form_is_closed f t) → Pays (eform_stands f t)

  abbrev At_expr : PExpr → Type 0
  At_expr e = IsTrue (expr_closed e) → Pays (expr_stands e)

  abbrev At_field : PField → Type 0
  At_field x = IsTrue (field_is_closed x) → Pays (field_stands x)

  abbrev EForm : Type 0
  EForm = (f : PEForm) × At_eform f

  abbrev Expr : Type 0
  Expr = (e : PExpr) × At_expr e

  abbrev Set : Type 0
  Set = (x : PField) × At_field x

  abbrev down : P.PEForm-F EForm Expr Set → P.PEForm-F PEForm PExpr PField
  down = map-PEForm EForm Expr Set PEForm PExpr PField (λ q. q.0) (λ q. q.0) (λ q. q.0)

  rolled : (x : P.PEForm-F PEForm PExpr PField) → ((t : Option Ty) → IsTrue (eform_closed (map-PEForm PEForm PExpr PField (Option Ty → Bool) Bool Bool form_is_closed expr_closed field_is_closed x) t) → Pays (eform_standing values (map-PEForm PEForm PExpr PField (Option Ty → Part Standing) (Part Standing) (Part Standing) eform_stands expr_stands field_stands x) t)) → At_eform (V.roll-PEForm x)
  rolled x h t closed = subst (λ (p : Option Ty → Part Standing). Pays (p t)) (sym (fold-roll-PEForm (Option Ty → Part Standing) (Part Standing) (Part Standing) (eform_standing values) (λ e. e.form e.ty) (λ x. x.value) x)) (h t (subst (λ (p : Option Ty → Bool). IsTrue (p t)) (fold-roll-PEForm (Option Ty → Bool) Bool Bool eform_closed (λ x. x.form x.ty) (λ x. x.value) x) closed))

  two : (a b : Expr) → IsTrue (expr_closed a.0 && expr_closed b.0) → Pays (beside (expr_stands a.0) (expr_stands b.0))
  two a b h = let both = and_parts (expr_closed a.0) (expr_closed b.0) h in beside_pays (expr_stands a.0) (expr_stands b.0) (a.1 both.0) (b.1 both.1)

  layer : (y : P.PEForm-F EForm Expr Set) → At_eform (V.roll-PEForm (down y))
  layer (P.Number n) = rolled (P.Number n) (λ t h i. refl)
  layer P.True = rolled P.True (λ t h i. refl)
  layer P.False = rolled P.False (λ t h i. refl)
  layer P.Null = rolled P.Null (λ t h i. refl)
  layer (P.Var slot x) = rolled (P.Var slot x) (λ t h i. refl)
  layer (P.Const c) = rolled (P.Const c) (λ t h i. refl)
  layer (P.Hole bits) = rolled (P.Hole bits) (λ t h i. refl)
  layer (P.Pattern es) = rolled (down (P.Pattern es)) (λ t h. absurd (false≢true h))
  layer (P.Paren a) = rolled (P.Paren a.0) (λ t h. a.1 h)
  layer (P.Call f es) = rolled (down (P.Call f es)) (λ t h i. row_pays expr_closed expr_stands es h i)
  layer (P.New d xs) = rolled (down (P.New d xs)) (λ t h. row_pays field_is_closed field_stands xs h)
  layer (P.Braces es) = rolled (down (P.Braces es)) (λ t h. row_pays expr_closed expr_stands es h)
  layer (P.Member a d k) = rolled (P.Member a.0 d k) (λ t h. a.1 h)
  layer (P.Index a b) = rolled (P.Index a.0 b.0) (λ t h. two a b h)
  layer (P.Slice a b n) = rolled (P.Slice a.0 b.0 n) (λ t h. two a b h)
  layer (P.Unary o a) = rolled (P.Unary o a.0) (λ t h. a.1 h)
  layer (P.Binary o a b) = rolled (P.Binary o a.0 b.0) (λ t h. two a b h)
  layer (P.Cond c a b) = rolled (P.Cond c.0 a.0 b.0) (λ t h. let first = and_parts (expr_closed c.0) (expr_closed a.0 && expr_closed b.0) h in beside_pays (expr_stands c.0) (beside (expr_stands a.0) (expr_stands b.0)) (c.1 first.0) (two a b first.1))
  layer (P.ToInt a) = rolled (P.ToInt a.0) (λ t h. a.1 h)
  layer (P.Pad a) = rolled (P.Pad a.0) (λ t h. a.1 h)

  pub expr_pays : (e : PExpr) → At_expr e
  expr_pays = ind-PExpr At_eform At_expr At_field
      (λ x y is. subst (λ z. At_eform (V.roll-PEForm z)) is (layer y))
      (λ x y is. subst (λ z. At_expr (V.roll-PExpr z)) is (λ closed.
      let z : P.PExpr-F PEForm PExpr PField = map-PExpr EForm Expr Set PEForm PExpr PField (λ q. q.0) (λ q. q.0) (λ q. q.0) y in
      subst Pays (sym (fold-roll-PExpr (Option Ty → Part Standing) (Part Standing) (Part Standing) (eform_standing values) (λ e. e.form e.ty) (λ x. x.value) z)) (y.form.1 y.ty (subst IsTrue (fold-roll-PExpr (Option Ty → Bool) Bool Bool eform_closed (λ x. x.form x.ty) (λ x. x.value) z) closed))))
      (λ x y is. subst (λ z. At_field (V.roll-PField z)) is (λ closed.
      let z : P.PField-F PEForm PExpr PField = map-PField EForm Expr Set PEForm PExpr PField (λ q. q.0) (λ q. q.0) (λ q. q.0) y in
      subst Pays (sym (fold-roll-PField (Option Ty → Part Standing) (Part Standing) (Part Standing) (eform_standing values) (λ e. e.form e.ty) (λ x. x.value) z)) (y.value.1 (subst IsTrue (fold-roll-PField (Option Ty → Bool) Bool Bool eform_closed (λ x. x.form x.ty) (λ x. x.value) z) closed))))

  any_pays : (e : Option PExpr) → IsTrue (any_closed e) → Pays (value_standing values e)
  any_pays None h = λ i. refl
  any_pays (Some e) h = expr_pays e h

  -- Statements

  abbrev sform_is_closed : PForm → Bool
  sform_is_closed = fold-PForm Bool Bool form_closed (λ s. s.form)

  abbrev form_stands : PForm → Span → Part Standing
  form_stands = fold-PForm (Span → Part Standing) (Part Standing) (form_standing values) (λ s. s.form s.span)

  abbrev stmt_stands : PStmt → Part Standing
  stmt_stands = stmt_standing values

  abbrev At_form : PForm → Type 0
  At_form f = (span : Span) → IsTrue (sform_is_closed f) → Pays (form_stands f span)

  abbrev At_stmt : PStmt → Type 0
  At_stmt s = IsTrue (stmt_closed s) → Pays (stmt_stands s)

  abbrev Form : Type 0
  Form = (f : PForm) × At_form f

  abbrev Stmt : Type 0
  Stmt = (s : PStmt) × At_stmt s

  abbrev sdown : S.PForm-F Form Stmt → S.PForm-F PForm PStmt
  sdown = map-PForm Form Stmt PForm PStmt (λ q. q.0) (λ q. q.0)

  srolled : (x : S.PForm-F PForm PStmt) → ((span : Span) → IsTrue (form_closed (map-PForm PForm PStmt Bool Bool sform_is_closed stmt_closed x)) → Pays (form_standing values (map-PForm PForm PStmt (Span → Part Standing) (Part Standing) form_stands stmt_stands x) span)) → At_form (W.roll-PForm x)
  srolled x h span closed = subst (λ (p : Span → Part Standing). Pays (p span)) (sym (fold-roll-PForm (Span → Part Standing) (Part Standing) (form_standing values) (λ s. s.form s.span) x)) (h span (subst IsTrue (fold-roll-PForm Bool Bool form_closed (λ s. s.form) x) closed))

  repeat_pays : (hole : Bool) (ss : List Stmt) → IsTrue (not hole && list_all is_yes (map stmt_closed (map (λ q. q.0) ss))) → Pays (if hole then by_value values first_of (map stmt_stands (map (λ q. q.0) ss)) else in_row (map stmt_stands (map (λ q. q.0) ss)))
  repeat_pays true ss h = absurd (false≢true h)
  repeat_pays false ss h = row_pays stmt_closed stmt_stands ss h

  reorder_pays : (ss : List Stmt) → IsTrue (nat_le (length (map stmt_closed (map (λ q. q.0) ss))) 1 && list_all is_yes (map stmt_closed (map (λ q. q.0) ss))) → Pays (beside (own (length (map stmt_stands (map (λ q. q.0) ss)) - 1)) (in_row (map stmt_stands (map (λ q. q.0) ss))))
  reorder_pays ss h =
      let both = and_parts (nat_le (length (map stmt_closed (map (λ q. q.0) ss))) 1) (list_all is_yes (map stmt_closed (map (λ q. q.0) ss))) h in
      beside_pays (own (length (map stmt_stands (map (λ q. q.0) ss)) - 1)) (in_row (map stmt_stands (map (λ q. q.0) ss))) (λ i. refl) (row_pays stmt_closed stmt_stands ss both.1)

  slayer : (y : S.PForm-F Form Stmt) → At_form (W.roll-PForm (sdown y))
  slayer (S.Block ss) = srolled (sdown (S.Block ss)) (λ span h. row_pays stmt_closed stmt_stands ss h)
  slayer (S.Declare slot x t e) = srolled (S.Declare slot x t e) (λ span h. any_pays e h)
  slayer (S.Assign a e) = srolled (S.Assign a e) (λ span h. let both = and_parts (expr_closed a) (expr_closed e) h in beside_pays (expr_stands a) (expr_stands e) (expr_pays a both.0) (expr_pays e both.1))
  slayer (S.Call e) = srolled (S.Call e) (λ span h. expr_pays e h)
  slayer (S.If c a None) = srolled (S.If c a.0 None) (λ span h i.
      let first = and_parts (expr_closed c) (stmt_closed a.0 && true) h in
      let second = and_parts (stmt_closed a.0) true first.1 in
      rw (expr_pays c first.0 i, a.1 second.0 (i + (expr_stands c).count)) refl)
  slayer (S.If c a (Some b)) = srolled (S.If c a.0 (Some b.0)) (λ span h.
      let first = and_parts (expr_closed c) (stmt_closed a.0 && stmt_closed b.0) h in
      let both = and_parts (stmt_closed a.0) (stmt_closed b.0) first.1 in
      beside_pays (expr_stands c) (beside (stmt_stands a.0) (stmt_stands b.0)) (expr_pays c first.0) (beside_pays (stmt_stands a.0) (stmt_stands b.0) (a.1 both.0) (b.1 both.1)))
  slayer (S.While c a) = srolled (S.While c a.0) (λ span h. let both = and_parts (expr_closed c) (stmt_closed a.0) h in beside_pays (expr_stands c) (stmt_stands a.0) (expr_pays c both.0) (a.1 both.1))
  slayer (S.Return e) = srolled (S.Return e) (λ span h. any_pays e h)
  slayer (S.Assert e) = srolled (S.Assert e) (λ span h. expr_pays e h)
  slayer (S.Assume e) = srolled (S.Assume e) (λ span h. expr_pays e h)
  slayer (S.Minimize e) = srolled (S.Minimize e) (λ span h. expr_pays e h)
  slayer (S.Repeat c ss) = srolled (sdown (S.Repeat c ss)) (λ span h. repeat_pays (is_hole c.form) ss h)
  slayer (S.MinRepeat ss) = srolled (sdown (S.MinRepeat ss)) (λ span h. absurd (false≢true h))
  slayer (S.Reorder ss) = srolled (sdown (S.Reorder ss)) (λ span h. reorder_pays ss h)

  pub stmt_pays : (s : PStmt) → At_stmt s
  stmt_pays = ind-PStmt At_form At_stmt
      (λ x y is. subst (λ z. At_form (W.roll-PForm z)) is (slayer y))
      (λ x y is. subst (λ z. At_stmt (W.roll-PStmt z)) is (λ closed.
      let z : S.PStmt-F PForm PStmt = map-PStmt Form Stmt PForm PStmt (λ q. q.0) (λ q. q.0) y in
      subst Pays (sym (fold-roll-PStmt (Span → Part Standing) (Part Standing) (form_standing values) (λ s. s.form s.span) z)) (y.form.1 y.span (subst IsTrue (fold-roll-PStmt Bool Bool form_closed (λ s. s.form) z) closed))))

  body_pays : (ss : List PStmt) → IsTrue (list_all stmt_closed ss) → Pays (body_standing values ss)
  body_pays [] h = λ i. refl
  body_pays (s ∷ ss) h = let both = and_parts (stmt_closed s) (list_all stmt_closed ss) h in beside_pays (stmt_stands s) (body_standing values ss) (stmt_pays s both.0) (body_pays ss both.1)

  part_pays : (b : Bool) (p : Part Standing) → Pays p → Pays (part_if b p)
  part_pays true p h = h
  part_pays false p h = λ i. refl

  funs_pay : (ordinary : ℕ) (called : List ℕ) (n i : ℕ) (fs : List Fun) → IsTrue (list_all fun_closed fs) → all_paid (standing_from values ordinary called n i fs) ≡ []
  funs_pay ordinary called n i [] h = refl
  funs_pay ordinary called n i (f ∷ fs) h =
      let both = and_parts (fun_closed f) (list_all fun_closed fs) h in
      let part : Part Standing = part_if (nat_lt n ordinary || is_called called n) (body_standing values f.body) in
      rw (part_pays (nat_lt n ordinary || is_called called n) (body_standing values f.body) (body_pays f.body both.0) i, funs_pay ordinary (called ++ (part.at i).called) (n + 1) (i + (body_standing values f.body).count) fs both.1) refl

pub none_paid : (e : Expanded) (values : List ℕ) → IsTrue (list_all fun_closed e.prog.funs) → all_paid (standing e values) ≡ []
none_paid e values h = funs_pay values e.ordinary [] 0 0 e.prog.funs h
