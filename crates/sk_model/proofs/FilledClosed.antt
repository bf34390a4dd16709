-- A filled program leaves nothing open.
use Rattle.std.proofs.Common.{List, [], ◌∷◌, map, Option, Some, None, Bool, true, ◌&&◌, refl, sym, subst}
use Rattle.std.specs.Prelude.{IsTrue}
use Rattle.std.specs.List.{list_all}
use Rattle.std.proofs.lemmas.Bool.{false≢true, and_parts, and_from}
use Rattle.sk_prog.specs.declared.ty.Ty.{Ty}
use Rattle.sk_prog.specs.declared.expr.PExpr.{PExpr}
use Rattle.sk_prog.specs.declared.expr.PField.{PField}
use Rattle.sk_prog.specs.declared.expr.PEForm.{PEForm}
use Rattle.sk_prog.specs.declared.expr.PEForm.TheOpen as P
use Rattle.sk_prog.specs.declared.expr.PEForm.TheViews as V
use Rattle.sk_prog.specs.declared.expr.PEForm.TheFolds.{map-PEForm, map-PExpr, map-PField, fold-PEForm, fold-PField, fold-roll-PEForm, fold-roll-PExpr, fold-roll-PField, ind-PExpr}
use Rattle.sk_prog.specs.declared.stmt.PStmt.{PStmt}
use Rattle.sk_prog.specs.declared.stmt.PForm.{PForm}
use Rattle.sk_prog.specs.declared.stmt.PForm.TheOpen as S
use Rattle.sk_prog.specs.declared.stmt.PForm.TheViews as W
use Rattle.sk_prog.specs.declared.stmt.PForm.TheFolds.{map-PForm, map-PStmt, fold-PForm, fold-roll-PForm, fold-roll-PStmt, ind-PStmt}
use Rattle.sk_prog.specs.declared.prog.Fun.{Fun}
use Rattle.sk_prog.specs.declared.prog.Prog.{Prog}
use Rattle.sk_model.specs.Filled.{is_yes, eform_filled, expr_filled, any_filled, form_filled, stmt_filled, fun_filled, is_filled}
use Rattle.sk_model.specs.ClosedExprs.{eform_closed, expr_closed, any_closed}
use Rattle.sk_model.specs.Closed.{form_closed, stmt_closed, fun_closed, is_closed}

-- a list of parts
module _ {A : Type 0} (filled closed : A → Bool) where
  abbrev Such : Type 0
  Such = (x : A) × (IsTrue (filled x) → IsTrue (closed x))

  all_closed : (qs : List Such) → IsTrue (list_all is_yes (map filled (map (λ q. q.0) qs))) → IsTrue (list_all is_yes (map closed (map (λ q. q.0) qs)))
  all_closed [] h = refl
  all_closed (q ∷ qs) h =
      let both = and_parts (filled q.0) (list_all is_yes (map filled (map (λ q. q.0) qs))) h in
      and_from (closed q.0) (list_all is_yes (map closed (map (λ q. q.0) qs))) (q.1 both.0) (all_closed qs both.1)

-- Expressions

abbrev eform_is_filled : PEForm → Bool
eform_is_filled = fold-PEForm Bool Bool Bool eform_filled (λ x. x.form) (λ x. x.value)

abbrev field_is_filled : PField → Bool
field_is_filled = fold-PField Bool Bool Bool eform_filled (λ x. x.form) (λ x. x.value)

abbrev eform_is_closed : PEForm → Option Ty → Bool
eform_is_closed = fold-PEForm (Option Ty → Bool) Bool Bool eform_closed (λ x. x.form x.ty) (λ x. x.value)

abbrev field_is_closed : PField → Bool
field_is_closed = fold-PField (Option Ty → Bool) Bool Bool eform_closed (λ x. x.form x.ty) (λ x. x.value)

abbrev At_eform : PEForm → Type 0
At_eform f = (t : Option Ty) → IsTrue (eform_is_filled f) → IsTrue (eform_is_closed f t)

abbrev At_expr : PExpr → Type 0
At_expr e = IsTrue (expr_filled e) → IsTrue (expr_closed e)

abbrev At_field : PField → Type 0
At_field x = IsTrue (field_is_filled x) → IsTrue (field_is_closed x)

abbrev EForm : Type 0
EForm = (f : PEForm) × At_eform f

abbrev Expr : Type 0
Expr = (e : PExpr) × At_expr e

abbrev Set : Type 0
Set = (x : PField) × At_field x

abbrev edown : P.PEForm-F EForm Expr Set → P.PEForm-F PEForm PExpr PField
edown = map-PEForm EForm Expr Set PEForm PExpr PField (λ q. q.0) (λ q. q.0) (λ q. q.0)

erolled : (x : P.PEForm-F PEForm PExpr PField) → ((t : Option Ty) → IsTrue (eform_filled (map-PEForm PEForm PExpr PField Bool Bool Bool eform_is_filled expr_filled field_is_filled x)) → IsTrue (eform_closed (map-PEForm PEForm PExpr PField (Option Ty → Bool) Bool Bool eform_is_closed expr_closed field_is_closed x) t)) → At_eform (V.roll-PEForm x)
erolled x h t filled =
    subst (λ (p : Option Ty → Bool). IsTrue (p t)) (sym (fold-roll-PEForm (Option Ty → Bool) Bool Bool eform_closed (λ x. x.form x.ty) (λ x. x.value) x))
    (h t (subst IsTrue (fold-roll-PEForm Bool Bool Bool eform_filled (λ x. x.form) (λ x. x.value) x) filled))

two : (a b : Expr) → IsTrue (expr_filled a.0 && expr_filled b.0) → IsTrue (expr_closed a.0 && expr_closed b.0)
two a b h = let both = and_parts (expr_filled a.0) (expr_filled b.0) h in and_from (expr_closed a.0) (expr_closed b.0) (a.1 both.0) (b.1 both.1)

elayer : (y : P.PEForm-F EForm Expr Set) → At_eform (V.roll-PEForm (edown y))
elayer (P.Number n) = erolled (P.Number n) (λ t h. refl)
elayer P.True = erolled P.True (λ t h. refl)
elayer P.False = erolled P.False (λ t h. refl)
elayer P.Null = erolled P.Null (λ t h. refl)
elayer (P.Var slot x) = erolled (P.Var slot x) (λ t h. refl)
elayer (P.Const c) = erolled (P.Const c) (λ t h. refl)
elayer (P.Hole bits) = erolled (P.Hole bits) (λ t h. absurd (false≢true h))
elayer (P.Pattern es) = erolled (edown (P.Pattern es)) (λ t h. absurd (false≢true h))
elayer (P.Paren a) = erolled (P.Paren a.0) (λ t h. a.1 h)
elayer (P.Call f es) = erolled (edown (P.Call f es)) (λ t h. all_closed expr_filled expr_closed es h)
elayer (P.New d xs) = erolled (edown (P.New d xs)) (λ t h. all_closed field_is_filled field_is_closed xs h)
elayer (P.Braces es) = erolled (edown (P.Braces es)) (λ t h. all_closed expr_filled expr_closed es h)
elayer (P.Member a d k) = erolled (P.Member a.0 d k) (λ t h. a.1 h)
elayer (P.Index a c) = erolled (P.Index a.0 c.0) (λ t h. two a c h)
elayer (P.Slice a c n) = erolled (P.Slice a.0 c.0 n) (λ t h. two a c h)
elayer (P.Unary o a) = erolled (P.Unary o a.0) (λ t h. a.1 h)
elayer (P.Binary o a c) = erolled (P.Binary o a.0 c.0) (λ t h. two a c h)
elayer (P.Cond d a c) = erolled (P.Cond d.0 a.0 c.0) (λ t h.
    let first = and_parts (expr_filled d.0) (expr_filled a.0 && expr_filled c.0) h in
    and_from (expr_closed d.0) (expr_closed a.0 && expr_closed c.0) (d.1 first.0) (two a c first.1))
elayer (P.ToInt a) = erolled (P.ToInt a.0) (λ t h. a.1 h)
elayer (P.Pad a) = erolled (P.Pad a.0) (λ t h. a.1 h)

expr_closes : (e : PExpr) → At_expr e
expr_closes = ind-PExpr At_eform At_expr At_field
    (λ x y is. subst (λ z. At_eform (V.roll-PEForm z)) is (elayer y))
    (λ x y is. subst (λ z. At_expr (V.roll-PExpr z)) is (λ filled.
    let z : P.PExpr-F PEForm PExpr PField = map-PExpr EForm Expr Set PEForm PExpr PField (λ q. q.0) (λ q. q.0) (λ q. q.0) y in
    subst IsTrue (sym (fold-roll-PExpr (Option Ty → Bool) Bool Bool eform_closed (λ x. x.form x.ty) (λ x. x.value) z))
    (y.form.1 y.ty (subst IsTrue (fold-roll-PExpr Bool Bool Bool eform_filled (λ x. x.form) (λ x. x.value) z) filled))))
    (λ x y is. subst (λ z. At_field (V.roll-PField z)) is (λ filled.
    let z : P.PField-F PEForm PExpr PField = map-PField EForm Expr Set PEForm PExpr PField (λ q. q.0) (λ q. q.0) (λ q. q.0) y in
    subst IsTrue (sym (fold-roll-PField (Option Ty → Bool) Bool Bool eform_closed (λ x. x.form x.ty) (λ x. x.value) z))
    (y.value.1 (subst IsTrue (fold-roll-PField Bool Bool Bool eform_filled (λ x. x.form) (λ x. x.value) z) filled))))

any_closes : (e : Option PExpr) → IsTrue (any_filled e) → IsTrue (any_closed e)
any_closes None h = refl
any_closes (Some e) h = expr_closes e h

-- Statements

abbrev form_is_filled : PForm → Bool
form_is_filled = fold-PForm Bool Bool form_filled (λ s. s.form)

abbrev form_is_closed : PForm → Bool
form_is_closed = fold-PForm Bool Bool form_closed (λ s. s.form)

abbrev At_form : PForm → Type 0
At_form f = IsTrue (form_is_filled f) → IsTrue (form_is_closed f)

abbrev At_stmt : PStmt → Type 0
At_stmt s = IsTrue (stmt_filled s) → IsTrue (stmt_closed s)

abbrev Form : Type 0
Form = (f : PForm) × At_form f

abbrev Stmt : Type 0
Stmt = (s : PStmt) × At_stmt s

abbrev down : S.PForm-F Form Stmt → S.PForm-F PForm PStmt
down = map-PForm Form Stmt PForm PStmt (λ q. q.0) (λ q. q.0)

abbrev stmts : List Stmt → List PStmt
stmts = map (λ q. q.0)

rolled : (x : S.PForm-F PForm PStmt) → (IsTrue (form_filled (map-PForm PForm PStmt Bool Bool form_is_filled stmt_filled x)) → IsTrue (form_closed (map-PForm PForm PStmt Bool Bool form_is_closed stmt_closed x))) → At_form (W.roll-PForm x)
rolled x h filled = subst IsTrue (sym (fold-roll-PForm Bool Bool form_closed (λ s. s.form) x)) (h (subst IsTrue (fold-roll-PForm Bool Bool form_filled (λ s. s.form) x) filled))

layer : (y : S.PForm-F Form Stmt) → At_form (W.roll-PForm (down y))
layer (S.Block ss) = rolled (down (S.Block ss)) (all_closed stmt_filled stmt_closed ss)
layer (S.Declare slot x t e) = rolled (S.Declare slot x t e) (any_closes e)
layer (S.Assign a e) = rolled (S.Assign a e) (two (a, expr_closes a) (e, expr_closes e))
layer (S.Call e) = rolled (S.Call e) (expr_closes e)
layer (S.If c a None) = rolled (S.If c a.0 None) (λ h.
    let first = and_parts (expr_filled c) (stmt_filled a.0 && true) h in
    let second = and_parts (stmt_filled a.0) true first.1 in
    and_from (expr_closed c) (stmt_closed a.0 && true) (expr_closes c first.0) (and_from (stmt_closed a.0) true (a.1 second.0) refl))
layer (S.If c a (Some b)) = rolled (S.If c a.0 (Some b.0)) (λ h.
    let first = and_parts (expr_filled c) (stmt_filled a.0 && stmt_filled b.0) h in
    let both = and_parts (stmt_filled a.0) (stmt_filled b.0) first.1 in
    and_from (expr_closed c) (stmt_closed a.0 && stmt_closed b.0) (expr_closes c first.0) (and_from (stmt_closed a.0) (stmt_closed b.0) (a.1 both.0) (b.1 both.1)))
layer (S.While c a) = rolled (S.While c a.0) (λ h. let both = and_parts (expr_filled c) (stmt_filled a.0) h in and_from (expr_closed c) (stmt_closed a.0) (expr_closes c both.0) (a.1 both.1))
layer (S.Return e) = rolled (S.Return e) (any_closes e)
layer (S.Assert e) = rolled (S.Assert e) (expr_closes e)
layer (S.Assume e) = rolled (S.Assume e) (expr_closes e)
layer (S.Minimize e) = rolled (S.Minimize e) (expr_closes e)
layer (S.Repeat c ss) = rolled (down (S.Repeat c ss)) (λ h. absurd (false≢true h))
layer (S.MinRepeat ss) = rolled (down (S.MinRepeat ss)) (λ h. absurd (false≢true h))
layer (S.Reorder ss) = rolled (down (S.Reorder ss)) (λ h. absurd (false≢true h))

stmt_closes : (s : PStmt) → At_stmt s
stmt_closes = ind-PStmt At_form At_stmt
    (λ x y is. subst (λ z. At_form (W.roll-PForm z)) is (layer y))
    (λ x y is. subst (λ z. At_stmt (W.roll-PStmt z)) is (λ filled.
    let z : S.PStmt-F PForm PStmt = map-PStmt Form Stmt PForm PStmt (λ q. q.0) (λ q. q.0) y in
    subst IsTrue (sym (fold-roll-PStmt Bool Bool form_closed (λ s. s.form) z)) (y.form.1 (subst IsTrue (fold-roll-PStmt Bool Bool form_filled (λ s. s.form) z) filled))))

body_closes : (ss : List PStmt) → IsTrue (list_all stmt_filled ss) → IsTrue (list_all stmt_closed ss)
body_closes [] h = refl
body_closes (s ∷ ss) h =
    let both = and_parts (stmt_filled s) (list_all stmt_filled ss) h in
    and_from (stmt_closed s) (list_all stmt_closed ss) (stmt_closes s both.0) (body_closes ss both.1)

funs_close : (fs : List Fun) → IsTrue (list_all fun_filled fs) → IsTrue (list_all fun_closed fs)
funs_close [] h = refl
funs_close (f ∷ fs) h =
    let both = and_parts (fun_filled f) (list_all fun_filled fs) h in
    and_from (fun_closed f) (list_all fun_closed fs) (body_closes f.body both.0) (funs_close fs both.1)

pub filled_closes : (p : Prog) → IsTrue (is_filled p) → IsTrue (is_closed p)
filled_closes p h = funs_close p.funs h
