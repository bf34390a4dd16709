-- A program without sites leaves nothing open.
use Rattle.std.proofs.Common.{◌≡◌, ℕ, suc, zero, ◌+◌, ◌-◌, List, [], ◌∷◌, ◌++◌, map, length, Option, Some, None, Bool, true, false, not, ◌&&◌, refl, sym, ap, subst, ◌∙◌, arith}
use Rattle.std.specs.Prelude.{IsTrue, nat_le, if◌then◌else◌}
use Rattle.std.specs.List.{list_all}
use Rattle.std.proofs.lemmas.Bool.{false≢true, and_parts, and_from}
use Rattle.sk_base.specs.declared.span.Span.{Span}
use Rattle.sk_base.specs.declared.bounds.Bounds.{Bounds}
use Rattle.sk_prog.specs.declared.ty.Elem.TheVariants as elem
use Rattle.sk_prog.specs.declared.ty.Ty.{Ty}
use Rattle.sk_prog.specs.declared.ty.Ty.TheVariants as ty
use Rattle.sk_prog.specs.declared.expr.PExpr.{PExpr}
use Rattle.sk_prog.specs.declared.expr.PField.{PField}
use Rattle.sk_prog.specs.declared.expr.PEForm.{PEForm}
use Rattle.sk_prog.specs.declared.expr.PEForm.TheOpen as P
use Rattle.sk_prog.specs.declared.expr.PEForm.TheViews as V
use Rattle.sk_prog.specs.declared.expr.PEForm.TheFolds.{map-PEForm, map-PExpr, map-PField, fold-PEForm, fold-PField, fold-roll-PEForm, fold-roll-PExpr, fold-roll-PField, ind-PExpr}
use Rattle.sk_prog.specs.declared.stmt.PStmt.{PStmt}
use Rattle.sk_prog.specs.declared.stmt.PForm.{PForm}
use Rattle.sk_prog.specs.declared.stmt.PForm.TheOpen as S
use Rattle.sk_prog.specs.declared.stmt.PForm.TheViews as W
use Rattle.sk_prog.specs.declared.stmt.PForm.TheFolds.{map-PForm, map-PStmt, fold-PForm, fold-roll-PForm, fold-roll-PStmt, ind-PStmt}
use Rattle.sk_prog.specs.declared.prog.Fun.{Fun}
use Rattle.sk_prog.specs.declared.prog.Prog.{Prog}
use Rattle.sk_model.specs.declared.expanded.Site.{Site}
use Rattle.sk_model.specs.Parts.{joined}
use Rattle.sk_model.specs.Sites.{Open, hole_sites, is_hole, places, repeat_sites, site, eform_sites, expr_sites, value_sites, form_sites, stmt_sites, stmts_sites, funs_sites, sites}
use Rattle.sk_model.specs.Filled.{is_yes}
use Rattle.sk_model.specs.Closed.{form_closed, stmt_closed, fun_closed, is_closed}
use Rattle.sk_model.specs.ClosedExprs.{is_no_bits, eform_closed, expr_closed, any_closed}

some_site : (s : Site) (ss : List Site) → s ∷ ss ≡ [] → ⊥
some_site s ss e = cc

none_of : (ss ts : List Site) → ss ++ ts ≡ [] → (ss ≡ []) × (ts ≡ [])
none_of [] ts e = (refl, e)
none_of (s ∷ ss) ts e = absurd (some_site s (ss ++ ts) e)

-- a list of parts
module _ {A : Type 0} (has : A → List Site) (ok : A → Bool) where
  abbrev Such : Type 0
  Such = (x : A) × (has x ≡ [] → IsTrue (ok x))

  all_ok : (qs : List Such) → joined (map has (map (λ q. q.0) qs)) ≡ [] → IsTrue (list_all is_yes (map ok (map (λ q. q.0) qs)))
  all_ok [] e = refl
  all_ok (q ∷ qs) e =
      let none = none_of (has q.0) (joined (map has (map (λ q. q.0) qs))) e in
      and_from (ok q.0) (list_all is_yes (map ok (map (λ q. q.0) qs))) (q.1 none.0) (all_ok qs none.1)

module _ (bounds : Bounds) where
  -- Expressions

  abbrev eform_is_closed : PEForm → Option Ty → Bool
  eform_is_closed = fold-PEForm (Option Ty → Bool) Bool Bool eform_closed (λ x. x.form x.ty) (λ x. x.value)

  abbrev field_is_closed : PField → Bool
  field_is_closed = fold-PField (Option Ty → Bool) Bool Bool eform_closed (λ x. x.form x.ty) (λ x. x.value)

  abbrev opens : PEForm → Open bounds
  opens = fold-PEForm (Open bounds) (List Site) (List Site) (eform_sites bounds) (λ e. e.form e.ty e.span) (λ x. x.value)

  abbrev field_opens : PField → List Site
  field_opens = fold-PField (Open bounds) (List Site) (List Site) (eform_sites bounds) (λ e. e.form e.ty e.span) (λ x. x.value)

  abbrev expr_opens : PExpr → List Site
  expr_opens = expr_sites bounds

  abbrev At_eform : PEForm → Type 0
  At_eform f = (t : Option Ty) (span : Span) → opens f t span ≡ [] → IsTrue (eform_is_closed f t)

  abbrev At_expr : PExpr → Type 0
  At_expr e = expr_opens e ≡ [] → IsTrue (expr_closed e)

  abbrev At_field : PField → Type 0
  At_field x = field_opens x ≡ [] → IsTrue (field_is_closed x)

  abbrev EForm : Type 0
  EForm = (f : PEForm) × At_eform f

  abbrev Expr : Type 0
  Expr = (e : PExpr) × At_expr e

  abbrev Set : Type 0
  Set = (x : PField) × At_field x

  abbrev down : P.PEForm-F EForm Expr Set → P.PEForm-F PEForm PExpr PField
  down = map-PEForm EForm Expr Set PEForm PExpr PField (λ q. q.0) (λ q. q.0) (λ q. q.0)

  rolled : (x : P.PEForm-F PEForm PExpr PField) → ((t : Option Ty) (span : Span) → eform_sites bounds (map-PEForm PEForm PExpr PField (Open bounds) (List Site) (List Site) opens expr_opens field_opens x) t span ≡ [] → IsTrue (eform_closed (map-PEForm PEForm PExpr PField (Option Ty → Bool) Bool Bool eform_is_closed expr_closed field_is_closed x) t)) → At_eform (V.roll-PEForm x)
  rolled x h t span e =
      subst (λ (p : Option Ty → Bool). IsTrue (p t)) (sym (fold-roll-PEForm (Option Ty → Bool) Bool Bool eform_closed (λ x. x.form x.ty) (λ x. x.value) x))
      (h t span
      (sym (ap (λ (p : Open bounds). p t span) (fold-roll-PEForm (Open bounds) (List Site) (List Site) (eform_sites bounds) (λ e. e.form e.ty e.span) (λ x. x.value) x)) ∙ e))

  two : (a b : Expr) → expr_opens a.0 ++ expr_opens b.0 ≡ [] → IsTrue (expr_closed a.0 && expr_closed b.0)
  two a b e =
      let none = none_of (expr_opens a.0) (expr_opens b.0) e in
      and_from (expr_closed a.0) (expr_closed b.0) (a.1 none.0) (b.1 none.1)

  hole_opens : (bits : Option ℕ) (t : Option Ty) (span : Span) → hole_sites bounds bits t span ≡ [] → IsTrue (is_no_bits t)
  hole_opens bits None span e = cc
  hole_opens bits (Some (ty.One elem.Bit)) span e = cc
  hole_opens bits (Some (ty.One elem.Int)) span e = cc
  hole_opens bits (Some (ty.One (elem.Reference s))) span e = cc
  hole_opens bits (Some (ty.Array elem.Bit zero)) span e = refl
  hole_opens bits (Some (ty.Array elem.Bit (suc n))) span e = cc
  hole_opens bits (Some (ty.Array elem.Int n)) span e = cc
  hole_opens bits (Some (ty.Array (elem.Reference s) n)) span e = cc
  hole_opens bits (Some (ty.Grid c n m)) span e = cc

  layer : (y : P.PEForm-F EForm Expr Set) → At_eform (V.roll-PEForm (down y))
  layer (P.Number n) = rolled (P.Number n) (λ t span e. refl)
  layer P.True = rolled P.True (λ t span e. refl)
  layer P.False = rolled P.False (λ t span e. refl)
  layer P.Null = rolled P.Null (λ t span e. refl)
  layer (P.Var slot x) = rolled (P.Var slot x) (λ t span e. refl)
  layer (P.Const c) = rolled (P.Const c) (λ t span e. refl)
  layer (P.Hole bits) = rolled (P.Hole bits) (hole_opens bits)
  layer (P.Pattern es) = rolled (down (P.Pattern es)) (λ t span e. absurd (some_site _ _ e))
  layer (P.Paren a) = rolled (P.Paren a.0) (λ t span e. a.1 e)
  layer (P.Call f es) = rolled (down (P.Call f es)) (λ t span e. all_ok expr_opens expr_closed es e)
  layer (P.New d xs) = rolled (down (P.New d xs)) (λ t span e. all_ok field_opens field_is_closed xs e)
  layer (P.Braces es) = rolled (down (P.Braces es)) (λ t span e. all_ok expr_opens expr_closed es e)
  layer (P.Member a d k) = rolled (P.Member a.0 d k) (λ t span e. a.1 e)
  layer (P.Index a c) = rolled (P.Index a.0 c.0) (λ t span e. two a c e)
  layer (P.Slice a c n) = rolled (P.Slice a.0 c.0 n) (λ t span e. two a c e)
  layer (P.Unary o a) = rolled (P.Unary o a.0) (λ t span e. a.1 e)
  layer (P.Binary o a c) = rolled (P.Binary o a.0 c.0) (λ t span e. two a c e)
  layer (P.Cond d a c) = rolled (P.Cond d.0 a.0 c.0) (λ t span e.
      let none = none_of (expr_opens d.0) (expr_opens a.0 ++ expr_opens c.0) e in
      and_from (expr_closed d.0) (expr_closed a.0 && expr_closed c.0) (d.1 none.0) (two a c none.1))
  layer (P.ToInt a) = rolled (P.ToInt a.0) (λ t span e. a.1 e)
  layer (P.Pad a) = rolled (P.Pad a.0) (λ t span e. a.1 e)

  expr_closes : (e : PExpr) → At_expr e
  expr_closes = ind-PExpr At_eform At_expr At_field
      (λ x y is. subst (λ z. At_eform (V.roll-PEForm z)) is (layer y))
      (λ x y is. subst (λ z. At_expr (V.roll-PExpr z)) is (λ e.
      let z : P.PExpr-F PEForm PExpr PField = map-PExpr EForm Expr Set PEForm PExpr PField (λ q. q.0) (λ q. q.0) (λ q. q.0) y in
      subst IsTrue (sym (fold-roll-PExpr (Option Ty → Bool) Bool Bool eform_closed (λ x. x.form x.ty) (λ x. x.value) z))
      (y.form.1 y.ty y.span (sym (fold-roll-PExpr (Open bounds) (List Site) (List Site) (eform_sites bounds) (λ e. e.form e.ty e.span) (λ x. x.value) z) ∙ e))))
      (λ x y is. subst (λ z. At_field (V.roll-PField z)) is (λ e.
      let z : P.PField-F PEForm PExpr PField = map-PField EForm Expr Set PEForm PExpr PField (λ q. q.0) (λ q. q.0) (λ q. q.0) y in
      subst IsTrue (sym (fold-roll-PField (Option Ty → Bool) Bool Bool eform_closed (λ x. x.form x.ty) (λ x. x.value) z))
      (y.value.1 (sym (fold-roll-PField (Open bounds) (List Site) (List Site) (eform_sites bounds) (λ e. e.form e.ty e.span) (λ x. x.value) z) ∙ e))))

  any_closes : (e : Option PExpr) → value_sites bounds e ≡ [] → IsTrue (any_closed e)
  any_closes None e = refl
  any_closes (Some x) e = expr_closes x e

  -- Statements

  abbrev form_is_closed : PForm → Bool
  form_is_closed = fold-PForm Bool Bool form_closed (λ s. s.form)

  abbrev form_opens : PForm → Span → List Site
  form_opens = fold-PForm (Span → List Site) (List Site) (form_sites bounds) (λ s. s.form s.span)

  abbrev stmt_opens : PStmt → List Site
  stmt_opens = stmt_sites bounds

  abbrev At_form : PForm → Type 0
  At_form f = (span : Span) → form_opens f span ≡ [] → IsTrue (form_is_closed f)

  abbrev At_stmt : PStmt → Type 0
  At_stmt s = stmt_opens s ≡ [] → IsTrue (stmt_closed s)

  abbrev Form : Type 0
  Form = (f : PForm) × At_form f

  abbrev Stmt : Type 0
  Stmt = (s : PStmt) × At_stmt s

  abbrev sdown : S.PForm-F Form Stmt → S.PForm-F PForm PStmt
  sdown = map-PForm Form Stmt PForm PStmt (λ q. q.0) (λ q. q.0)

  abbrev stmts : List Stmt → List PStmt
  stmts = map (λ q. q.0)

  srolled : (x : S.PForm-F PForm PStmt) → ((span : Span) → form_sites bounds (map-PForm PForm PStmt (Span → List Site) (List Site) form_opens stmt_opens x) span ≡ [] → IsTrue (form_closed (map-PForm PForm PStmt Bool Bool form_is_closed stmt_closed x))) → At_form (W.roll-PForm x)
  srolled x h span e =
      subst IsTrue (sym (fold-roll-PForm Bool Bool form_closed (λ s. s.form) x))
      (h span
      (sym (ap (λ (p : Span → List Site). p span) (fold-roll-PForm (Span → List Site) (List Site) (form_sites bounds) (λ s. s.form s.span) x)) ∙ e))

  repeat_closes : (c : PExpr) (ss : List Stmt) (span : Span) → repeat_sites c (length (map stmt_opens (stmts ss))) span ++ joined (map stmt_opens (stmts ss)) ≡ [] → IsTrue (not (is_hole c.form) && list_all is_yes (map stmt_closed (stmts ss)))
  repeat_closes c ss span e =
      let some : List Site = site (length (map stmt_opens (stmts ss)) + 1) span ∷ [] in
      elim (is_hole c.form) as (λ v. (if v then some else []) ++ joined (map stmt_opens (stmts ss)) ≡ [] → IsTrue (not v && list_all is_yes (map stmt_closed (stmts ss)))) [
        | true ↦ λ f. absurd (some_site _ _ f)
        | false ↦ λ f. all_ok stmt_opens stmt_closed ss f
      ] e

  one_at_most : (ss : List Stmt) (span : Span) → places 2 (length (map stmt_opens (stmts ss)) - 1) span ≡ [] → IsTrue (nat_le (length (map stmt_closed (stmts ss))) 1)
  one_at_most [] span e = refl
  one_at_most (q ∷ []) span e = refl
  one_at_most (q ∷ r ∷ ss) span e =
      let more : length (map stmt_opens (stmts (q ∷ r ∷ ss))) - 1 ≡ suc (length (map stmt_opens (stmts ss))) = omega arith in
      absurd (some_site _ _ (subst (λ n. places 2 n span ≡ []) more e))

  reorder_closes : (ss : List Stmt) (span : Span) → places 2 (length (map stmt_opens (stmts ss)) - 1) span ++ joined (map stmt_opens (stmts ss)) ≡ [] → IsTrue (nat_le (length (map stmt_closed (stmts ss))) 1 && list_all is_yes (map stmt_closed (stmts ss)))
  reorder_closes ss span e =
      let none = none_of (places 2 (length (map stmt_opens (stmts ss)) - 1) span) (joined (map stmt_opens (stmts ss))) e in
      and_from (nat_le (length (map stmt_closed (stmts ss))) 1) (list_all is_yes (map stmt_closed (stmts ss))) (one_at_most ss span none.0) (all_ok stmt_opens stmt_closed ss none.1)

  slayer : (y : S.PForm-F Form Stmt) → At_form (W.roll-PForm (sdown y))
  slayer (S.Block ss) = srolled (sdown (S.Block ss)) (λ span e. all_ok stmt_opens stmt_closed ss e)
  slayer (S.Declare slot x t v) = srolled (S.Declare slot x t v) (λ span e. any_closes v e)
  slayer (S.Assign a v) = srolled (S.Assign a v) (λ span e. two (a, expr_closes a) (v, expr_closes v) e)
  slayer (S.Call v) = srolled (S.Call v) (λ span e. expr_closes v e)
  slayer (S.If c a None) = srolled (S.If c a.0 None) (λ span e.
      let none = none_of (expr_opens c) (stmt_opens a.0 ++ []) e in
      let rest = none_of (stmt_opens a.0) [] none.1 in
      and_from (expr_closed c) (stmt_closed a.0 && true) (expr_closes c none.0) (and_from (stmt_closed a.0) true (a.1 rest.0) refl))
  slayer (S.If c a (Some d)) = srolled (S.If c a.0 (Some d.0)) (λ span e.
      let none = none_of (expr_opens c) (stmt_opens a.0 ++ stmt_opens d.0) e in
      let rest = none_of (stmt_opens a.0) (stmt_opens d.0) none.1 in
      and_from (expr_closed c) (stmt_closed a.0 && stmt_closed d.0) (expr_closes c none.0) (and_from (stmt_closed a.0) (stmt_closed d.0) (a.1 rest.0) (d.1 rest.1)))
  slayer (S.While c a) = srolled (S.While c a.0) (λ span e.
      let none = none_of (expr_opens c) (stmt_opens a.0) e in
      and_from (expr_closed c) (stmt_closed a.0) (expr_closes c none.0) (a.1 none.1))
  slayer (S.Return v) = srolled (S.Return v) (λ span e. any_closes v e)
  slayer (S.Assert v) = srolled (S.Assert v) (λ span e. expr_closes v e)
  slayer (S.Assume v) = srolled (S.Assume v) (λ span e. expr_closes v e)
  slayer (S.Minimize v) = srolled (S.Minimize v) (λ span e. expr_closes v e)
  slayer (S.Repeat c ss) = srolled (sdown (S.Repeat c ss)) (λ span e. repeat_closes c ss span e)
  slayer (S.MinRepeat ss) = srolled (sdown (S.MinRepeat ss)) (λ span e. absurd (some_site _ _ e))
  slayer (S.Reorder ss) = srolled (sdown (S.Reorder ss)) (λ span e. reorder_closes ss span e)

  stmt_closes : (s : PStmt) → At_stmt s
  stmt_closes = ind-PStmt At_form At_stmt
      (λ x y is. subst (λ z. At_form (W.roll-PForm z)) is (slayer y))
      (λ x y is. subst (λ z. At_stmt (W.roll-PStmt z)) is (λ e.
      let z : S.PStmt-F PForm PStmt = map-PStmt Form Stmt PForm PStmt (λ q. q.0) (λ q. q.0) y in
      subst IsTrue (sym (fold-roll-PStmt Bool Bool form_closed (λ s. s.form) z))
      (y.form.1 y.span (sym (fold-roll-PStmt (Span → List Site) (List Site) (form_sites bounds) (λ s. s.form s.span) z) ∙ e))))

  body_closes : (ss : List PStmt) → stmts_sites bounds ss ≡ [] → IsTrue (list_all stmt_closed ss)
  body_closes [] e = refl
  body_closes (s ∷ ss) e =
      let none = none_of (stmt_opens s) (stmts_sites bounds ss) e in
      and_from (stmt_closed s) (list_all stmt_closed ss) (stmt_closes s none.0) (body_closes ss none.1)

  funs_close : (fs : List Fun) → funs_sites bounds fs ≡ [] → IsTrue (list_all fun_closed fs)
  funs_close [] e = refl
  funs_close (f ∷ fs) e =
      let none = none_of (stmts_sites bounds f.body) (funs_sites bounds fs) e in
      and_from (fun_closed f) (list_all fun_closed fs) (body_closes f.body none.0) (funs_close fs none.1)

pub no_sites_closes : (bounds : Bounds) (p : Prog) → sites bounds p ≡ [] → IsTrue (is_closed p)
no_sites_closes bounds p e = funs_close bounds p.funs e
