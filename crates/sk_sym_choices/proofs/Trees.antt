-- What calls and pays in an expression, a statement and a body is what stands of it under each choice.
use Rattle.std.proofs.Common.{◌≡◌, ℕ, ◌-◌, Bool, true, false, List, [], ◌∷◌, map, length, Option, Some, None, sym, ap, subst}
use Rattle.std.specs.Prelude.{if◌then◌else◌}
use Rattle.std.proofs.lemmas.List.{length-map}
use Rattle.sk_base.specs.declared.span.Span.{Span}
use Rattle.sk_prog.specs.declared.ty.Ty.{Ty}
use Rattle.sk_prog.specs.declared.expr.PExpr.{PExpr}
use Rattle.sk_prog.specs.declared.expr.PField.{PField}
use Rattle.sk_prog.specs.declared.expr.PEForm.{PEForm}
use Rattle.sk_prog.specs.declared.expr.PEForm.TheVariants as eform
use Rattle.sk_prog.specs.declared.expr.PEForm.TheOpen as P
use Rattle.sk_prog.specs.declared.expr.PEForm.TheViews as V
use Rattle.sk_prog.specs.declared.expr.PEForm.TheFolds.{map-PEForm, fold-PEForm, fold-PField}
use Rattle.sk_prog.specs.declared.stmt.PStmt.{PStmt}
use Rattle.sk_prog.specs.declared.stmt.PForm.{PForm}
use Rattle.sk_prog.specs.declared.stmt.PForm.TheVariants as form
use Rattle.sk_prog.specs.declared.stmt.PForm.TheOpen as S
use Rattle.sk_prog.specs.declared.stmt.PForm.TheViews as W
use Rattle.sk_prog.specs.declared.stmt.PForm.TheFolds.{map-PForm, fold-PForm}
use Rattle.sk_model.specs.Parts.{Part}
use Rattle.sk_model.specs.Sites.{is_hole}
use Rattle.sk_model.specs.Stands.{Standing, own, beside, in_row, first_of, by_value, hole_count, eform_standing, expr_standing, value_standing, form_standing, stmt_standing, body_standing}
use Rattle.sk_model.proofs.Layers.{layer_field, expr_layer, stmt_layer}
use Rattle.sk_model.proofs.Induction.{Each, ExprCases, expr_ind, StmtCases, stmt_ind}
use Rattle.sk_sym_choices.specs.Guards.{Guards, sites_alone, both, in_line, by_site, exceeds, eform_guards, expr_guards, value_guards, form_guards, stmt_guards, body_guards}
use Rattle.sk_sym_choices.proofs.Says.{Says, says_alone, says_both, says_line, says_first, says_only, says_call, says_owed}

module _ (values : List ℕ) where
  says_by : {p p' : Part Standing} {q q' : Guards} → p' ≡ p → q' ≡ q → Says values p q → Says values p' q'
  says_by {p} {p'} {q} {q'} e f h = subst (λ (x : Part Standing). Says values x q') (sym e) (subst (λ (y : Guards). Says values p y) (sym f) h)

  abbrev field_standing : PField → Part Standing
  field_standing = fold-PField (Option Ty → Part Standing) (Part Standing) (Part Standing) (eform_standing values) (λ e. e.form e.ty) (λ x. x.value)

  abbrev form_standing_of : PEForm → Option Ty → Part Standing
  form_standing_of = fold-PEForm (Option Ty → Part Standing) (Part Standing) (Part Standing) (eform_standing values) (λ e. e.form e.ty) (λ x. x.value)

  abbrev field_guards : PField → Guards
  field_guards = fold-PField (Option Ty → Guards) Guards Guards eform_guards (λ e. e.form e.ty) (λ x. x.value)

  abbrev form_guards_of : PEForm → Option Ty → Guards
  form_guards_of = fold-PEForm (Option Ty → Guards) Guards Guards eform_guards (λ e. e.form e.ty) (λ x. x.value)

  abbrev pub SaysExpr : PExpr → Type 0
  SaysExpr e = Says values (expr_standing values e) (expr_guards e)

  abbrev pub SaysField : PField → Type 0
  SaysField x = Says values (field_standing x) (field_guards x)

  -- an expression, by its form
  by_form : (x : P.PEForm-F PEForm PExpr PField) (f : PEForm) → V.roll-PEForm x ≡ f → (s : Span) (t : Option Ty)
      → Says values (eform_standing values (map-PEForm PEForm PExpr PField (Option Ty → Part Standing) (Part Standing) (Part Standing) form_standing_of (expr_standing values) field_standing x) t) (eform_guards (map-PEForm PEForm PExpr PField (Option Ty → Guards) Guards Guards form_guards_of expr_guards field_guards x) t)
      → SaysExpr (record { span = s; ty = t; form = f })
  by_form x f is s t h =
      says_by
      (expr_layer (Option Ty → Part Standing) (Part Standing) (Part Standing) (eform_standing values) (λ e. e.form e.ty) (λ x. x.value) x f is s t)
      (expr_layer (Option Ty → Guards) Guards Guards eform_guards (λ e. e.form e.ty) (λ x. x.value) x f is s t)
      h

  row : (es : List PExpr) → Each SaysExpr es → Says values (in_row (map (expr_standing values) es)) (in_line (map expr_guards es))
  row es h = says_line values (expr_standing values) expr_guards es h

  two : (a b : PExpr) → SaysExpr a → SaysExpr b → Says values (beside (expr_standing values a) (expr_standing values b)) (both (expr_guards a) (expr_guards b))
  two a b h k = says_both values (expr_standing values a) (expr_standing values b) (expr_guards a) (expr_guards b) h k

  expr_cases : ExprCases SaysExpr SaysField
  expr_cases = record {
    field = λ k e h.
        says_by
        (layer_field (Option Ty → Part Standing) (Part Standing) (Part Standing) (eform_standing values) (λ e. e.form e.ty) (λ x. x.value) k e)
        (layer_field (Option Ty → Guards) Guards Guards eform_guards (λ e. e.form e.ty) (λ x. x.value) k e)
        h;
    number = λ s t n. by_form (P.Number n) (eform.Number n) (V.rolls-Number n) s t (says_alone values 0);
    truth = λ s t. by_form P.True eform.True V.rolls-True s t (says_alone values 0);
    falsity = λ s t. by_form P.False eform.False V.rolls-False s t (says_alone values 0);
    null = λ s t. by_form P.Null eform.Null V.rolls-Null s t (says_alone values 0);
    var = λ s t slot x. by_form (P.Var slot x) (eform.Var slot x) (V.rolls-Var slot x) s t (says_alone values 0);
    const = λ s t k. by_form (P.Const k) (eform.Const k) (V.rolls-Const k) s t (says_alone values 0);
    hole = λ s t bits. by_form (P.Hole bits) (eform.Hole bits) (V.rolls-Hole bits) s t (says_alone values (hole_count t));
    pattern = λ s t es h. by_form (P.Pattern es) (eform.Pattern es) (V.rolls-Pattern es) s t (says_only values (expr_standing values) expr_guards es h);
    paren = λ s t e h. by_form (P.Paren e) (eform.Paren e) (V.rolls-Paren e) s t h;
    call = λ s t f es h. by_form (P.Call f es) (eform.Call f es) (V.rolls-Call f es) s t (says_call values f.index (in_row (map (expr_standing values) es)) (in_line (map expr_guards es)) (row es h));
    new = λ s t d fs h. by_form (P.New d fs) (eform.New d fs) (V.rolls-New d fs) s t (says_line values field_standing field_guards fs h);
    braces = λ s t es h. by_form (P.Braces es) (eform.Braces es) (V.rolls-Braces es) s t (row es h);
    member = λ s t e d k h. by_form (P.Member e d k) (eform.Member e d k) (V.rolls-Member e d k) s t h;
    index = λ s t e i h k. by_form (P.Index e i) (eform.Index e i) (V.rolls-Index e i) s t (two e i h k);
    slice = λ s t e i n h k. by_form (P.Slice e i n) (eform.Slice e i n) (V.rolls-Slice e i n) s t (two e i h k);
    unary = λ s t o e h. by_form (P.Unary o e) (eform.Unary o e) (V.rolls-Unary o e) s t h;
    binary = λ s t o a b h k. by_form (P.Binary o a b) (eform.Binary o a b) (V.rolls-Binary o a b) s t (two a b h k);
    cond = λ s t c a b h k l. by_form (P.Cond c a b) (eform.Cond c a b) (V.rolls-Cond c a b) s t (says_both values (expr_standing values c) (beside (expr_standing values a) (expr_standing values b)) (expr_guards c) (both (expr_guards a) (expr_guards b)) h (two a b k l));
    to_int = λ s t e h. by_form (P.ToInt e) (eform.ToInt e) (V.rolls-ToInt e) s t h;
    pad = λ s t e h. by_form (P.Pad e) (eform.Pad e) (V.rolls-Pad e) s t h;
  }

  pub says_expr : (e : PExpr) → SaysExpr e
  says_expr = expr_ind SaysExpr SaysField expr_cases

  says_value : (e : Option PExpr) → Says values (value_standing values e) (value_guards e)
  says_value None = says_alone values 0
  says_value (Some e) = says_expr e

  -- Statements

  abbrev pub SaysStmt : PStmt → Type 0
  SaysStmt s = Says values (stmt_standing values s) (stmt_guards s)

  abbrev pform_standing_of : PForm → Span → Part Standing
  pform_standing_of = fold-PForm (Span → Part Standing) (Part Standing) (form_standing values) (λ s. s.form s.span)

  abbrev pform_guards_of : PForm → Span → Guards
  pform_guards_of = fold-PForm (Span → Guards) Guards form_guards (λ s. s.form s.span)

  -- a statement, by its form
  by_stmt : (x : S.PForm-F PForm PStmt) (f : PForm) → W.roll-PForm x ≡ f → (s : Span)
      → Says values (form_standing values (map-PForm PForm PStmt (Span → Part Standing) (Part Standing) pform_standing_of (stmt_standing values) x) s) (form_guards (map-PForm PForm PStmt (Span → Guards) Guards pform_guards_of stmt_guards x) s)
      → SaysStmt (record { span = s; form = f })
  by_stmt x f is s h =
      says_by
      (stmt_layer (Span → Part Standing) (Part Standing) (form_standing values) (λ s. s.form s.span) x f is s)
      (stmt_layer (Span → Guards) Guards form_guards (λ s. s.form s.span) x f is s)
      h

  line : (ss : List PStmt) → Each SaysStmt ss → Says values (in_row (map (stmt_standing values) ss)) (in_line (map stmt_guards ss))
  line ss h = says_line values (stmt_standing values) stmt_guards ss h

  copies : (ss : List PStmt) → Each SaysStmt ss → Says values (by_value values first_of (map (stmt_standing values) ss)) (by_site exceeds (map stmt_guards ss))
  copies ss h = says_first values (stmt_standing values) stmt_guards ss h

  repeated : (hole : Bool) (ss : List PStmt) → Each SaysStmt ss
      → Says values (if hole then by_value values first_of (map (stmt_standing values) ss) else in_row (map (stmt_standing values) ss)) (if hole then by_site exceeds (map stmt_guards ss) else in_line (map stmt_guards ss))
  repeated true ss h = copies ss h
  repeated false ss h = line ss h

  ordered : (ss : List PStmt) → Each SaysStmt ss
      → Says values (beside (own (length (map (stmt_standing values) ss) - 1)) (in_row (map (stmt_standing values) ss))) (both (sites_alone (length (map stmt_guards ss) - 1)) (in_line (map stmt_guards ss)))
  ordered ss h =
      says_by
      (ap (λ n. beside (own (n - 1)) (in_row (map (stmt_standing values) ss))) (length-map ss (stmt_standing values)))
      (ap (λ n. both (sites_alone (n - 1)) (in_line (map stmt_guards ss))) (length-map ss stmt_guards))
      (says_both values (own (length ss - 1)) (in_row (map (stmt_standing values) ss)) (sites_alone (length ss - 1)) (in_line (map stmt_guards ss)) (says_alone values (length ss - 1)) (line ss h))

  -- a condition, and what is done by it
  after : (c : PExpr) (p : Part Standing) (q : Guards) → Says values p q → Says values (beside (expr_standing values c) p) (both (expr_guards c) q)
  after c p q h = says_both values (expr_standing values c) p (expr_guards c) q (says_expr c) h

  stmt_cases : StmtCases SaysStmt
  stmt_cases = record {
    block = λ s ss h. by_stmt (S.Block ss) (form.Block ss) (W.rolls-Block ss) s (line ss h);
    declare = λ s slot x t e. by_stmt (S.Declare slot x t e) (form.Declare slot x t e) (W.rolls-Declare slot x t e) s (says_value e);
    assign = λ s p e. by_stmt (S.Assign p e) (form.Assign p e) (W.rolls-Assign p e) s (two p e (says_expr p) (says_expr e));
    calls = λ s e. by_stmt (S.Call e) (form.Call e) (W.rolls-Call e) s (says_expr e);
    if_only = λ s c a h. by_stmt (S.If c a None) (form.If c a None) (W.rolls-If c a None) s (after c (beside (stmt_standing values a) (own 0)) (both (stmt_guards a) (sites_alone 0)) (says_both values (stmt_standing values a) (own 0) (stmt_guards a) (sites_alone 0) h (says_alone values 0)));
    if_else = λ s c a b h k. by_stmt (S.If c a (Some b)) (form.If c a (Some b)) (W.rolls-If c a (Some b)) s (after c (beside (stmt_standing values a) (stmt_standing values b)) (both (stmt_guards a) (stmt_guards b)) (says_both values (stmt_standing values a) (stmt_standing values b) (stmt_guards a) (stmt_guards b) h k));
    loop = λ s c a h. by_stmt (S.While c a) (form.While c a) (W.rolls-While c a) s (after c (stmt_standing values a) (stmt_guards a) h);
    returns = λ s e. by_stmt (S.Return e) (form.Return e) (W.rolls-Return e) s (says_value e);
    asserts = λ s e. by_stmt (S.Assert e) (form.Assert e) (W.rolls-Assert e) s (says_expr e);
    assumes = λ s e. by_stmt (S.Assume e) (form.Assume e) (W.rolls-Assume e) s (says_expr e);
    minimizes = λ s e. by_stmt (S.Minimize e) (form.Minimize e) (W.rolls-Minimize e) s (says_expr e);
    repeats = λ s c ss h. by_stmt (S.Repeat c ss) (form.Repeat c ss) (W.rolls-Repeat c ss) s (repeated (is_hole c.form) ss h);
    minrepeat = λ s ss h. by_stmt (S.MinRepeat ss) (form.MinRepeat ss) (W.rolls-MinRepeat ss) s (says_owed values s (by_value values first_of (map (stmt_standing values) ss)) (by_site exceeds (map stmt_guards ss)) (copies ss h));
    reorder = λ s ss h. by_stmt (S.Reorder ss) (form.Reorder ss) (W.rolls-Reorder ss) s (ordered ss h);
  }

  pub says_stmt : (s : PStmt) → SaysStmt s
  says_stmt = stmt_ind SaysStmt stmt_cases

  all_say : (ss : List PStmt) → Each SaysStmt ss
  all_say [] = tt
  all_say (s ∷ ss) = (says_stmt s, all_say ss)

  -- what calls and pays in a body, each under its tests, is what stands of the body
  pub says_body : (ss : List PStmt) → Says values (body_standing values ss) (body_guards ss)
  says_body ss = line ss (all_say ss)
