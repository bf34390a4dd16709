-- The count of a part is how many sites it has, whatever is chosen and whatever calls do.
use Rattle.std.proofs.Common.{◌≡◌, ℕ, zero, suc, ◌+◌, ◌-◌, Bool, true, false, List, [], ◌∷◌, map, length, take, Option, Some, None, refl, sym, ap, ◌∙◌}
use Rattle.std.specs.Prelude.{if◌then◌else◌}
use Rattle.std.proofs.lemmas.List.{length-map}
use Rattle.sk_base.specs.declared.span.Span.{Span}
use Rattle.sk_base.specs.declared.bounds.Bounds.{Bounds}
use Rattle.sk_prog.specs.declared.ty.Ty.{Ty}
use Rattle.sk_prog.specs.declared.expr.PExpr.{PExpr}
use Rattle.sk_prog.specs.declared.expr.PField.{PField}
use Rattle.sk_prog.specs.declared.expr.PEForm.{PEForm}
use Rattle.sk_prog.specs.declared.expr.PEForm.TheVariants as eform
use Rattle.sk_prog.specs.declared.expr.PEForm.TheOpen as P
use Rattle.sk_prog.specs.declared.expr.PEForm.TheViews as V
use Rattle.sk_prog.specs.declared.expr.PEForm.TheFolds.{map-PEForm, fold-PEForm, fold-PField}
use Rattle.sk_prog.specs.declared.stmt.PStmt.{PStmt}
use Rattle.sk_prog.specs.declared.stmt.PForm.{PForm}
use Rattle.sk_prog.specs.declared.stmt.PForm.TheVariants as form
use Rattle.sk_prog.specs.declared.stmt.PForm.TheOpen as S
use Rattle.sk_prog.specs.declared.stmt.PForm.TheViews as W
use Rattle.sk_prog.specs.declared.stmt.PForm.TheFolds.{map-PForm, fold-PForm}
use Rattle.sk_prog.specs.declared.prog.Fun.{Fun}
use Rattle.sk_prog.specs.declared.prog.Prog.{Prog}
use Rattle.sk_model.specs.Parts.{Part, counts, total}
use Rattle.sk_model.specs.Sites.{is_hole}
use Rattle.sk_model.specs.Step.{Comp}
use Rattle.sk_model.specs.Eval.{Calls, Does}
use Rattle.sk_model.specs.Exec.{Flow}
use Rattle.sk_model.specs.Open.{open_eform, open_field, open_expr, any_open, open_form, open_stmt, copies_part, block_part, sites_before}
use Rattle.sk_model.proofs.Layers.{layer_field, expr_layer, stmt_layer}
use Rattle.sk_model.proofs.Induction.{Each, ExprCases, expr_ind, StmtCases, stmt_ind}
use Rattle.sk_sym_sites.specs.Counts.{eform_count, expr_count, field_count, value_count, form_count, stmt_count, stmts_count}
use Rattle.sk_sym_sites.specs.Places.{funs_count}

module _ (prog : Prog) (bounds : Bounds) (values : List ℕ) (call : Calls) where
  abbrev opened : PExpr → Part Does
  opened = open_expr prog bounds values call

  abbrev opened_field : PField → Part (ℕ × Does)
  opened_field = fold-PField (Option Ty → Part Does) (Part Does) (Part (ℕ × Does)) (open_eform prog bounds values call) (λ e. e.form e.ty) (open_field prog bounds values call)

  abbrev opened_form : PEForm → Option Ty → Part Does
  opened_form = fold-PEForm (Option Ty → Part Does) (Part Does) (Part (ℕ × Does)) (open_eform prog bounds values call) (λ e. e.form e.ty) (open_field prog bounds values call)

  abbrev counted_form : PEForm → Option Ty → ℕ
  counted_form = fold-PEForm (Option Ty → ℕ) ℕ ℕ eform_count (λ e. e.form e.ty) (λ x. x.value)

  abbrev pub CountsExpr : PExpr → Type 0
  CountsExpr e = (opened e).count ≡ expr_count e

  abbrev CountsField : PField → Type 0
  CountsField x = (opened_field x).count ≡ field_count x

  -- an expression, by its form
  by_form : (x : P.PEForm-F PEForm PExpr PField) (f : PEForm) → V.roll-PEForm x ≡ f → (s : Span) (t : Option Ty)
      → (open_eform prog bounds values call (map-PEForm PEForm PExpr PField (Option Ty → Part Does) (Part Does) (Part (ℕ × Does)) opened_form opened opened_field x) t).count ≡ eform_count (map-PEForm PEForm PExpr PField (Option Ty → ℕ) ℕ ℕ counted_form expr_count field_count x) t
      → CountsExpr (record { span = s; ty = t; form = f })
  by_form x f is s t h =
      ap (λ p. p.count) (expr_layer (Option Ty → Part Does) (Part Does) (Part (ℕ × Does)) (open_eform prog bounds values call) (λ e. e.form e.ty) (open_field prog bounds values call) x f is s t)
      ∙ h
      ∙ sym (expr_layer (Option Ty → ℕ) ℕ ℕ eform_count (λ e. e.form e.ty) (λ x. x.value) x f is s t)

  two : {a b c d : ℕ} → a ≡ b → c ≡ d → a + c ≡ b + d
  two e f = λ i. e i + f i

  row : {A B : Type 0} (f : A → Part B) (g : A → ℕ) (xs : List A) → Each (λ x. (f x).count ≡ g x) xs → counts (map f xs) ≡ total (map g xs)
  row f g [] h = refl
  row f g (x ∷ xs) h = two h.0 (row f g xs h.1)

  expr_cases : ExprCases CountsExpr CountsField
  expr_cases = record {
    field = λ k e h.
        ap (λ p. p.count) (layer_field (Option Ty → Part Does) (Part Does) (Part (ℕ × Does)) (open_eform prog bounds values call) (λ e. e.form e.ty) (open_field prog bounds values call) k e)
        ∙ h
        ∙ sym (layer_field (Option Ty → ℕ) ℕ ℕ eform_count (λ e. e.form e.ty) (λ x. x.value) k e);
    number = λ s t n. by_form (P.Number n) (eform.Number n) (V.rolls-Number n) s t refl;
    truth = λ s t. by_form P.True eform.True V.rolls-True s t refl;
    falsity = λ s t. by_form P.False eform.False V.rolls-False s t refl;
    null = λ s t. by_form P.Null eform.Null V.rolls-Null s t refl;
    var = λ s t slot x. by_form (P.Var slot x) (eform.Var slot x) (V.rolls-Var slot x) s t refl;
    const = λ s t k. by_form (P.Const k) (eform.Const k) (V.rolls-Const k) s t refl;
    hole = λ s t bits. by_form (P.Hole bits) (eform.Hole bits) (V.rolls-Hole bits) s t refl;
    pattern = λ s t es h. by_form (P.Pattern es) (eform.Pattern es) (V.rolls-Pattern es) s t (ap suc (row opened expr_count es h));
    paren = λ s t e h. by_form (P.Paren e) (eform.Paren e) (V.rolls-Paren e) s t h;
    call = λ s t f es h. by_form (P.Call f es) (eform.Call f es) (V.rolls-Call f es) s t (row opened expr_count es h);
    new = λ s t d fs h. by_form (P.New d fs) (eform.New d fs) (V.rolls-New d fs) s t (row opened_field field_count fs h);
    braces = λ s t es h. by_form (P.Braces es) (eform.Braces es) (V.rolls-Braces es) s t (row opened expr_count es h);
    member = λ s t e d k h. by_form (P.Member e d k) (eform.Member e d k) (V.rolls-Member e d k) s t h;
    index = λ s t e i h k. by_form (P.Index e i) (eform.Index e i) (V.rolls-Index e i) s t (two h k);
    slice = λ s t e i n h k. by_form (P.Slice e i n) (eform.Slice e i n) (V.rolls-Slice e i n) s t (two h k);
    unary = λ s t o e h. by_form (P.Unary o e) (eform.Unary o e) (V.rolls-Unary o e) s t h;
    binary = λ s t o a b h k. by_form (P.Binary o a b) (eform.Binary o a b) (V.rolls-Binary o a b) s t (two h k);
    cond = λ s t c a b h k l. by_form (P.Cond c a b) (eform.Cond c a b) (V.rolls-Cond c a b) s t (two h (two k l));
    to_int = λ s t e h. by_form (P.ToInt e) (eform.ToInt e) (V.rolls-ToInt e) s t h;
    pad = λ s t e h. by_form (P.Pad e) (eform.Pad e) (V.rolls-Pad e) s t h;
  }

  pub counts_expr : (e : PExpr) → CountsExpr e
  counts_expr = expr_ind CountsExpr CountsField expr_cases

  counts_value : (e : Option PExpr) → (any_open prog bounds values call e).count ≡ value_count e
  counts_value None = refl
  counts_value (Some e) = counts_expr e

  -- Statements

  abbrev opened_stmt : PStmt → Part (Comp Flow)
  opened_stmt = open_stmt prog bounds values call

  abbrev pub CountsStmt : PStmt → Type 0
  CountsStmt s = (opened_stmt s).count ≡ stmt_count s

  abbrev opened_pform : PForm → Part (Span → Comp Flow)
  opened_pform = fold-PForm (Part (Span → Comp Flow)) (Part (Comp Flow)) (open_form prog bounds values call) (λ s. record { count = s.form.count; at = λ i. s.form.at i s.span })

  abbrev counted_pform : PForm → ℕ
  counted_pform = fold-PForm ℕ ℕ form_count (λ s. s.form)

  -- a statement, by its form
  by_stmt : (x : S.PForm-F PForm PStmt) (f : PForm) → W.roll-PForm x ≡ f → (s : Span)
      → (open_form prog bounds values call (map-PForm PForm PStmt (Part (Span → Comp Flow)) (Part (Comp Flow)) opened_pform opened_stmt x)).count ≡ form_count (map-PForm PForm PStmt ℕ ℕ counted_pform stmt_count x)
      → CountsStmt (record { span = s; form = f })
  by_stmt x f is s h =
      ap (λ p. p.count) (stmt_layer (Part (Span → Comp Flow)) (Part (Comp Flow)) (open_form prog bounds values call) (λ s. record { count = s.form.count; at = λ i. s.form.at i s.span }) x f is s)
      ∙ h
      ∙ sym (stmt_layer ℕ ℕ form_count (λ s. s.form) x f is s)

  line : (ss : List PStmt) → Each CountsStmt ss → counts (map opened_stmt ss) ≡ total (map stmt_count ss)
  line ss h = row opened_stmt stmt_count ss h

  repeated : (hole : Bool) (ss : List PStmt) → Each CountsStmt ss
      → (if hole then copies_part values (map opened_stmt ss) else block_part values (map opened_stmt ss)).count ≡ (if hole then suc (total (map stmt_count ss)) else total (map stmt_count ss))
  repeated true ss h = ap suc (line ss h)
  repeated false ss h = line ss h

  ordered : (ss : List PStmt) → Each CountsStmt ss → (length (map opened_stmt ss) - 1) + counts (map opened_stmt ss) ≡ (length (map stmt_count ss) - 1) + total (map stmt_count ss)
  ordered ss h = two (ap (λ n. n - 1) (length-map ss opened_stmt ∙ sym (length-map ss stmt_count))) (line ss h)

  stmt_cases : StmtCases CountsStmt
  stmt_cases = record {
    block = λ s ss h. by_stmt (S.Block ss) (form.Block ss) (W.rolls-Block ss) s (line ss h);
    declare = λ s slot x t e. by_stmt (S.Declare slot x t e) (form.Declare slot x t e) (W.rolls-Declare slot x t e) s (counts_value e);
    assign = λ s p e. by_stmt (S.Assign p e) (form.Assign p e) (W.rolls-Assign p e) s (two (counts_expr p) (counts_expr e));
    calls = λ s e. by_stmt (S.Call e) (form.Call e) (W.rolls-Call e) s (counts_expr e);
    if_only = λ s c a h. by_stmt (S.If c a None) (form.If c a None) (W.rolls-If c a None) s (two (counts_expr c) (two h refl));
    if_else = λ s c a b h k. by_stmt (S.If c a (Some b)) (form.If c a (Some b)) (W.rolls-If c a (Some b)) s (two (counts_expr c) (two h k));
    loop = λ s c a h. by_stmt (S.While c a) (form.While c a) (W.rolls-While c a) s (two (counts_expr c) h);
    returns = λ s e. by_stmt (S.Return e) (form.Return e) (W.rolls-Return e) s (counts_value e);
    asserts = λ s e. by_stmt (S.Assert e) (form.Assert e) (W.rolls-Assert e) s (counts_expr e);
    assumes = λ s e. by_stmt (S.Assume e) (form.Assume e) (W.rolls-Assume e) s (counts_expr e);
    minimizes = λ s e. by_stmt (S.Minimize e) (form.Minimize e) (W.rolls-Minimize e) s (counts_expr e);
    repeats = λ s c ss h. by_stmt (S.Repeat c ss) (form.Repeat c ss) (W.rolls-Repeat c ss) s (repeated (is_hole c.form) ss h);
    minrepeat = λ s ss h. by_stmt (S.MinRepeat ss) (form.MinRepeat ss) (W.rolls-MinRepeat ss) s (ap suc (line ss h));
    reorder = λ s ss h. by_stmt (S.Reorder ss) (form.Reorder ss) (W.rolls-Reorder ss) s (ordered ss h);
  }

  pub counts_stmt : (s : PStmt) → CountsStmt s
  counts_stmt = stmt_ind CountsStmt stmt_cases

  all_count : (ss : List PStmt) → Each CountsStmt ss
  all_count [] = tt
  all_count (s ∷ ss) = (counts_stmt s, all_count ss)

  pub counts_body : (ss : List PStmt) → counts (map opened_stmt ss) ≡ stmts_count ss
  counts_body ss = line ss (all_count ss)

  pub before_is : (funs : List Fun) (f : ℕ) → funs_count (take f funs) ≡ sites_before prog bounds values call funs f
  before_is funs zero = refl
  before_is [] (suc f) = refl
  before_is (fun ∷ funs) (suc f) = two (sym (counts_body fun.body)) (before_is funs f)
