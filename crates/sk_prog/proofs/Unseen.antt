-- A fold that does not look at spans gives the same over a program without its spans.
use Rattle.std.proofs.Common.{◌≡◌, List, [], ◌∷◌, map, Some, None, refl, sym, ap, ◌∙◌, subst}
use Rattle.sk_prog.specs.declared.expr.PExpr.{PExpr}
use Rattle.sk_prog.specs.declared.expr.PEForm.{PEForm}
use Rattle.sk_prog.specs.declared.expr.PField.{PField}
use Rattle.sk_prog.specs.declared.expr.PEForm.TheOpen as P
use Rattle.sk_prog.specs.declared.expr.PEForm.TheViews.{roll-PEForm}
use Rattle.sk_prog.specs.declared.expr.PEForm.TheFolds.{map-PEForm, fold-PEForm, fold-PExpr, fold-PField, fold-roll-PEForm, fold-roll-PExpr, fold-roll-PField, ind-PExpr}
use Rattle.sk_prog.specs.declared.stmt.PStmt.{PStmt}
use Rattle.sk_prog.specs.declared.stmt.PForm.{PForm}
use Rattle.sk_prog.specs.declared.stmt.PForm.TheOpen as S
use Rattle.sk_prog.specs.declared.stmt.PForm.TheViews.{roll-PForm}
use Rattle.sk_prog.specs.declared.stmt.PForm.TheFolds.{map-PForm, fold-PForm, fold-PStmt, fold-roll-PForm, fold-roll-PStmt, ind-PStmt}
use Rattle.sk_prog.specs.Spanless.{no_span, without_span, field_again, spanless_expr, any_spanless, spanless_form, stmt_without_span, spanless_stmt}

map_same : {A B : Type 0} (f : A → B) (g : A → A) (qs : List ((a : A) × (f (g a) ≡ f a))) → map f (map g (map (λ q. q.0) qs)) ≡ map f (map (λ q. q.0) qs)
map_same f g [] = refl
map_same f g (q ∷ qs) = λ i. q.1 i ∷ map_same f g qs i

-- Expressions

-- without spans, of a form and of a field of `new`
abbrev bare_form : PEForm → PEForm
bare_form = fold-PEForm PEForm PExpr PField roll-PEForm without_span field_again

abbrev bare_field : PField → PField
bare_field = fold-PField PEForm PExpr PField roll-PEForm without_span field_again

module _ (A B C : Type 0) (step : P.PEForm-F A B C → A) (step' : P.PExpr-F A B C → B) (step'' : P.PField-F A B C → C) (blind : (x : P.PExpr-F A B C) → step' (record { span = no_span; ty = x.ty; form = x.form }) ≡ step' x) where
  abbrev of_form : PEForm → A
  of_form = fold-PEForm A B C step step' step''

  abbrev of_expr : PExpr → B
  of_expr = fold-PExpr A B C step step' step''

  abbrev of_field : PField → C
  of_field = fold-PField A B C step step' step''

  abbrev SameForm : Type 0
  SameForm = (f : PEForm) × (of_form (bare_form f) ≡ of_form f)

  abbrev SameExpr : Type 0
  SameExpr = (e : PExpr) × (of_expr (spanless_expr e) ≡ of_expr e)

  abbrev SameField : Type 0
  SameField = (f : PField) × (of_field (bare_field f) ≡ of_field f)

  abbrev parts : P.PEForm-F SameForm SameExpr SameField → P.PEForm-F PEForm PExpr PField
  parts = map-PEForm SameForm SameExpr SameField PEForm PExpr PField (λ q. q.0) (λ q. q.0) (λ q. q.0)

  abbrev bare_parts : P.PEForm-F PEForm PExpr PField → P.PEForm-F PEForm PExpr PField
  bare_parts = map-PEForm PEForm PExpr PField PEForm PExpr PField bare_form spanless_expr bare_field

  abbrev meant : P.PEForm-F PEForm PExpr PField → P.PEForm-F A B C
  meant = map-PEForm PEForm PExpr PField A B C of_form of_expr of_field

  same_parts : (y : P.PEForm-F SameForm SameExpr SameField) → meant (bare_parts (parts y)) ≡ meant (parts y)
  same_parts (P.Pattern es) = ap (λ xs. P.Pattern xs) (map_same of_expr spanless_expr es)
  same_parts (P.Paren e) = ap (λ x. P.Paren x) e.1
  same_parts (P.Call f es) = ap (λ xs. P.Call f xs) (map_same of_expr spanless_expr es)
  same_parts (P.New s fs) = ap (λ xs. P.New s xs) (map_same of_field bare_field fs)
  same_parts (P.Braces es) = ap (λ xs. P.Braces xs) (map_same of_expr spanless_expr es)
  same_parts (P.Member e s f) = ap (λ x. P.Member x s f) e.1
  same_parts (P.Index e i) = λ k. P.Index (e.1 k) (i.1 k)
  same_parts (P.Slice e i n) = λ k. P.Slice (e.1 k) (i.1 k) n
  same_parts (P.Unary o e) = ap (λ x. P.Unary o x) e.1
  same_parts (P.Binary o a b) = λ k. P.Binary o (a.1 k) (b.1 k)
  same_parts (P.Cond c a b) = λ k. P.Cond (c.1 k) (a.1 k) (b.1 k)
  same_parts (P.ToInt e) = ap (λ x. P.ToInt x) e.1
  same_parts (P.Pad e) = ap (λ x. P.Pad x) e.1
  same_parts _ = refl

  pub expr_unseen : (e : PExpr) → of_expr (spanless_expr e) ≡ of_expr e
  expr_unseen = ind-PExpr (λ f. of_form (bare_form f) ≡ of_form f) (λ e. of_expr (spanless_expr e) ≡ of_expr e) (λ f. of_field (bare_field f) ≡ of_field f)
      (λ x y is.
      ap of_form (fold-roll-PEForm PEForm PExpr PField roll-PEForm without_span field_again x)
      ∙ fold-roll-PEForm A B C step step' step'' (bare_parts x)
      ∙ ap step (subst (λ z. meant (bare_parts z) ≡ meant z) is (same_parts y))
      ∙ sym (fold-roll-PEForm A B C step step' step'' x))
      (λ x y is.
      ap of_expr (fold-roll-PExpr PEForm PExpr PField roll-PEForm without_span field_again x)
      ∙ fold-roll-PExpr A B C step step' step'' (record { span = no_span; ty = x.ty; form = bare_form x.form })
      ∙ ap (λ a. step' (record { span = no_span; ty = x.ty; form = a })) (subst (λ z. of_form (bare_form z.form) ≡ of_form z.form) is y.form.1)
      ∙ blind (record { span = x.span; ty = x.ty; form = of_form x.form })
      ∙ sym (fold-roll-PExpr A B C step step' step'' x))
      (λ x y is.
      ap of_field (fold-roll-PField PEForm PExpr PField roll-PEForm without_span field_again x)
      ∙ fold-roll-PField A B C step step' step'' (record { field = x.field; value = spanless_expr x.value })
      ∙ ap (λ b. step'' (record { field = x.field; value = b })) (subst (λ z. of_expr (spanless_expr z.value) ≡ of_expr z.value) is y.value.1)
      ∙ sym (fold-roll-PField A B C step step' step'' x))

-- Statements

abbrev bare_pform : PForm → PForm
bare_pform = fold-PForm PForm PStmt spanless_form stmt_without_span

-- the expressions of one layer without their spans
abbrev pub bare_layer : {A B : Type 0} → S.PForm-F A B → S.PForm-F A B
bare_layer (S.Declare slot x t value) = S.Declare slot x t (any_spanless value)
bare_layer (S.Assign target value) = S.Assign (spanless_expr target) (spanless_expr value)
bare_layer (S.Call e) = S.Call (spanless_expr e)
bare_layer (S.If c a b) = S.If (spanless_expr c) a b
bare_layer (S.While c a) = S.While (spanless_expr c) a
bare_layer (S.Return value) = S.Return (any_spanless value)
bare_layer (S.Assert e) = S.Assert (spanless_expr e)
bare_layer (S.Assume e) = S.Assume (spanless_expr e)
bare_layer (S.Minimize e) = S.Minimize (spanless_expr e)
bare_layer (S.Repeat c copies) = S.Repeat (spanless_expr c) copies
bare_layer (S.Block ss) = S.Block ss
bare_layer (S.MinRepeat ss) = S.MinRepeat ss
bare_layer (S.Reorder ss) = S.Reorder ss

bare_is_rolled : (l : S.PForm-F PForm PStmt) → spanless_form l ≡ roll-PForm (bare_layer l)
bare_is_rolled (S.Block ss) = refl
bare_is_rolled _ = refl

module _ (A B : Type 0) (step : S.PForm-F A B → A) (step' : S.PStmt-F A B → B) (blind_form : (l : S.PForm-F A B) → step (bare_layer l) ≡ step l) (blind : (x : S.PStmt-F A B) → step' (record { span = no_span; form = x.form }) ≡ step' x) where
  abbrev of_pform : PForm → A
  of_pform = fold-PForm A B step step'

  abbrev of_stmt : PStmt → B
  of_stmt = fold-PStmt A B step step'

  abbrev SamePForm : Type 0
  SamePForm = (f : PForm) × (of_pform (bare_pform f) ≡ of_pform f)

  abbrev SameStmt : Type 0
  SameStmt = (s : PStmt) × (of_stmt (spanless_stmt s) ≡ of_stmt s)

  abbrev stmt_parts : S.PForm-F SamePForm SameStmt → S.PForm-F PForm PStmt
  stmt_parts = map-PForm SamePForm SameStmt PForm PStmt (λ q. q.0) (λ q. q.0)

  abbrev bare_stmt_parts : S.PForm-F PForm PStmt → S.PForm-F PForm PStmt
  bare_stmt_parts = map-PForm PForm PStmt PForm PStmt bare_pform spanless_stmt

  abbrev stmt_meant : S.PForm-F PForm PStmt → S.PForm-F A B
  stmt_meant = map-PForm PForm PStmt A B of_pform of_stmt

  same_stmt_parts : (y : S.PForm-F SamePForm SameStmt) → stmt_meant (bare_stmt_parts (stmt_parts y)) ≡ stmt_meant (stmt_parts y)
  same_stmt_parts (S.Block ss) = ap (λ xs. S.Block xs) (map_same of_stmt spanless_stmt ss)
  same_stmt_parts (S.If c a None) = λ k. S.If c (a.1 k) None
  same_stmt_parts (S.If c a (Some b)) = λ k. S.If c (a.1 k) (Some (b.1 k))
  same_stmt_parts (S.While c a) = ap (λ x. S.While c x) a.1
  same_stmt_parts (S.Repeat c ss) = ap (λ xs. S.Repeat c xs) (map_same of_stmt spanless_stmt ss)
  same_stmt_parts (S.MinRepeat ss) = ap (λ xs. S.MinRepeat xs) (map_same of_stmt spanless_stmt ss)
  same_stmt_parts (S.Reorder ss) = ap (λ xs. S.Reorder xs) (map_same of_stmt spanless_stmt ss)
  same_stmt_parts _ = refl

  meant_bare : (l : S.PForm-F PForm PStmt) → stmt_meant (bare_layer l) ≡ bare_layer (stmt_meant l)
  meant_bare (S.Block ss) = refl
  meant_bare _ = refl

  pub stmt_unseen : (s : PStmt) → of_stmt (spanless_stmt s) ≡ of_stmt s
  stmt_unseen = ind-PStmt (λ f. of_pform (bare_pform f) ≡ of_pform f) (λ s. of_stmt (spanless_stmt s) ≡ of_stmt s)
      (λ x y is.
      ap of_pform (fold-roll-PForm PForm PStmt spanless_form stmt_without_span x ∙ bare_is_rolled (bare_stmt_parts x))
      ∙ fold-roll-PForm A B step step' (bare_layer (bare_stmt_parts x))
      ∙ ap step (meant_bare (bare_stmt_parts x))
      ∙ blind_form (stmt_meant (bare_stmt_parts x))
      ∙ ap step (subst (λ z. stmt_meant (bare_stmt_parts z) ≡ stmt_meant z) is (same_stmt_parts y))
      ∙ sym (fold-roll-PForm A B step step' x))
      (λ x y is.
      ap of_stmt (fold-roll-PStmt PForm PStmt spanless_form stmt_without_span x)
      ∙ fold-roll-PStmt A B step step' (record { span = no_span; form = bare_pform x.form })
      ∙ ap (λ a. step' (record { span = no_span; form = a })) (subst (λ z. of_pform (bare_pform z.form) ≡ of_pform z.form) is y.form.1)
      ∙ blind (record { span = x.span; form = of_pform x.form })
      ∙ sym (fold-roll-PStmt A B step step' x))
