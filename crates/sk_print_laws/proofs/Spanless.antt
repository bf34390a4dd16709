-- What a fold that doesn't look at spans says of an expression it says of each that differs in spans alone.
use Rattle.std.proofs.Common.{◌≡◌, ℕ, suc, Bool, List, [], ◌∷◌, map, refl, sym, ap, ◌∙◌, ◌||◌}
use Rattle.sk_base.specs.declared.span.Span.{Span}
use Rattle.sk_tree.specs.declared.pattern.Pattern.{Pattern}
use Rattle.sk_tree.specs.declared.pattern.Pattern.TheOpen as P
use Rattle.sk_tree.specs.declared.pattern.Pattern.TheViews.{roll-Pattern}
use Rattle.sk_tree.specs.declared.pattern.Pattern.TheFolds.{map-Pattern, fold-roll-Pattern}
use Rattle.sk_tree.specs.declared.expr.Expr.{Expr}
use Rattle.sk_tree.specs.declared.expr.NewField.{NewField}
use Rattle.sk_tree.specs.declared.expr.EForm.{EForm}
use Rattle.sk_tree.specs.declared.expr.EForm.TheOpen as E
use Rattle.sk_tree.specs.declared.expr.EForm.TheViews.{roll-EForm}
use Rattle.sk_tree.specs.declared.expr.EForm.TheFolds.{map-EForm, fold-EForm, fold-Expr, fold-NewField, fold-roll-EForm, fold-roll-Expr, fold-roll-NewField}
use Rattle.sk_tree.specs.Depth.{pattern_step_depth, pattern_depth, eform_depth, expr_depth}
use Rattle.sk_tree.specs.Placed.{Place, eform_place, field_placed, place_of}
use Rattle.sk_tree.specs.Spelt.{eform_is_place, eform_is_pattern, eform_is_call, is_target, is_call}
use Rattle.sk_tree.proofs.Layers.{PatternLayer, pattern_parts, pattern_law, ExprLayer, expr_parts, expr_law}
use Rattle.sk_types_rules.specs.Erase.{nowhere, at}
use Rattle.sk_print_laws.specs.SpanlessTree.{part_spanless, spanless_pattern, parts_spanless, expr_nowhere, field_again, spanless_expr}
use Rattle.sk_print_laws.proofs.Respelt.{Layer, field_off, spans_off, Alike}

-- Patterns

abbrev SameDepth : Pattern → Type 0
SameDepth p = pattern_depth (spanless_pattern p) ≡ pattern_depth p

depths_same : (qs : List ((p : Pattern) × SameDepth p)) → map pattern_depth (map spanless_pattern (map (λ (q : (p : Pattern) × SameDepth p). q.0) qs)) ≡ map pattern_depth (map (λ (q : (p : Pattern) × SameDepth p). q.0) qs)
depths_same [] = refl
depths_same (q ∷ qs) = λ i. q.1 i ∷ depths_same qs i

depth_of : (l : P.Pattern-F Pattern) → pattern_depth (roll-Pattern l) ≡ pattern_step_depth (map-Pattern Pattern ℕ pattern_depth l)
depth_of l = fold-roll-Pattern ℕ pattern_step_depth l

spanless_of : (l : P.Pattern-F Pattern) → spanless_pattern (roll-Pattern l) ≡ part_spanless (map-Pattern Pattern Pattern spanless_pattern l)
spanless_of l = fold-roll-Pattern Pattern part_spanless l

depth_layer : (y : PatternLayer SameDepth) → pattern_depth (part_spanless (map-Pattern Pattern Pattern spanless_pattern (pattern_parts SameDepth y))) ≡ pattern_step_depth (map-Pattern Pattern ℕ pattern_depth (pattern_parts SameDepth y))
depth_layer (P.Choice ps) = depth_of (P.Choice (map spanless_pattern (map (λ (q : (p : Pattern) × SameDepth p). q.0) ps))) ∙ ap (λ ns. pattern_step_depth (P.Choice ns)) (depths_same ps)
depth_layer (P.Seq ps) = depth_of (P.Seq (map spanless_pattern (map (λ (q : (p : Pattern) × SameDepth p). q.0) ps))) ∙ ap (λ ns. pattern_step_depth (P.Seq ns)) (depths_same ps)
depth_layer (P.Maybe p) = depth_of (P.Maybe (spanless_pattern p.0)) ∙ ap suc p.1
depth_layer (P.Group p) = depth_of (P.Group (spanless_pattern p.0)) ∙ ap suc p.1
depth_layer (P.One t) = depth_of (P.One (record { kind = t.kind; span = nowhere }))

pattern_depth_same : (p : Pattern) → SameDepth p
pattern_depth_same = pattern_law SameDepth (λ y. ap pattern_depth (spanless_of (pattern_parts SameDepth y)) ∙ depth_layer y ∙ sym (depth_of (pattern_parts SameDepth y)))

-- Expressions

module _ (A B C : Type 0) (step : E.EForm-F A B C → A) (k : A → B) (step' : E.NewField-F A B C → C) (steady : (g : Pattern) (ss : List B) → step (E.Pattern (spanless_pattern g) ss) ≡ step (E.Pattern g ss)) where
  abbrev of_form : EForm → A
  of_form = fold-EForm A B C step (λ x. k x.form) step'

  abbrev of_expr : Expr → B
  of_expr = fold-Expr A B C step (λ x. k x.form) step'

  abbrev of_field : NewField → C
  of_field = fold-NewField A B C step (λ x. k x.form) step'

  abbrev folded : Layer → E.EForm-F A B C
  folded l = map-EForm EForm Expr NewField A B C of_form of_expr of_field l

  abbrev form_off : EForm → EForm
  form_off = fold-EForm EForm Expr NewField (λ l. roll-EForm (parts_spanless l)) expr_nowhere field_again

  abbrev SameForm : EForm → Type 0
  SameForm f = of_form (form_off f) ≡ of_form f

  abbrev SameExpr : Expr → Type 0
  SameExpr e = of_expr (spanless_expr e) ≡ of_expr e

  abbrev SameField : NewField → Type 0
  SameField n = of_field (field_off n) ≡ of_field n

  abbrev down : ExprLayer SameForm SameExpr SameField → Layer
  down y = expr_parts SameForm SameExpr SameField y

  exprs_same : (qs : List ((e : Expr) × SameExpr e)) → map of_expr (map spanless_expr (map (λ (q : (e : Expr) × SameExpr e). q.0) qs)) ≡ map of_expr (map (λ (q : (e : Expr) × SameExpr e). q.0) qs)
  exprs_same [] = refl
  exprs_same (q ∷ qs) = λ i. q.1 i ∷ exprs_same qs i

  fields_same : (qs : List ((n : NewField) × SameField n)) → map of_field (map field_off (map (λ (q : (n : NewField) × SameField n). q.0) qs)) ≡ map of_field (map (λ (q : (n : NewField) × SameField n). q.0) qs)
  fields_same [] = refl
  fields_same (q ∷ qs) = λ i. q.1 i ∷ fields_same qs i

  layer : (y : ExprLayer SameForm SameExpr SameField) → step (folded (spans_off (down y))) ≡ step (folded (down y))
  layer (E.Pattern g ss) = steady g (map of_expr (map spanless_expr (map (λ (q : (e : Expr) × SameExpr e). q.0) ss))) ∙ ap (λ z. step (E.Pattern g z)) (exprs_same ss)
  layer (E.Number n) = refl
  layer E.True = refl
  layer E.False = refl
  layer E.Null = refl
  layer (E.Word x) = refl
  layer (E.Hole n) = refl
  layer (E.Paren e) = ap (λ z. step (E.Paren z)) e.1
  layer (E.Call x es) = ap (λ z. step (E.Call x z)) (exprs_same es)
  layer (E.New x ns) = ap (λ z. step (E.New x z)) (fields_same ns)
  layer (E.Braces es) = ap (λ z. step (E.Braces z)) (exprs_same es)
  layer (E.Member e x) = ap (λ z. step (E.Member z x)) e.1
  layer (E.Index e i) = λ j. step (E.Index (e.1 j) (i.1 j))
  layer (E.Slice e i n) = λ j. step (E.Slice (e.1 j) (i.1 j) (n.1 j))
  layer (E.Unary m e) = ap (λ z. step (E.Unary m z)) e.1
  layer (E.Binary m a b) = λ j. step (E.Binary m (a.1 j) (b.1 j))
  layer (E.Cond c a b) = λ j. step (E.Cond (c.1 j) (a.1 j) (b.1 j))

  form_of : (l : Layer) → of_form (roll-EForm l) ≡ step (folded l)
  form_of l = fold-roll-EForm A B C step (λ x. k x.form) step' l

  expr_of : (s : Span) (f : EForm) → of_expr (at f s) ≡ k (of_form f)
  expr_of s f = fold-roll-Expr A B C step (λ x. k x.form) step' (record { span = s; form = f })

  field_of : (x : List ℕ) (e : Expr) → of_field (record { name = x; value = e }) ≡ step' (record { name = x; value = of_expr e })
  field_of x e = fold-roll-NewField A B C step (λ x. k x.form) step' (record { name = x; value = e })

  pub fold_spanless : (e : Expr) → SameExpr e
  fold_spanless = expr_law SameForm SameExpr SameField in_form in_expr in_field
    where
      in_form : (y : ExprLayer SameForm SameExpr SameField) → SameForm (roll-EForm (down y))
      in_form y = ap of_form (fold-roll-EForm EForm Expr NewField (λ l. roll-EForm (parts_spanless l)) expr_nowhere field_again (down y)) ∙ form_of (spans_off (down y)) ∙ layer y ∙ sym (form_of (down y))

      in_expr : (e : Expr) → SameForm e.form → SameExpr e
      in_expr e h = ap of_expr (fold-roll-Expr EForm Expr NewField (λ l. roll-EForm (parts_spanless l)) expr_nowhere field_again (record { span = e.span; form = e.form })) ∙ expr_of nowhere (form_off e.form) ∙ ap k h ∙ sym (expr_of e.span e.form)

      in_field : (n : NewField) → SameExpr n.value → SameField n
      in_field n h = ap of_field (fold-roll-NewField EForm Expr NewField (λ l. roll-EForm (parts_spanless l)) expr_nowhere field_again (record { name = n.name; value = n.value })) ∙ field_of n.name (spanless_expr n.value) ∙ ap (λ z. step' (record { name = n.name; value = z })) h ∙ sym (field_of n.name n.value)

  pub alike_fold : (e0 e : Expr) → Alike e0 e → of_expr e ≡ of_expr e0
  alike_fold e0 e h = sym (fold_spanless e) ∙ ap of_expr h ∙ fold_spanless e0

pub place_alike : (e0 e : Expr) → Alike e0 e → place_of e ≡ place_of e0
place_alike e0 e h = alike_fold Place Place Bool eform_place (λ p. p) field_placed (λ g ss. refl) e0 e h

pub depth_alike : (e0 e : Expr) → Alike e0 e → expr_depth e ≡ expr_depth e0
depth_alike e0 e h = alike_fold ℕ ℕ ℕ eform_depth suc (λ x. suc x.value) (λ g ss. pattern_depth_same g) e0 e h

pub call_alike : (e0 e : Expr) → Alike e0 e → is_call e ≡ is_call e0
call_alike e0 e h = alike_fold Bool Bool (Unit {0}) eform_is_call (λ x. x) (λ x. tt) (λ g ss. refl) e0 e h

pub target_alike : (e0 e : Expr) → Alike e0 e → is_target e ≡ is_target e0
target_alike e0 e h =
    let a = alike_fold Bool Bool (Unit {0}) eform_is_place (λ x. x) (λ x. tt) (λ g ss. refl) e0 e h in
    let b = alike_fold Bool Bool (Unit {0}) eform_is_pattern (λ x. x) (λ x. tt) (λ g ss. refl) e0 e h in
    λ i. a i || b i
