-- What a tree is, as one fold, is what the rules say of it and what it becomes.
use Rattle.std.proofs.Common.{◌≡◌, suc, List, [], ◌∷◌, length, Option, Some, None, refl, sym, ap, ◌∙◌}
use Rattle.std.specs.Prelude.{ℤ, map}
use Rattle.sk_tree.specs.declared.expr.Expr.{Expr}
use Rattle.sk_tree.specs.declared.expr.EForm.{EForm}
use Rattle.sk_tree.specs.declared.expr.EForm.TheVariants as eform
use Rattle.sk_tree.specs.declared.expr.EForm.TheOpen as E
use Rattle.sk_tree.specs.declared.expr.EForm.TheViews.{roll-EForm}
use Rattle.sk_tree.specs.declared.expr.EForm.TheFolds.{map-EForm, fold-EForm, fold-NewField, fold-roll-EForm, fold-roll-Expr, fold-roll-NewField}
use Rattle.sk_tree.specs.declared.expr.NewField.{NewField}
use Rattle.sk_prog.specs.declared.ids.StructId.{StructId}
use Rattle.sk_prog.specs.declared.expr.BinOp.{BinOp}
use Rattle.sk_prog.specs.declared.expr.UnOp.{UnOp}
use Rattle.sk_types_rules.specs.declared.scope.Variable.{Variable}
use Rattle.sk_types_rules.specs.Rules.{operator_of, unary_of}
use Rattle.sk_types_rules.specs.Scope.{Top, Context, meaning_of}
use Rattle.sk_types_rules.specs.Constants.{eform_number, whole_number, constant_number}
use Rattle.sk_types_rules.specs.Sorts.{Sort, struct_meant, reference_meant, member_of, array_meant, slice_of, new_sort, any_unary, any_binary, variable_type, eform_sort, sort, own}
use Rattle.sk_types_rules.proofs.SortLaws.{form_sort, field_sort, form_sort_is, sort_is}
use Rattle.sk_types_laws.specs.Elaborate.{At, FormAt, Setting, strings_at, pattern_at, element_wanted, braces_at, callee_meant, called, call_at, record_at, item_of, argument_of, setting_of, at_of, eform_at, form_at, at, field_at}
use Rattle.sk_types_laws.specs.Parts.{Part, FormPart, new_own, any_unary_own, any_binary_own, item_part, argument_part, at_part, eform_part, expr_part, set_part, form_part, part, setting}
use Rattle.sk_types_laws.proofs.OwnLaws.{firm_own, binary_own, unary_own_is, call_own}
use Rattle.sk_types_laws.proofs.Ats.{expr_law, form_at_is, at_is, field_at_is}

new_is : (top : Top) (o : Option StructId) (xs : List (NewField × Sort)) → new_own o ≡ (new_sort top o xs).own
new_is top None xs = refl
new_is top (Some r) xs = refl

unary_is : (o : Option UnOp) (a : Sort) → any_unary_own o a.own ≡ (any_unary o a).own
unary_is None a = refl
unary_is (Some o) a = sym (unary_own_is o a)

binary_is : (o : Option BinOp) (a b : Sort) → any_binary_own o a.own b.own ≡ (any_binary o a b).own
binary_is None a b = refl
binary_is (Some o) a b = sym (binary_own o a b)

module _ (context : Context) (scope : List Variable) where
  abbrev form_whole : EForm → Option ℤ
  form_whole = fold-EForm (Option ℤ) (Option ℤ) (Unit {0}) (eform_number context scope) (λ x. x.form) (λ x. tt)

  abbrev field_whole : NewField → Unit {0}
  field_whole = fold-NewField (Option ℤ) (Option ℤ) (Unit {0}) (eform_number context scope) (λ x. x.form) (λ x. tt)

  abbrev joined_form : EForm → FormPart
  joined_form f = record { own = (form_sort context scope f).own; at = form_at context scope f; variable = variable_type scope f; whole = form_whole f }

  abbrev joined : Expr → Part
  joined e = record { own = own context scope e; at = at context scope e; variable = variable_type scope e.form; whole = whole_number context scope e }

  abbrev joined_field : NewField → Setting
  joined_field x = record { name = x.name; at = field_at context scope x }

  abbrev Joins : EForm → Type 0
  Joins f = form_part context scope f ≡ joined_form f

  abbrev ExprJoins : Expr → Type 0
  ExprJoins e = part context scope e ≡ joined e

  abbrev FieldJoins : NewField → Type 0
  FieldJoins x = setting context scope x ≡ joined_field x

  abbrev Layer : Type 0
  Layer = E.EForm-F ((f : EForm) × Joins f) ((e : Expr) × ExprJoins e) ((x : NewField) × FieldJoins x)

  abbrev joining : Layer → E.EForm-F EForm Expr NewField
  joining y = map-EForm ((f : EForm) × Joins f) ((e : Expr) × ExprJoins e) ((x : NewField) × FieldJoins x) EForm Expr NewField (λ q. q.0) (λ q. q.0) (λ q. q.0) y

  abbrev whole_layer : E.EForm-F EForm Expr NewField → E.EForm-F FormPart Part Setting
  whole_layer l = map-EForm EForm Expr NewField FormPart Part Setting joined_form joined joined_field l

  exprs_join : (es : List ((e : Expr) × ExprJoins e)) → map (part context scope) (map (λ q. q.0) es) ≡ map joined (map (λ q. q.0) es)
  exprs_join [] = refl
  exprs_join (e ∷ es) = λ i. e.1 i ∷ exprs_join es i

  fields_join : (xs : List ((x : NewField) × FieldJoins x)) → map (setting context scope) (map (λ q. q.0) xs) ≡ map joined_field (map (λ q. q.0) xs)
  fields_join [] = refl
  fields_join (x ∷ xs) = λ i. x.1 i ∷ fields_join xs i

  parts : (y : Layer) → map-EForm EForm Expr NewField FormPart Part Setting (form_part context scope) (part context scope) (setting context scope) (joining y) ≡ whole_layer (joining y)
  parts (E.Pattern g es) = ap (λ ps. E.Pattern g ps) (exprs_join es)
  parts (E.Paren e) = ap (λ p. E.Paren p) e.1
  parts (E.Call x es) = ap (λ ps. E.Call x ps) (exprs_join es)
  parts (E.New x xs) = ap (λ ps. E.New x ps) (fields_join xs)
  parts (E.Braces es) = ap (λ ps. E.Braces ps) (exprs_join es)
  parts (E.Member e x) = ap (λ p. E.Member p x) e.1
  parts (E.Index e j) = λ i. E.Index (e.1 i) (j.1 i)
  parts (E.Slice e j n) = λ i. E.Slice (e.1 i) (j.1 i) (n.1 i)
  parts (E.Unary m e) = ap (λ p. E.Unary m p) e.1
  parts (E.Binary m a b) = λ i. E.Binary m (a.1 i) (b.1 i)
  parts (E.Cond c a b) = λ i. E.Cond (c.1 i) (a.1 i) (b.1 i)
  parts _ = refl

  -- the four parts of a layer

  items_same : (es : List Expr) → map item_part (map joined es) ≡ map (item_of context scope) (map (λ e. (e, at context scope e)) es)
  items_same [] = refl
  items_same (e ∷ es) = ap (λ rest. item_part (joined e) ∷ rest) (items_same es)

  arguments_same : (es : List Expr) → map argument_part (map joined es) ≡ map (argument_of context scope) (map (λ e. (e, at context scope e)) es)
  arguments_same [] = refl
  arguments_same (e ∷ es) = ap (λ rest. argument_part (joined e) ∷ rest) (arguments_same es)

  ats_same : (es : List Expr) → map at_part (map joined es) ≡ map (at_of context scope) (map (λ e. (e, at context scope e)) es)
  ats_same [] = refl
  ats_same (e ∷ es) = ap (λ rest. at_part (joined e) ∷ rest) (ats_same es)

  settings_same : (xs : List NewField) → map joined_field xs ≡ map (setting_of context scope) (map (λ x. (x, field_at context scope x)) xs)
  settings_same [] = refl
  settings_same (x ∷ xs) = ap (λ rest. joined_field x ∷ rest) (settings_same xs)

  abbrev with_ats : List Expr → List (Expr × At)
  with_ats es = map (λ e. (e, at context scope e)) es

  as_many : (es : List Expr) → length (map joined es) ≡ length (with_ats es)
  as_many [] = refl
  as_many (e ∷ es) = ap suc (as_many es)

  own_step : (l : E.EForm-F EForm Expr NewField) → (eform_part context scope (whole_layer l)).own ≡ (eform_sort context scope (map-EForm EForm Expr NewField (EForm × Sort) (Expr × Sort) (NewField × Sort) (λ f. (f, form_sort context scope f)) (λ e. (e, sort context scope e)) (λ x. (x, field_sort context scope x)) l)).own
  own_step (E.Call x es) = sym (call_own context.top scope (meaning_of context.top scope x) _)
  own_step (E.New x xs) = new_is context.top (struct_meant (meaning_of context.top scope x)) _
  own_step (E.Member e x) = sym (firm_own (member_of context.top (reference_meant (own context scope e)) x) _)
  own_step (E.Index e i) = sym (firm_own (array_meant (own context scope e)) _)
  own_step (E.Slice e i n) = sym (firm_own (slice_of (own context scope e) (constant_number context scope n)) _)
  own_step (E.Unary m e) = unary_is (unary_of m) (sort context scope e)
  own_step (E.Binary m a b) = binary_is (operator_of m) (sort context scope a) (sort context scope b)
  own_step _ = refl

  at_step : (l : E.EForm-F EForm Expr NewField) → (eform_part context scope (whole_layer l)).at ≡ eform_at context scope (map-EForm EForm Expr NewField (EForm × FormAt) (Expr × At) (NewField × At) (λ f. (f, form_at context scope f)) (λ e. (e, at context scope e)) (λ x. (x, field_at context scope x)) l)
  at_step (E.Pattern g es) = λ i s t. pattern_at (strings_at t (items_same es i)) s t
  at_step (E.Call x es) = λ i. call_at (called (callee_meant context.top (meaning_of context.top scope x)) (arguments_same es i))
  at_step (E.New x xs) = λ i. record_at context.top (struct_meant (meaning_of context.top scope x)) (settings_same xs i)
  at_step (E.Braces es) = λ i s t. braces_at (element_wanted t (as_many es i)) (ats_same es i) s t
  at_step _ = refl

  whole_step : (l : E.EForm-F EForm Expr NewField) → (eform_part context scope (whole_layer l)).whole ≡ eform_number context scope (map-EForm EForm Expr NewField (Option ℤ) (Option ℤ) (Unit {0}) form_whole (whole_number context scope) field_whole l)
  whole_step (E.Number n) = refl
  whole_step E.True = refl
  whole_step E.False = refl
  whole_step E.Null = refl
  whole_step (E.Word x) = refl
  whole_step (E.Hole n) = refl
  whole_step (E.Pattern g es) = refl
  whole_step (E.Paren e) = refl
  whole_step (E.Call x es) = refl
  whole_step (E.New x xs) = refl
  whole_step (E.Braces es) = refl
  whole_step (E.Member e x) = refl
  whole_step (E.Index e i) = refl
  whole_step (E.Slice e i n) = refl
  whole_step (E.Unary m e) = refl
  whole_step (E.Binary m a b) = refl
  whole_step (E.Cond c a b) = refl

  variable_step : (l : E.EForm-F EForm Expr NewField) → (eform_part context scope (whole_layer l)).variable ≡ variable_type scope (roll-EForm l)
  variable_step (E.Number n) = ap (variable_type scope) (sym (eform.rolls-Number n))
  variable_step E.True = ap (variable_type scope) (sym eform.rolls-True)
  variable_step E.False = ap (variable_type scope) (sym eform.rolls-False)
  variable_step E.Null = ap (variable_type scope) (sym eform.rolls-Null)
  variable_step (E.Word x) = ap (variable_type scope) (sym (eform.rolls-Word x))
  variable_step (E.Hole n) = ap (variable_type scope) (sym (eform.rolls-Hole n))
  variable_step (E.Pattern g es) = ap (variable_type scope) (sym (eform.rolls-Pattern g es))
  variable_step (E.Paren e) = ap (variable_type scope) (sym (eform.rolls-Paren e))
  variable_step (E.Call x es) = ap (variable_type scope) (sym (eform.rolls-Call x es))
  variable_step (E.New x xs) = ap (variable_type scope) (sym (eform.rolls-New x xs))
  variable_step (E.Braces es) = ap (variable_type scope) (sym (eform.rolls-Braces es))
  variable_step (E.Member e x) = ap (variable_type scope) (sym (eform.rolls-Member e x))
  variable_step (E.Index e i) = ap (variable_type scope) (sym (eform.rolls-Index e i))
  variable_step (E.Slice e i n) = ap (variable_type scope) (sym (eform.rolls-Slice e i n))
  variable_step (E.Unary m e) = ap (variable_type scope) (sym (eform.rolls-Unary m e))
  variable_step (E.Binary m a b) = ap (variable_type scope) (sym (eform.rolls-Binary m a b))
  variable_step (E.Cond c a b) = ap (variable_type scope) (sym (eform.rolls-Cond c a b))

  step : (l : E.EForm-F EForm Expr NewField) → eform_part context scope (whole_layer l) ≡ joined_form (roll-EForm l)
  step l =
      let own_is = own_step l ∙ ap (λ (z : Sort). z.own) (sym (form_sort_is context scope l)) in
      let at_is = at_step l ∙ sym (form_at_is context scope l) in
      let whole_is = whole_step l ∙ sym (fold-roll-EForm (Option ℤ) (Option ℤ) (Unit {0}) (eform_number context scope) (λ x. x.form) (λ x. tt) l) in
      let variable_is = variable_step l in
      (λ i. record { own = own_is i; at = at_is i; variable = variable_is i; whole = whole_is i })

  -- the one fold is the four
  pub part_is : (e : Expr) → part context scope e ≡ joined e
  part_is = expr_law Joins ExprJoins FieldJoins form_layer expr_layer field_layer
    where
      form_layer : (y : Layer) → Joins (roll-EForm (joining y))
      form_layer y = fold-roll-EForm FormPart Part Setting (eform_part context scope) expr_part set_part (joining y) ∙ ap (eform_part context scope) (parts y) ∙ step (joining y)

      expr_layer : (e : Expr) → Joins e.form → ExprJoins e
      expr_layer e h =
          let own_is = ap (λ (z : Sort). z.own) (sym (sort_is context scope e)) in
          let at_same = sym (at_is context scope e) in
          let whole_is = sym (fold-roll-Expr (Option ℤ) (Option ℤ) (Unit {0}) (eform_number context scope) (λ x. x.form) (λ x. tt) (record { span = e.span; form = e.form })) in
          fold-roll-Expr FormPart Part Setting (eform_part context scope) expr_part set_part (record { span = e.span; form = e.form })
          ∙ ap (λ (f : FormPart). record { own = f.own; at = f.at e.span; variable = f.variable; whole = f.whole }) h
          ∙ (λ i. record { own = own_is i; at = at_same i; variable = variable_type scope e.form; whole = whole_is i })

      field_layer : (x : NewField) → ExprJoins x.value → FieldJoins x
      field_layer x h =
          fold-roll-NewField FormPart Part Setting (eform_part context scope) expr_part set_part (record { name = x.name; value = x.value })
          ∙ ap (λ (p : Part). record { name = x.name; at = p.at }) h
          ∙ ap (λ (f : At). record { name = x.name; at = f }) (sym (field_at_is context scope x))

  pub part_at : (e : Expr) → (part context scope e).at ≡ at context scope e
  part_at e = ap (λ (p : Part). p.at) (part_is e)
