-- What the sort of each form is: the layers of the fold.
use Rattle.std.proofs.Common.{◌≡◌, ℕ, List, Option, sym, ap, ◌∙◌}
use Rattle.sk_base.specs.declared.span.Span.{Span}
use Rattle.sk_tree.specs.declared.token.Mark.{Mark}
use Rattle.sk_tree.specs.declared.expr.Expr.{Expr}
use Rattle.sk_tree.specs.declared.expr.EForm.{EForm}
use Rattle.sk_tree.specs.declared.expr.EForm.TheVariants as eform
use Rattle.sk_tree.specs.declared.expr.EForm.TheOpen as E
use Rattle.sk_tree.specs.declared.expr.EForm.TheViews.{roll-EForm}
use Rattle.sk_tree.specs.declared.expr.EForm.TheFolds.{map-EForm, para-EForm, para-NewField, para-roll-EForm, para-roll-Expr}
use Rattle.sk_tree.specs.declared.expr.NewField.{NewField}
use Rattle.sk_types_rules.specs.declared.scope.Variable.{Variable}
use Rattle.sk_types_rules.specs.Rules.{operator_of}
use Rattle.sk_types_rules.specs.Scope.{Context}
use Rattle.sk_prog.specs.declared.ty.Ty.{Ty}
use Rattle.sk_types_rules.specs.Sorts.{Sort, eform_sort, sort, any_binary, variable_type, eform_target, target_type}

module _ (context : Context) (scope : List Variable) where
  abbrev pub form_sort : EForm → Sort
  form_sort = para-EForm Sort Sort Sort (eform_sort context scope) (λ x. x.form.1) (λ x. x.value.1)

  abbrev pub field_sort : NewField → Sort
  field_sort = para-NewField Sort Sort Sort (eform_sort context scope) (λ x. x.form.1) (λ x. x.value.1)

  pub form_sort_is : (l : E.EForm-F EForm Expr NewField) → form_sort (roll-EForm l) ≡ eform_sort context scope (map-EForm EForm Expr NewField (EForm × Sort) (Expr × Sort) (NewField × Sort) (λ f. (f, form_sort f)) (λ e. (e, sort context scope e)) (λ x. (x, field_sort x)) l)
  form_sort_is l = para-roll-EForm Sort Sort Sort (eform_sort context scope) (λ x. x.form.1) (λ x. x.value.1) l

  pub sort_is : (e : Expr) → sort context scope e ≡ form_sort e.form
  sort_is e = para-roll-Expr Sort Sort Sort (eform_sort context scope) (λ x. x.form.1) (λ x. x.value.1) (record { span = e.span; form = e.form })

  pub sort_number : (s : Span) (n : ℕ) → sort context scope (record { span = s; form = eform.Number n }) ≡ eform_sort context scope (E.Number n)
  sort_number s n = sort_is (record { span = s; form = eform.Number n }) ∙ ap form_sort (sym (eform.rolls-Number n)) ∙ form_sort_is (E.Number n)

  pub sort_word : (s : Span) (x : List ℕ) → sort context scope (record { span = s; form = eform.Word x }) ≡ eform_sort context scope (E.Word x)
  sort_word s x = sort_is (record { span = s; form = eform.Word x }) ∙ ap form_sort (sym (eform.rolls-Word x)) ∙ form_sort_is (E.Word x)

  pub sort_hole : (s : Span) (n : Option ℕ) → sort context scope (record { span = s; form = eform.Hole n }) ≡ eform_sort context scope (E.Hole n)
  sort_hole s n = sort_is (record { span = s; form = eform.Hole n }) ∙ ap form_sort (sym (eform.rolls-Hole n)) ∙ form_sort_is (E.Hole n)

  pub sort_binary : (s : Span) (m : Mark) (a b : Expr) → sort context scope (record { span = s; form = eform.Binary m a b }) ≡ any_binary (operator_of m) (sort context scope a) (sort context scope b)
  sort_binary s m a b = sort_is (record { span = s; form = eform.Binary m a b }) ∙ ap form_sort (sym (eform.rolls-Binary m a b)) ∙ form_sort_is (E.Binary m a b)

  abbrev form_target : EForm → Option Ty
  form_target = para-EForm (Option Ty) (Option Ty) (Unit {0}) (eform_target context scope) (λ x. x.form.1) (λ x. tt)

  -- the type of a variable as a target
  pub target_word : (e : Expr) (x : List ℕ) → e.form ≡ eform.Word x → target_type context scope e ≡ variable_type scope (eform.Word x)
  target_word e x is =
      para-roll-Expr (Option Ty) (Option Ty) (Unit {0}) (eform_target context scope) (λ x. x.form.1) (λ x. tt) (record { span = e.span; form = e.form })
      ∙ ap form_target (is ∙ sym (eform.rolls-Word x))
      ∙ para-roll-EForm (Option Ty) (Option Ty) (Unit {0}) (eform_target context scope) (λ x. x.form.1) (λ x. tt) (E.Word x)
