-- What stands without parentheses in the place of a pattern means an expression of the tightest level.
use Rattle.std.proofs.Common.{◌≡◌, Bool, true, List, Option, refl, sym, ap, subst, ◌∙◌}
use Rattle.sk_tree.specs.declared.expr.Expr.{Expr}
use Rattle.sk_tree.specs.declared.expr.EForm.{EForm}
use Rattle.sk_tree.specs.declared.expr.EForm.TheVariants as eform
use Rattle.sk_tree.specs.declared.expr.EForm.TheOpen as E
use Rattle.sk_tree.specs.declared.expr.EForm.TheViews.{roll-EForm}
use Rattle.sk_tree.specs.declared.expr.NewField.{NewField}
use Rattle.sk_tree.specs.Placed.{Place, eform_place, place_of}
use Rattle.sk_prog.specs.declared.ty.Ty.{Ty}
use Rattle.sk_prog.specs.declared.expr.PExpr.{PExpr}
use Rattle.sk_prog.specs.declared.expr.PEForm.{PEForm}
use Rattle.sk_prog.specs.declared.expr.PField.{PField}
use Rattle.sk_prog.specs.declared.expr.PEForm.TheOpen as P
use Rattle.sk_prog.specs.declared.expr.PEForm.TheFolds.{map-PEForm, fold-PEForm, fold-PField, fold-roll-PEForm, fold-roll-PExpr}
use Rattle.sk_types_rules.specs.declared.scope.Variable.{Variable}
use Rattle.sk_types_rules.specs.Scope.{Context}
use Rattle.sk_types_rules.specs.Types.{EFormRule, Means}
use Rattle.sk_types_rules.proofs.Layers.{FormMeans, rule, form_means_are, means_parts}
use Rattle.sk_types_laws.proofs.Ats.{pexpr_law}
use Rattle.sk_model.specs.Fill.{tight_form, is_tight}
use Rattle.sk_holes_laws.proofs.Places.{places, place_at}

module _ (context : Context) (scope : List Variable) where
  abbrev tight_of : PEForm → Bool
  tight_of = fold-PEForm Bool Bool (Unit {0}) tight_form (λ e. e.form) (λ x. tt)

  abbrev tight_field : PField → Unit {0}
  tight_field = fold-PField Bool Bool (Unit {0}) tight_form (λ e. e.form) (λ x. tt)

  abbrev FormTight : PEForm → Type 0
  FormTight f = (t : Option Ty) (e : Expr) → FormMeans context scope f t e → tight_of f ≡ true → (place_of e).level ≡ 1

  abbrev ExprTight : PExpr → Type 0
  ExprTight p = (e : Expr) → Means context scope p e → is_tight p ≡ true → (place_of e).level ≡ 1

  abbrev Parts : Type 0
  Parts = P.PEForm-F ((f : PEForm) × FormTight f) ((p : PExpr) × ExprTight p) (PField × Unit {0})

  abbrev parts : Parts → P.PEForm-F PEForm PExpr PField
  parts y = map-PEForm ((f : PEForm) × FormTight f) ((p : PExpr) × ExprTight p) (PField × Unit {0}) PEForm PExpr PField (λ q. q.0) (λ q. q.0) (λ q. q.0) y

  abbrev tights : P.PEForm-F PEForm PExpr PField → P.PEForm-F Bool Bool (Unit {0})
  tights l = map-PEForm PEForm PExpr PField Bool Bool (Unit {0}) tight_of is_tight tight_field l

  level_of_layer : (e : Expr) (l : E.EForm-F EForm Expr NewField) → e.form ≡ roll-EForm l → (eform_place (places l)).level ≡ 1 → (place_of e).level ≡ 1
  level_of_layer e l is h = ap (λ (a : Place). a.level) (place_at e l is) ∙ h

  layer : (y : Parts) (t : Option Ty) (e : Expr) → rule context scope (parts y) t e → tight_form (tights (parts y)) ≡ true → (place_of e).level ≡ 1
  layer (P.Number n) t e h is = level_of_layer e (E.Number n) (h.0 ∙ sym (eform.rolls-Number n)) refl
  layer P.True t e h is = level_of_layer e E.True (h.0 ∙ sym eform.rolls-True) refl
  layer P.False t e h is = level_of_layer e E.False (h.0 ∙ sym eform.rolls-False) refl
  layer P.Null t e h is = level_of_layer e E.Null (h.0 ∙ sym eform.rolls-Null) refl
  layer (P.Var slot x) t e h is = level_of_layer e (E.Word x) (h.0 ∙ sym (eform.rolls-Word x)) refl
  layer (P.Const c) t e h is = level_of_layer e (E.Word h.0) (h.1 ∙ sym (eform.rolls-Word h.0)) refl
  layer (P.Hole n) t e h is = level_of_layer e (E.Hole n) (h.0 ∙ sym (eform.rolls-Hole n)) refl
  layer (P.Pattern qs) t e h is = level_of_layer e (E.Pattern h.0 h.1) (h.2 ∙ sym (eform.rolls-Pattern h.0 h.1)) refl
  layer (P.Paren q) t e h is = level_of_layer e (E.Paren h.0) (h.1 ∙ sym (eform.rolls-Paren h.0)) refl
  layer (P.Call g qs) t e h is = level_of_layer e (E.Call h.0 h.1) (h.2 ∙ sym (eform.rolls-Call h.0 h.1)) refl
  layer (P.New k qs) t e h is = level_of_layer e (E.New h.0 h.1) (h.2 ∙ sym (eform.rolls-New h.0 h.1)) refl
  layer (P.Braces qs) t e h is = level_of_layer e (E.Braces h.0) (h.1 ∙ sym (eform.rolls-Braces h.0)) refl
  layer (P.Member q k i) t e h is = level_of_layer e (E.Member h.0 h.1) (h.2 ∙ sym (eform.rolls-Member h.0 h.1)) refl
  layer (P.Index q j) t e h is = level_of_layer e (E.Index h.0 h.1) (h.2 ∙ sym (eform.rolls-Index h.0 h.1)) refl
  layer (P.Slice q j m) t e h is = level_of_layer e (E.Slice h.0 h.1 h.2) (h.3 ∙ sym (eform.rolls-Slice h.0 h.1 h.2)) refl
  layer (P.Unary o q) t e h is = cc
  layer (P.Binary o q j) t e h is = cc
  layer (P.Cond z q j) t e h is = cc
  layer (P.ToInt q) t e h is = q.1 e h.0 is
  layer (P.Pad q) t e h is = q.1 e h.0 is

  -- a string of the tightest level means an expression of it
  pub tight_level : (p : PExpr) → ExprTight p
  tight_level = pexpr_law FormTight ExprTight (λ q. Unit {0})
      (λ y t e m is.
      layer y t e (subst (λ (M : EFormRule). M t e) (form_means_are context scope (parts y)) m)
      (sym (fold-roll-PEForm Bool Bool (Unit {0}) tight_form (λ e. e.form) (λ x. tt) (parts y)) ∙ is))
      (λ p h e m is. h p.ty e (means_parts context scope p e m).1 (sym (fold-roll-PExpr Bool Bool (Unit {0}) tight_form (λ e. e.form) (λ x. tt) (record { span = p.span; ty = p.ty; form = p.form })) ∙ is))
      (λ q h. tt)
