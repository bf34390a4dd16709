-- The layers of places and of targets: the level of an expression, whether its operands stand where they may, and
-- the type that it has as a target.
use Rattle.std.proofs.Common.{◌≡◌, ℕ, ◌≤◌, Bool, true, ◌&&◌, List, map, Option, Some, None, sym, ap, ◌∙◌, arith}
use Rattle.std.specs.Prelude.{nat_le}
use Rattle.std.proofs.lemmas.Bool.{and_parts, le-leb, leb-true}
use Rattle.sk_tree.specs.declared.expr.Expr.{Expr}
use Rattle.sk_tree.specs.declared.expr.NewField.{NewField}
use Rattle.sk_tree.specs.declared.expr.EForm.{EForm}
use Rattle.sk_tree.specs.declared.expr.EForm.TheOpen as E
use Rattle.sk_tree.specs.declared.expr.EForm.TheViews.{roll-EForm}
use Rattle.sk_tree.specs.declared.expr.EForm.TheFolds.{map-EForm, fold-EForm, fold-NewField, fold-roll-EForm, fold-roll-Expr, fold-roll-NewField, para-EForm, para-NewField, para-roll-EForm, para-roll-Expr}
use Rattle.sk_tree.specs.Placed.{Place, binds, all_placed, eform_place, expr_place, field_placed, place_of, expr_placed}
use Rattle.sk_prog.specs.declared.ty.Ty.{Ty}
use Rattle.sk_types_rules.specs.declared.scope.Variable.{Variable}
use Rattle.sk_types_rules.specs.Scope.{Context}
use Rattle.sk_types_rules.specs.Sorts.{eform_target, target_type}

abbrev pub Layer : Type 0
Layer = E.EForm-F EForm Expr NewField

-- Places

abbrev pub form_place : EForm → Place
form_place = fold-EForm Place Place Bool eform_place expr_place field_placed

abbrev pub set_placed : NewField → Bool
set_placed = fold-NewField Place Place Bool eform_place expr_place field_placed

abbrev pub places : Layer → E.EForm-F Place Place Bool
places l = map-EForm EForm Expr NewField Place Place Bool form_place place_of set_placed l

pub place_is : (e : Expr) → place_of e ≡ form_place e.form
place_is e = fold-roll-Expr Place Place Bool eform_place expr_place field_placed (record { span = e.span; form = e.form })

pub place_at : (e : Expr) (l : Layer) → e.form ≡ roll-EForm l → place_of e ≡ eform_place (places l)
place_at e l is = place_is e ∙ ap form_place is ∙ fold-roll-EForm Place Place Bool eform_place expr_place field_placed l

pub set_at : (n : NewField) → set_placed n ≡ expr_placed n.value
set_at n = fold-roll-NewField Place Place Bool eform_place expr_place field_placed (record { name = n.name; value = n.value })

-- the parts of a placed expression are placed
pub opened : (e : Expr) (l : Layer) → e.form ≡ roll-EForm l → expr_placed e ≡ true → (eform_place (places l)).placed ≡ true
opened e l is h = ap (λ (p : Place). p.placed) (sym (place_at e l is)) ∙ h

abbrev pub AllPlaced : List Expr → Type 0
AllPlaced es = all_placed (map place_of es) ≡ true

-- A place may be taken by what is placed and binds at least as tightly.
pub record Closer (a b : Place) : Type 0 where
  pub placed : b.placed ≡ true
  pub level : b.level ≤ a.level

pub bound : (k : ℕ) (p : Place) → binds k p ≡ true → p.placed ≡ true
bound k p h = (and_parts p.placed (nat_le p.level k) h).0

pub binds_closer : (k : ℕ) (a b : Place) → Closer a b → binds k a ≡ true → binds k b ≡ true
binds_closer k a b h is =
    let p = and_parts a.placed (nat_le a.level k) is in
    let low : a.level ≤ k = leb-true a.level k p.1 in
    let near = h.level in
    let q : nat_le b.level k ≡ true = le-leb b.level k (omega (arith, low, near)) in
    λ i. h.placed i && q i

-- Targets

module _ (context : Context) (scope : List Variable) where
  abbrev pub form_target : EForm → Option Ty
  form_target = para-EForm (Option Ty) (Option Ty) (Unit {0}) (eform_target context scope) (λ x. x.form.1) (λ x. tt)

  abbrev pub field_target : NewField → Unit {0}
  field_target = para-NewField (Option Ty) (Option Ty) (Unit {0}) (eform_target context scope) (λ x. x.form.1) (λ x. tt)

  abbrev pub targets_of : Layer → E.EForm-F (EForm × Option Ty) (Expr × Option Ty) (NewField × Unit {0})
  targets_of = map-EForm EForm Expr NewField (EForm × Option Ty) (Expr × Option Ty) (NewField × Unit {0}) (λ f. (f, form_target f)) (λ e. (e, target_type context scope e)) (λ x. (x, field_target x))

  pub target_at : (e : Expr) (l : Layer) → e.form ≡ roll-EForm l → target_type context scope e ≡ eform_target context scope (targets_of l)
  target_at e l is =
      para-roll-Expr (Option Ty) (Option Ty) (Unit {0}) (eform_target context scope) (λ x. x.form.1) (λ x. tt) (record { span = e.span; form = e.form })
      ∙ ap form_target is
      ∙ para-roll-EForm (Option Ty) (Option Ty) (Unit {0}) (eform_target context scope) (λ x. x.form.1) (λ x. tt) l

  pub no_target : (e : Expr) (l : Layer) (u : Ty) → e.form ≡ roll-EForm l → eform_target context scope (targets_of l) ≡ None → target_type context scope e ≡ Some u → ⊥
  no_target e l u is none h = let k : None ≡ Some u = sym none ∙ sym (target_at e l is) ∙ h in cc
