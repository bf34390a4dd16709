-- The layers of what expressions become, and of trees and programs.
use Rattle.std.proofs.Common.{◌≡◌, Bool, true, false, List, Option, Some, None, refl, ap, subst}
use Rattle.std.specs.Prelude.{◌&&◌, if◌then◌else◌}
use Rattle.std.proofs.lemmas.Bool.{eqb-true, eq-eqb}
use Rattle.sk_tree.specs.declared.expr.Expr.{Expr}
use Rattle.sk_tree.specs.declared.expr.EForm.{EForm}
use Rattle.sk_tree.specs.declared.expr.EForm.TheOpen as E
use Rattle.sk_tree.specs.declared.expr.EForm.TheViews.{roll-EForm, roll-Expr, roll-NewField}
use Rattle.sk_tree.specs.declared.expr.EForm.TheFolds.{map-EForm, para-roll-EForm, para-roll-Expr, para-roll-NewField, ind-Expr}
use Rattle.sk_tree.specs.declared.expr.NewField.{NewField}
use Rattle.sk_prog.specs.declared.ty.Ty.{Ty}
use Rattle.sk_prog.specs.declared.ty.Ty.TheVariants as ty
use Rattle.sk_prog.specs.declared.ty.Elem.{Elem}
use Rattle.sk_prog.specs.declared.ty.Elem.TheVariants as elem
use Rattle.sk_prog.specs.declared.expr.PExpr.{PExpr}
use Rattle.sk_prog.specs.declared.expr.PEForm.{PEForm}
use Rattle.sk_prog.specs.declared.expr.PField.{PField}
use Rattle.sk_prog.specs.declared.expr.PEForm.TheOpen as P
use Rattle.sk_prog.specs.declared.expr.PEForm.TheViews.{roll-PEForm, roll-PExpr, roll-PField}
use Rattle.sk_prog.specs.declared.expr.PEForm.TheFolds.{map-PEForm, ind-PExpr}
use Rattle.sk_types_rules.specs.declared.rules.Fit.TheVariants.{Same}
use Rattle.sk_types_rules.specs.declared.scope.Variable.{Variable}
use Rattle.sk_types_rules.specs.Rules.{◌>>=◌, elem_eq, ty_eq, fit_of}
use Rattle.sk_types_rules.specs.Scope.{Context}
use Rattle.sk_types_laws.specs.Elaborate.{At, FormAt, eform_at, form_at, at, field_at}

-- Types that are the same

pub both_true : (a b : Bool) → (a && b) ≡ true → (a ≡ true) × (b ≡ true)
both_true true true e = (refl, refl)
both_true true false e = cc
both_true false b e = cc

pub both : (a b : Bool) → a ≡ true → b ≡ true → (a && b) ≡ true
both a b h k = rw (h, k) refl

pub elem_same : (a b : Elem) → elem_eq a b ≡ true → a ≡ b
elem_same elem.Bit elem.Bit e = refl
elem_same elem.Int elem.Int e = refl
elem_same (elem.Reference s) (elem.Reference t) e = ap (λ n. elem.Reference (record { index = n })) (eqb-true s.index t.index e)
elem_same elem.Bit elem.Int e = cc
elem_same elem.Bit (elem.Reference t) e = cc
elem_same elem.Int elem.Bit e = cc
elem_same elem.Int (elem.Reference t) e = cc
elem_same (elem.Reference s) elem.Bit e = cc
elem_same (elem.Reference s) elem.Int e = cc

pub ty_same : (t u : Ty) → ty_eq t u ≡ true → t ≡ u
ty_same (ty.One a) (ty.One b) e = ap ty.One (elem_same a b e)
ty_same (ty.Array a n) (ty.Array b k) e = let h = both_true _ _ e in (λ i. ty.Array (elem_same a b h.0 i) (eqb-true n k h.1 i))
ty_same (ty.Grid a n m) (ty.Grid b k l) e =
    let h = both_true _ _ e in
    let j = both_true _ _ h.1 in
    (λ i. ty.Grid (elem_same a b h.0 i) (eqb-true n k j.0 i) (eqb-true m l j.1 i))
ty_same (ty.One a) (ty.Array b k) e = cc
ty_same (ty.One a) (ty.Grid b k l) e = cc
ty_same (ty.Array a n) (ty.One b) e = cc
ty_same (ty.Array a n) (ty.Grid b k l) e = cc
ty_same (ty.Grid a n m) (ty.One b) e = cc
ty_same (ty.Grid a n m) (ty.Array b k) e = cc

elem_self : (a : Elem) → elem_eq a a ≡ true
elem_self elem.Bit = refl
elem_self elem.Int = refl
elem_self (elem.Reference s) = eq-eqb s.index s.index refl

pub ty_self : (t : Ty) → ty_eq t t ≡ true
ty_self (ty.One a) = elem_self a
ty_self (ty.Array a n) = rw (elem_self a, eq-eqb n n refl) refl
ty_self (ty.Grid a n m) = rw (elem_self a, eq-eqb n n refl, eq-eqb m m refl) refl

pub fit_same : (t : Ty) → fit_of t t ≡ Same
fit_same t = rw (ty_self t) refl

-- What is made of parts

pub bind_some : {A B : Type 0} (o : Option A) (f : A → Option B) (y : B) → (o >>= f) ≡ Some y → (x : A) × (o ≡ Some x) × (f x ≡ Some y)
bind_some None f y e = cc
bind_some (Some x) f y e = (x, refl, e)

pub some_same : {A : Type 0} (x y : A) → Some x ≡ Some y → x ≡ y
some_same x y e = cc

pub if_some : {A : Type 0} (b : Bool) (o : Option A) (y : A) → (if b then o else None) ≡ Some y → (b ≡ true) × (o ≡ Some y)
if_some true o y e = (refl, e)
if_some false o y e = cc

-- Layers of trees and of programs

pub expr_law : (K : EForm → Type 0) (L : Expr → Type 0) (M : NewField → Type 0)
    → ((y : E.EForm-F ((f : EForm) × K f) ((e : Expr) × L e) ((x : NewField) × M x)) → K (roll-EForm (map-EForm _ _ _ EForm Expr NewField (λ q. q.0) (λ q. q.0) (λ q. q.0) y)))
    → ((e : Expr) → K e.form → L e)
    → ((x : NewField) → L x.value → M x)
    → (e : Expr) → L e
expr_law K L M f g h = ind-Expr K L M
    (λ x y is. subst (λ z. K (roll-EForm z)) is (f y))
    (λ x y is. subst (λ z. L (roll-Expr z)) is (g (record { span = y.span; form = y.form.0 }) y.form.1))
    (λ x y is. subst (λ z. M (roll-NewField z)) is (h (record { name = y.name; value = y.value.0 }) y.value.1))

pub pexpr_law : (K : PEForm → Type 0) (L : PExpr → Type 0) (M : PField → Type 0)
    → ((y : P.PEForm-F ((f : PEForm) × K f) ((e : PExpr) × L e) ((x : PField) × M x)) → K (roll-PEForm (map-PEForm _ _ _ PEForm PExpr PField (λ q. q.0) (λ q. q.0) (λ q. q.0) y)))
    → ((e : PExpr) → K e.form → L e)
    → ((x : PField) → L x.value → M x)
    → (e : PExpr) → L e
pexpr_law K L M f g h = ind-PExpr K L M
    (λ x y is. subst (λ z. K (roll-PEForm z)) is (f y))
    (λ x y is. subst (λ z. L (roll-PExpr z)) is (g (record { span = y.span; ty = y.ty; form = y.form.0 }) y.form.1))
    (λ x y is. subst (λ z. M (roll-PField z)) is (h (record { field = y.field; value = y.value.0 }) y.value.1))

module _ (context : Context) (scope : List Variable) where
  pub form_at_is : (l : E.EForm-F EForm Expr NewField) → form_at context scope (roll-EForm l) ≡ eform_at context scope (map-EForm EForm Expr NewField (EForm × FormAt) (Expr × At) (NewField × At) (λ f. (f, form_at context scope f)) (λ e. (e, at context scope e)) (λ x. (x, field_at context scope x)) l)
  form_at_is l = para-roll-EForm FormAt At At (eform_at context scope) (λ x. x.form.1 x.span) (λ x. x.value.1) l

  pub at_is : (e : Expr) → at context scope e ≡ form_at context scope e.form e.span
  at_is e = para-roll-Expr FormAt At At (eform_at context scope) (λ x. x.form.1 x.span) (λ x. x.value.1) (record { span = e.span; form = e.form })

  pub field_at_is : (x : NewField) → field_at context scope x ≡ at context scope x.value
  field_at_is x = para-roll-NewField FormAt At At (eform_at context scope) (λ x. x.form.1 x.span) (λ x. x.value.1) (record { name = x.name; value = x.value })
