-- A constant means in a filling what it meant, and leaves nothing open.
use Rattle.std.proofs.Common.{◌≡◌, ℕ, Bool, true, ◌&&◌, List, [], Option, Some, None, refl, sym, ap, subst, ◌∙◌}
use Rattle.std.specs.Prelude.{ℤ}
use Rattle.sk_base.specs.declared.bounds.Bounds.{Bounds}
use Rattle.sk_tree.specs.declared.expr.Expr.{Expr}
use Rattle.sk_tree.specs.declared.expr.NewField.{NewField}
use Rattle.sk_tree.specs.declared.expr.EForm.{EForm}
use Rattle.sk_tree.specs.declared.expr.EForm.TheVariants as tform
use Rattle.sk_tree.specs.declared.expr.EForm.TheOpen as E
use Rattle.sk_tree.specs.declared.expr.EForm.TheViews as T
use Rattle.sk_tree.specs.declared.expr.EForm.TheFolds.{map-EForm, fold-EForm, fold-NewField, fold-roll-EForm, fold-roll-Expr}
use Rattle.sk_prog.specs.declared.ty.Ty.{Ty}
use Rattle.sk_prog.specs.declared.expr.PExpr.{PExpr}
use Rattle.sk_prog.specs.declared.expr.PField.{PField}
use Rattle.sk_prog.specs.declared.expr.PEForm.{PEForm}
use Rattle.sk_prog.specs.declared.expr.PEForm.TheOpen as P
use Rattle.sk_prog.specs.declared.expr.PEForm.TheViews.{roll-PEForm}
use Rattle.sk_prog.specs.declared.expr.PEForm.TheFolds.{map-PEForm, fold-PEForm, fold-PField, fold-roll-PEForm, fold-roll-PExpr}
use Rattle.sk_prog.specs.declared.prog.StructDef.{StructDef}
use Rattle.sk_types_rules.specs.Rules.{◌>>=◌, class_of, operation_own}
use Rattle.sk_types_rules.specs.Scope.{Signature, Known, Context}
use Rattle.sk_types_rules.specs.Constants.{computed, eform_number, whole_number}
use Rattle.sk_types_rules.specs.Sorts.{Sort, named, eform_sort, sort, own, any_binary}
use Rattle.sk_types_rules.specs.Types.{EFormRule, MeansBinary, Means}
use Rattle.sk_types_rules.proofs.Layers.{FormMeans, rule, form_means_are, means_parts, means_from}
use Rattle.sk_types_rules.proofs.SortLaws.{form_sort, field_sort, form_sort_is, sort_is}
use Rattle.sk_types_laws.proofs.Ats.{bind_some, pexpr_law}
use Rattle.sk_types_laws.proofs.OwnLaws.{binary_own}
use Rattle.sk_model.specs.Filled.{eform_filled, expr_filled}
use Rattle.sk_holes_laws.specs.Filling.{context_with}
use Rattle.sk_holes_laws.proofs.Places.{Layer}
use Rattle.sk_holes_laws.proofs.Carried.{constant_meant}

module _ (bounds : Bounds) (structs : List StructDef) (consts : List (List ℕ)) (funs again : List Signature) (known : List Known) where
  abbrev pub first : Context
  first = context_with bounds structs consts funs known

  abbrev pub second : Context
  second = context_with bounds structs consts again known

  abbrev form_number : Context → EForm → Option ℤ
  form_number context = fold-EForm (Option ℤ) (Option ℤ) (Unit {0}) (eform_number context []) (λ x. x.form) (λ x. tt)

  abbrev field_number : Context → NewField → Unit {0}
  field_number context = fold-NewField (Option ℤ) (Option ℤ) (Unit {0}) (eform_number context []) (λ x. x.form) (λ x. tt)

  abbrev numbers : Context → Layer → E.EForm-F (Option ℤ) (Option ℤ) (Unit {0})
  numbers context l = map-EForm EForm Expr NewField (Option ℤ) (Option ℤ) (Unit {0}) (form_number context) (whole_number context []) (field_number context) l

  whole_at : (context : Context) (e : Expr) (l : Layer) → e.form ≡ T.roll-EForm l → whole_number context [] e ≡ eform_number context [] (numbers context l)
  whole_at context e l is =
      fold-roll-Expr (Option ℤ) (Option ℤ) (Unit {0}) (eform_number context []) (λ x. x.form) (λ x. tt) (record { span = e.span; form = e.form })
      ∙ ap (form_number context) is
      ∙ fold-roll-EForm (Option ℤ) (Option ℤ) (Unit {0}) (eform_number context []) (λ x. x.form) (λ x. tt) l

  none : (e : Expr) (l : Layer) (z : ℤ) → e.form ≡ T.roll-EForm l → eform_number first [] (numbers first l) ≡ None → whole_number first [] e ≡ Some z → ⊥
  none e l z is no_number h = let k : None ≡ Some z = sym no_number ∙ sym (whole_at first e l is) ∙ h in cc

  abbrev pairs : Context → Layer → E.EForm-F (EForm × Sort) (Expr × Sort) (NewField × Sort)
  pairs context l = map-EForm EForm Expr NewField (EForm × Sort) (Expr × Sort) (NewField × Sort) (λ f. (f, form_sort context [] f)) (λ e. (e, sort context [] e)) (λ x. (x, field_sort context [] x)) l

  own_of : (context : Context) (e : Expr) (l : Layer) → e.form ≡ T.roll-EForm l → own context [] e ≡ (eform_sort context [] (pairs context l)).own
  own_of context e l is = ap (λ (z : Sort). z.own) (sort_is context [] e ∙ ap (form_sort context []) is ∙ form_sort_is context [] l)

  abbrev act_filled : PEForm → Bool
  act_filled = fold-PEForm Bool Bool Bool eform_filled (λ x. x.form) (λ x. x.value)

  abbrev field_filled : PField → Bool
  field_filled = fold-PField Bool Bool Bool eform_filled (λ x. x.form) (λ x. x.value)

  record FormStays (g : PEForm) (t : Option Ty) (e : Expr) : Type 0 where
    means : FormMeans second [] g t e
    owns : own second [] e ≡ own first [] e
    filled : act_filled g ≡ true

  pub record Stays (p : PExpr) (e : Expr) : Type 0 where
    pub means : Means second [] p e
    pub owns : own second [] e ≡ own first [] e
    pub filled : expr_filled p ≡ true

  abbrev FormKept : PEForm → Type 0
  FormKept g = (t : Option Ty) (e : Expr) → FormMeans first [] g t e → (z : ℤ) → whole_number first [] e ≡ Some z → FormStays g t e

  abbrev Kept : PExpr → Type 0
  Kept p = (e : Expr) → Means first [] p e → (z : ℤ) → whole_number first [] e ≡ Some z → Stays p e

  abbrev Above : Type 0
  Above = P.PEForm-F ((g : PEForm) × FormKept g) ((p : PExpr) × Kept p) (PField × Unit {0})

  abbrev below : Above → P.PEForm-F PEForm PExpr PField
  below y = map-PEForm ((g : PEForm) × FormKept g) ((p : PExpr) × Kept p) (PField × Unit {0}) PEForm PExpr PField (λ q. q.0) (λ q. q.0) (λ q. q.0) y

  abbrev fills_of : P.PEForm-F PEForm PExpr PField → P.PEForm-F Bool Bool Bool
  fills_of l = map-PEForm PEForm PExpr PField Bool Bool Bool act_filled expr_filled field_filled l

  made : (l : P.PEForm-F PEForm PExpr PField) (t : Option Ty) (e : Expr) → rule second [] l t e → own second [] e ≡ own first [] e → eform_filled (fills_of l) ≡ true → FormStays (roll-PEForm l) t e
  made l t e r o f = record {
    means = subst (λ (M : EFormRule). M t e) (sym (form_means_are second [] l)) r;
    owns = o;
    filled = fold-roll-PEForm Bool Bool Bool eform_filled (λ x. x.form) (λ x. x.value) l ∙ f;
  }

  own_same : (e : Expr) (l : Layer) → e.form ≡ T.roll-EForm l → (eform_sort second [] (pairs second l)).own ≡ (eform_sort first [] (pairs first l)).own → own second [] e ≡ own first [] e
  own_same e l is h = own_of second e l is ∙ h ∙ sym (own_of first e l is)

  layer : (y : Above) (t : Option Ty) (e : Expr) → rule first [] (below y) t e → (z : ℤ) → whole_number first [] e ≡ Some z → FormStays (roll-PEForm (below y)) t e
  layer (P.Number n) t e h z is = made (P.Number n) t e h (own_same e (E.Number n) (h.0 ∙ sym (tform.rolls-Number n)) refl) refl
  layer (P.Const c) t e h z is =
      let m = constant_meant bounds structs consts funs again known known [] h.0 c h.2 in
      made (P.Const c) t e (h.0, h.1, m, h.3) (own_same e (E.Word h.0) (h.1 ∙ sym (tform.rolls-Word h.0)) (ap (λ m. (named m).own) m ∙ sym (ap (λ m. (named m).own) h.2))) refl
  layer (P.Var slot x) t e h z is = let there = (h.3).there in cc
  layer (P.Paren q) t e h z is =
      let ek = h.1 ∙ sym (tform.rolls-Paren h.0) in
      let r = q.1 h.0 h.2 z (sym (whole_at first e (E.Paren h.0) ek) ∙ is) in
      made (P.Paren q.0) t e (h.0, h.1, r.means, h.3, h.4, h.5) (own_same e (E.Paren h.0) ek r.owns) r.filled
  layer (P.Binary o a b) t e h z is =
      let m = h.0 in
      let x : Expr = h.1 in
      let y : Expr = h.2 in
      let ek = h.3 ∙ sym (tform.rolls-Binary m x y) in
      let u = bind_some (whole_number first [] x) (λ u. whole_number first [] y >>= λ v. computed m u v) z (sym (whole_at first e (E.Binary m x y) ek) ∙ is) in
      let v = bind_some (whole_number first [] y) (λ v. computed m u.0 v) z u.2 in
      let r = a.1 x h.5 u.0 u.1 in
      let k = b.1 y h.6 v.0 v.1 in
      let typed : MeansBinary (class_of o) (own second [] x) (own second [] y) h.7 (a.0).ty (b.0).ty t = subst (λ (Q : Type 0). Q) (λ i. MeansBinary (class_of o) (sym r.owns i) (sym k.owns i) h.7 (a.0).ty (b.0).ty t) h.8 in
      let at = (λ (context : Context). ap (λ w. (any_binary w (sort context [] x) (sort context [] y)).own) h.4 ∙ binary_own o (sort context [] x) (sort context [] y)) in
      made (P.Binary o a.0 b.0) t e (m, x, y, h.3, h.4, r.means, k.means, h.7, typed)
      (own_same e (E.Binary m x y) ek (at second ∙ (λ i. operation_own o (r.owns i) (k.owns i)) ∙ sym (at first)))
      (λ i. r.filled i && k.filled i)
  layer (P.ToInt q) t e h z is =
      let r = q.1 e h.0 z is in
      let w = h.2 in
      made (P.ToInt q.0) t e (r.means, h.1, record { own = r.owns ∙ w.own; operand = w.operand; result = w.result }) r.owns r.filled
  layer (P.Pad q) t e h z is =
      let r = q.1 e h.0 z is in
      let w = h.2 in
      made (P.Pad q.0) t e (r.means, h.1, record { from = w.from; to = w.to; own = r.owns ∙ w.own; operand = w.operand; result = w.result; fit = w.fit }) r.owns r.filled
  layer P.True t e h z is = absurd (none e E.True z (h.0 ∙ sym tform.rolls-True) refl is)
  layer P.False t e h z is = absurd (none e E.False z (h.0 ∙ sym tform.rolls-False) refl is)
  layer P.Null t e h z is = absurd (none e E.Null z (h.0 ∙ sym tform.rolls-Null) refl is)
  layer (P.Hole n) t e h z is = absurd (none e (E.Hole n) z (h.0 ∙ sym (tform.rolls-Hole n)) refl is)
  layer (P.Pattern qs) t e h z is = absurd (none e (E.Pattern h.0 h.1) z (h.2 ∙ sym (tform.rolls-Pattern h.0 h.1)) refl is)
  layer (P.Call g qs) t e h z is = absurd (none e (E.Call h.0 h.1) z (h.2 ∙ sym (tform.rolls-Call h.0 h.1)) refl is)
  layer (P.New k qs) t e h z is = absurd (none e (E.New h.0 h.1) z (h.2 ∙ sym (tform.rolls-New h.0 h.1)) refl is)
  layer (P.Braces qs) t e h z is = absurd (none e (E.Braces h.0) z (h.1 ∙ sym (tform.rolls-Braces h.0)) refl is)
  layer (P.Member q k i) t e h z is = absurd (none e (E.Member h.0 h.1) z (h.2 ∙ sym (tform.rolls-Member h.0 h.1)) refl is)
  layer (P.Index q j) t e h z is = absurd (none e (E.Index h.0 h.1) z (h.2 ∙ sym (tform.rolls-Index h.0 h.1)) refl is)
  layer (P.Slice q j m) t e h z is = absurd (none e (E.Slice h.0 h.1 h.2) z (h.3 ∙ sym (tform.rolls-Slice h.0 h.1 h.2)) refl is)
  layer (P.Unary o q) t e h z is = absurd (none e (E.Unary h.0 h.1) z (h.2 ∙ sym (tform.rolls-Unary h.0 h.1)) refl is)
  layer (P.Cond c q j) t e h z is = absurd (none e (E.Cond h.0 h.1 h.2) z (h.3 ∙ sym (tform.rolls-Cond h.0 h.1 h.2)) refl is)

  pub constant_kept : (p : PExpr) → Kept p
  constant_kept = pexpr_law FormKept Kept (λ q. Unit {0})
      (λ y t e m z is. layer y t e (subst (λ (M : EFormRule). M t e) (form_means_are first [] (below y)) m) z is)
      (λ p h e m z is.
      let parts = means_parts first [] p e m in
      let r = h p.ty e parts.1 z is in
      record { means = means_from second [] p e parts.0 r.means; owns = r.owns; filled = fold-roll-PExpr Bool Bool Bool eform_filled (λ x. x.form) (λ x. x.value) (record { span = p.span; ty = p.ty; form = p.form }) ∙ r.filled })
      (λ q h. tt)
