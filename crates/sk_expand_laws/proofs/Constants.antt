-- A constant means in the expansion what it meant: its expression calls nothing.
use Rattle.std.proofs.Common.{◌≡◌, ℕ, List, Option, Some, None, refl, sym, ap, ◌∙◌, subst}
use Rattle.std.specs.Prelude.{ℤ}
use Rattle.sk_base.specs.declared.span.Span.{Span}
use Rattle.sk_base.specs.declared.bounds.Bounds.{Bounds}
use Rattle.sk_tree.specs.declared.expr.Expr.{Expr}
use Rattle.sk_tree.specs.declared.expr.NewField.{NewField}
use Rattle.sk_tree.specs.declared.expr.EForm.{EForm}
use Rattle.sk_tree.specs.declared.expr.EForm.TheVariants as eform
use Rattle.sk_tree.specs.declared.expr.EForm.TheOpen as E
use Rattle.sk_tree.specs.declared.expr.EForm.TheViews.{roll-EForm}
use Rattle.sk_tree.specs.declared.expr.EForm.TheFolds.{map-EForm, fold-EForm, fold-NewField, fold-roll-EForm, fold-roll-Expr}
use Rattle.sk_prog.specs.declared.ty.Ty.{Ty}
use Rattle.sk_prog.specs.declared.expr.BinOp.{BinOp}
use Rattle.sk_prog.specs.declared.expr.PExpr.{PExpr}
use Rattle.sk_prog.specs.declared.expr.PField.{PField}
use Rattle.sk_prog.specs.declared.expr.PEForm.{PEForm}
use Rattle.sk_prog.specs.declared.expr.PEForm.TheOpen as P
use Rattle.sk_prog.specs.declared.expr.PEForm.TheViews.{roll-PEForm, roll-PExpr}
use Rattle.sk_prog.specs.declared.expr.PEForm.TheFolds.{map-PEForm, ind-PExpr}
use Rattle.sk_prog.specs.declared.prog.StructDef.{StructDef}
use Rattle.sk_types_rules.specs.declared.scope.Variable.{Variable}
use Rattle.sk_types_rules.specs.Rules.{◌>>=◌, class_of, operator_of, operation_own}
use Rattle.sk_types_rules.specs.Scope.{Signature, Top, Known, Context, AVariable, Nearest, meaning_of, top_meaning, variable_or}
use Rattle.sk_types_rules.specs.Constants.{eform_number, whole_number, computed}
use Rattle.sk_types_rules.specs.Sorts.{Sort, named, eform_sort, sort, own, any_binary}
use Rattle.sk_types_rules.specs.Types.{EFormRule, MeansBinary, Means}
use Rattle.sk_types_rules.proofs.Nearest.{nearest_lookup}
use Rattle.sk_types_rules.proofs.Layers.{FormMeans, rule, form_means_are, means_parts, means_from}
use Rattle.sk_types_rules.proofs.SortLaws.{form_sort, field_sort, form_sort_is, sort_is}
use Rattle.sk_types_laws.proofs.Ats.{bind_some}
use Rattle.sk_types_laws.proofs.OwnLaws.{binary_own}
use Rattle.sk_expand_laws.proofs.Exprs.{const_again}

module _ (bounds : Bounds) (structs : List StructDef) (consts : List (List ℕ)) (funs others : List Signature) (known : List Known) (scope : List Variable) where
  abbrev old : Top
  old = record { structs = structs; consts = consts; funs = funs }

  abbrev new : Top
  new = record { structs = structs; consts = consts; funs = others }

  abbrev one : Context
  one = record { bounds = bounds; top = old; known = known }

  abbrev two : Context
  two = record { bounds = bounds; top = new; known = known }

  abbrev Layer : Type 0
  Layer = E.EForm-F EForm Expr NewField

  abbrev form_whole : EForm → Option ℤ
  form_whole = fold-EForm (Option ℤ) (Option ℤ) (Unit {0}) (eform_number one scope) (λ x. x.form) (λ x. tt)

  abbrev wholes : Layer → E.EForm-F (Option ℤ) (Option ℤ) (Unit {0})
  wholes l = map-EForm EForm Expr NewField (Option ℤ) (Option ℤ) (Unit {0}) form_whole (whole_number one scope) (fold-NewField (Option ℤ) (Option ℤ) (Unit {0}) (eform_number one scope) (λ x. x.form) (λ x. tt)) l

  whole_of : (e : Expr) (f : EForm) (l : Layer) → e.form ≡ f → roll-EForm l ≡ f → whole_number one scope e ≡ eform_number one scope (wholes l)
  whole_of e f l is to =
      fold-roll-Expr (Option ℤ) (Option ℤ) (Unit {0}) (eform_number one scope) (λ x. x.form) (λ x. tt) (record { span = e.span; form = e.form })
      ∙ ap form_whole (is ∙ sym to)
      ∙ fold-roll-EForm (Option ℤ) (Option ℤ) (Unit {0}) (eform_number one scope) (λ x. x.form) (λ x. tt) l

  abbrev pairs : Context → Layer → E.EForm-F (EForm × Sort) (Expr × Sort) (NewField × Sort)
  pairs context l = map-EForm EForm Expr NewField (EForm × Sort) (Expr × Sort) (NewField × Sort) (λ f. (f, form_sort context scope f)) (λ e. (e, sort context scope e)) (λ x. (x, field_sort context scope x)) l

  own_of : (context : Context) (e : Expr) (f : EForm) (l : Layer) → e.form ≡ f → roll-EForm l ≡ f → own context scope e ≡ (eform_sort context scope (pairs context l)).own
  own_of context e f l is to = ap (λ (z : Sort). z.own) (sort_is context scope e ∙ ap (form_sort context scope) (is ∙ sym to) ∙ form_sort_is context scope l)

  record FormIs (f : PEForm) (t : Option Ty) (e : Expr) : Type 0 where
    means : FormMeans two scope f t e
    owns : own two scope e ≡ own one scope e

  pub record ExprIs (p : PExpr) (e : Expr) : Type 0 where
    pub means : Means two scope p e
    pub owns : own two scope e ≡ own one scope e

  abbrev FormAgain : PEForm → Type 0
  FormAgain f = (t : Option Ty) (e : Expr) (z : ℤ) → FormMeans one scope f t e → whole_number one scope e ≡ Some z → FormIs f t e

  abbrev ExprAgain : PExpr → Type 0
  ExprAgain p = (e : Expr) (z : ℤ) → Means one scope p e → whole_number one scope e ≡ Some z → ExprIs p e

  abbrev Such' : Type 0
  Such' = (p : PExpr) × ExprAgain p

  abbrev down : P.PEForm-F ((f : PEForm) × FormAgain f) Such' (PField × Unit {0}) → P.PEForm-F PEForm PExpr PField
  down = map-PEForm ((f : PEForm) × FormAgain f) Such' (PField × Unit {0}) PEForm PExpr PField (λ q. q.0) (λ q. q.0) (λ q. q.0)

  -- what is no constant expression
  never : {A : Type 0} (e : Expr) (f : EForm) (l : Layer) (z : ℤ) → e.form ≡ f → roll-EForm l ≡ f → eform_number one scope (wholes l) ≡ None → whole_number one scope e ≡ Some z → A
  never e f l z is to none h = let c : None ≡ Some z = sym (whole_of e f l is to ∙ none) ∙ h in cc

  meaning_here : (top : Top) (x : List ℕ) (slot : ℕ) (t : Ty) → Nearest scope x slot t → meaning_of top scope x ≡ AVariable (record { slot = slot; ty = t })
  meaning_here top x slot t n = ap (λ o. variable_or o (top_meaning top x)) (nearest_lookup scope x slot t n)

  any_binary_again : (o : Option BinOp) (x y : Expr) → own two scope x ≡ own one scope x → own two scope y ≡ own one scope y → (any_binary o (sort two scope x) (sort two scope y)).own ≡ (any_binary o (sort one scope x) (sort one scope y)).own
  any_binary_again None x y a b = refl
  any_binary_again (Some o) x y a b = binary_own o (sort two scope x) (sort two scope y) ∙ (λ i. operation_own o (a i) (b i)) ∙ sym (binary_own o (sort one scope x) (sort one scope y))

  layer : (y : P.PEForm-F ((f : PEForm) × FormAgain f) Such' (PField × Unit {0})) (t : Option Ty) (e : Expr) (z : ℤ) → rule one scope (down y) t e → whole_number one scope e ≡ Some z → rule two scope (down y) t e × (own two scope e ≡ own one scope e)
  layer (P.Number n) t e z h c = (h, own_of two e (eform.Number n) (E.Number n) h.0 (eform.rolls-Number n) ∙ sym (own_of one e (eform.Number n) (E.Number n) h.0 (eform.rolls-Number n)))
  layer P.True t e z h c = (h, own_of two e eform.True E.True h.0 eform.rolls-True ∙ sym (own_of one e eform.True E.True h.0 eform.rolls-True))
  layer P.False t e z h c = (h, own_of two e eform.False E.False h.0 eform.rolls-False ∙ sym (own_of one e eform.False E.False h.0 eform.rolls-False))
  layer P.Null t e z h c = (h, own_of two e eform.Null E.Null h.0 eform.rolls-Null ∙ sym (own_of one e eform.Null E.Null h.0 eform.rolls-Null))
  layer (P.Var slot x) t e z h c =
      let m = meaning_here old x slot h.1 h.3 in
      let n = meaning_here new x slot h.1 h.3 in
      (h, own_of two e (eform.Word x) (E.Word x) h.0 (eform.rolls-Word x) ∙ ap (λ z. (named z).own) n ∙ sym (own_of one e (eform.Word x) (E.Word x) h.0 (eform.rolls-Word x) ∙ ap (λ z. (named z).own) m))
  layer (P.Const r) t e z h c =
      let m = const_again structs consts funs others scope h.0 r h.2 in
      ((h.0, h.1, m, h.3), own_of two e (eform.Word h.0) (E.Word h.0) h.1 (eform.rolls-Word h.0) ∙ ap (λ z. (named z).own) m ∙ sym (own_of one e (eform.Word h.0) (E.Word h.0) h.1 (eform.rolls-Word h.0) ∙ ap (λ z. (named z).own) h.2))
  layer (P.Hole n) t e z h c = (h, own_of two e (eform.Hole n) (E.Hole n) h.0 (eform.rolls-Hole n) ∙ sym (own_of one e (eform.Hole n) (E.Hole n) h.0 (eform.rolls-Hole n)))
  layer (P.Pattern qs) t e z h c = never e (eform.Pattern h.0 h.1) (E.Pattern h.0 h.1) z h.2 (eform.rolls-Pattern h.0 h.1) refl c
  layer (P.Paren q) t e z h c =
      let w = sym (whole_of e (eform.Paren h.0) (E.Paren h.0) h.1 (eform.rolls-Paren h.0)) ∙ c in
      let r = q.1 h.0 z h.2 w in
      ((h.0, h.1, r.means, h.3, h.4, h.5), own_of two e (eform.Paren h.0) (E.Paren h.0) h.1 (eform.rolls-Paren h.0) ∙ r.owns ∙ sym (own_of one e (eform.Paren h.0) (E.Paren h.0) h.1 (eform.rolls-Paren h.0)))
  layer (P.Call g qs) t e z h c = never e (eform.Call h.0 h.1) (E.Call h.0 h.1) z h.2 (eform.rolls-Call h.0 h.1) refl c
  layer (P.New d qs) t e z h c = never e (eform.New h.0 h.1) (E.New h.0 h.1) z h.2 (eform.rolls-New h.0 h.1) refl c
  layer (P.Braces qs) t e z h c = never e (eform.Braces h.0) (E.Braces h.0) z h.1 (eform.rolls-Braces h.0) refl c
  layer (P.Member q d i) t e z h c = never e (eform.Member h.0 h.1) (E.Member h.0 h.1) z h.2 (eform.rolls-Member h.0 h.1) refl c
  layer (P.Index q j) t e z h c = never e (eform.Index h.0 h.1) (E.Index h.0 h.1) z h.2 (eform.rolls-Index h.0 h.1) refl c
  layer (P.Slice q j m) t e z h c = never e (eform.Slice h.0 h.1 h.2) (E.Slice h.0 h.1 h.2) z h.3 (eform.rolls-Slice h.0 h.1 h.2) refl c
  layer (P.Unary o q) t e z h c = never e (eform.Unary h.0 h.1) (E.Unary h.0 h.1) z h.2 (eform.rolls-Unary h.0 h.1) refl c
  layer (P.Binary o q j) t e z h c =
      let w = sym (whole_of e (eform.Binary h.0 h.1 h.2) (E.Binary h.0 h.1 h.2) h.3 (eform.rolls-Binary h.0 h.1 h.2)) ∙ c in
      let a = bind_some (whole_number one scope h.1) (λ x. whole_number one scope h.2 >>= λ y. computed h.0 x y) z w in
      let b = bind_some (whole_number one scope h.2) (λ y. computed h.0 a.0 y) z a.2 in
      let r = q.1 h.1 a.0 h.5 a.1 in
      let s = j.1 h.2 b.0 h.6 b.1 in
      let m : MeansBinary (class_of o) (own two scope h.1) (own two scope h.2) h.7 q.0.ty j.0.ty t = subst (λ (T : Type 0). T) (λ i. MeansBinary (class_of o) (sym r.owns i) (sym s.owns i) h.7 q.0.ty j.0.ty t) h.8 in (
        (h.0, h.1, h.2, h.3, h.4, r.means, s.means, h.7, m),
        own_of two e (eform.Binary h.0 h.1 h.2) (E.Binary h.0 h.1 h.2) h.3 (eform.rolls-Binary h.0 h.1 h.2) ∙ any_binary_again (operator_of h.0) h.1 h.2 r.owns s.owns ∙ sym (own_of one e (eform.Binary h.0 h.1 h.2) (E.Binary h.0 h.1 h.2) h.3 (eform.rolls-Binary h.0 h.1 h.2)),
      )
  layer (P.Cond d q j) t e z h c = never e (eform.Cond h.0 h.1 h.2) (E.Cond h.0 h.1 h.2) z h.3 (eform.rolls-Cond h.0 h.1 h.2) refl c
  layer (P.ToInt q) t e z h c =
      let r = q.1 e z h.0 c in
      let w = h.2 in
      ((r.means, h.1, record { own = r.owns ∙ w.own; operand = w.operand; result = w.result }), r.owns)
  layer (P.Pad q) t e z h c =
      let r = q.1 e z h.0 c in
      let w = h.2 in
      ((r.means, h.1, record { from = w.from; to = w.to; own = r.owns ∙ w.own; operand = w.operand; result = w.result; fit = w.fit }), r.owns)

  form_from : (y : P.PEForm-F ((f : PEForm) × FormAgain f) Such' (PField × Unit {0})) → FormAgain (roll-PEForm (down y))
  form_from y t e z m c =
      let r = layer y t e z (subst (λ (M : EFormRule). M t e) (form_means_are one scope (down y)) m) c in
      record { means = subst (λ (M : EFormRule). M t e) (sym (form_means_are two scope (down y))) r.0; owns = r.1 }

  in_expr : (s : Span) (t : Option Ty) (f : PEForm) → FormAgain f → ExprAgain (record { span = s; ty = t; form = f })
  in_expr s t f h e z m c =
      let parts = means_parts one scope (record { span = s; ty = t; form = f }) e m in
      let r = h t e z parts.1 c in
      record { means = means_from two scope (record { span = s; ty = t; form = f }) e parts.0 r.means; owns = r.owns }

  pub constant_again : (p : PExpr) → ExprAgain p
  constant_again = ind-PExpr FormAgain ExprAgain (λ x. Unit {0})
      (λ x y is. subst (λ z. FormAgain (roll-PEForm z)) is (form_from y))
      (λ x y is. subst (λ z. ExprAgain (roll-PExpr z)) is (in_expr y.span y.ty y.form.0 y.form.1))
      (λ x y is. tt)
