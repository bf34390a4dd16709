-- An expression that is bare is made at its own type, and coerced where another is wanted.
use Rattle.std.proofs.Common.{◌≡◌, ℕ, Bool, true, false, List, Option, Some, None, refl, sym, ap, ◌∙◌}
use Rattle.std.specs.Prelude.{nat_lt, if◌then◌else◌, slice_get}
use Rattle.sk_base.specs.declared.span.Span.{Span}
use Rattle.sk_tree.specs.declared.expr.Expr.{Expr}
use Rattle.sk_tree.specs.declared.expr.EForm.{EForm}
use Rattle.sk_tree.specs.declared.expr.EForm.TheOpen as E
use Rattle.sk_tree.specs.declared.expr.EForm.TheViews.{roll-EForm}
use Rattle.sk_tree.specs.declared.expr.EForm.TheFolds.{map-EForm, fold-EForm, fold-NewField, fold-roll-EForm, fold-roll-Expr}
use Rattle.sk_tree.specs.declared.expr.NewField.{NewField}
use Rattle.sk_prog.specs.declared.ty.Ty.{Ty}
use Rattle.sk_prog.specs.declared.ty.Ty.TheVariants as ty
use Rattle.sk_prog.specs.declared.ty.Elem.TheVariants as elem
use Rattle.sk_prog.specs.declared.ids.StructId.{StructId}
use Rattle.sk_prog.specs.declared.ids.FunId.{FunId}
use Rattle.sk_prog.specs.declared.expr.BinOp.{BinOp}
use Rattle.sk_prog.specs.declared.expr.BinOp.TheVariants as op
use Rattle.sk_prog.specs.declared.expr.UnOp.{UnOp}
use Rattle.sk_prog.specs.declared.expr.UnOp.TheVariants as unary
use Rattle.sk_prog.specs.declared.expr.PExpr.{PExpr}
use Rattle.sk_prog.specs.declared.expr.PEForm.{PEForm}
use Rattle.sk_prog.specs.declared.expr.PEForm.TheVariants as pform
use Rattle.sk_prog.specs.declared.prog.FieldDef.{FieldDef}
use Rattle.sk_prog.specs.declared.prog.StructDef.{StructDef}
use Rattle.sk_types_rules.specs.declared.rules.Own.{Own}
use Rattle.sk_types_rules.specs.declared.rules.Own.TheVariants.{Wrong, Loose, Firm}
use Rattle.sk_types_rules.specs.declared.rules.Class.{Class}
use Rattle.sk_types_rules.specs.declared.rules.Class.TheVariants.{Plus, Arithmetic, Order, Equality, Bitwise}
use Rattle.sk_types_rules.specs.declared.scope.Variable.{Variable}
use Rattle.sk_types_rules.specs.Rules.{◌>>=◌, only_if, int, bit, fit_of, element_of, operand, result_of, result_own, shifted, flipped, operation_own, number_stands, in_range, operator_of, unary_of}
use Rattle.sk_types_rules.specs.Scope.{Top, Context, Meaning, AVariable, AStruct, AConstant, AFunction, Nothing, meaning_of, field_of}
use Rattle.sk_types_rules.specs.Constants.{constant_number}
use Rattle.sk_types_rules.specs.Sorts.{Sort, named, struct_meant, reference_to, reference_meant, field_type, member_of, array_meant, slice_of, sliced, new_sort, any_unary, any_binary, eform_sort, sort, own}
use Rattle.sk_types_rules.specs.Types.{eform_bare, is_bare}
use Rattle.sk_types_rules.proofs.SortLaws.{form_sort, field_sort, form_sort_is, sort_is}
use Rattle.sk_types_laws.specs.declared.found.Found.{Found}
use Rattle.sk_types_laws.specs.declared.found.View.{View}
use Rattle.sk_types_laws.specs.declared.found.Wants.{Wants}
use Rattle.sk_types_laws.specs.Owns.{own_type, callee_result}
use Rattle.sk_types_laws.specs.Elaborate.{At, FormAt, typed, coerced, firm_at, named_at, Setting, field_found, Callee, callee_meant, called, call_at, Argument, arguments_at, record_form, record_at, member_found, member_at, viewed, index_at, slice_at, flip_wants, unary_at, operands_want, shift_wants, binary_at, eform_at, form_at, at, field_at}
use Rattle.sk_types_laws.proofs.OwnLaws.{firm_own, binary_own, call_own}
use Rattle.sk_types_laws.proofs.Ats.{fit_same, expr_law, form_at_is, at_is}

abbrev pub form_bare : EForm → Bool
form_bare = fold-EForm Bool Bool (Unit {0}) eform_bare (λ x. x.form) (λ x. tt)

abbrev field_bare : NewField → Unit {0}
field_bare = fold-NewField Bool Bool (Unit {0}) eform_bare (λ x. x.form) (λ x. tt)

pub form_bare_is : (l : E.EForm-F EForm Expr NewField) → form_bare (roll-EForm l) ≡ eform_bare (map-EForm EForm Expr NewField Bool Bool (Unit {0}) form_bare is_bare field_bare l)
form_bare_is l = fold-roll-EForm Bool Bool (Unit {0}) eform_bare (λ x. x.form) (λ x. tt) l

pub is_bare_is : (e : Expr) → is_bare e ≡ form_bare e.form
is_bare_is e = fold-roll-Expr Bool Bool (Unit {0}) eform_bare (λ x. x.form) (λ x. tt) (record { span = e.span; form = e.form })

module _ (s : Span) (u t : Ty) where
  -- made at its own type, then coerced
  abbrev Rests : (Ty → Option PExpr) → Type 0
  Rests f = f t ≡ (f u >>= coerced (fit_of u t) t)

  firm_rests : (v : Ty) → Firm v ≡ Firm u → (f : PEForm) → Rests (firm_at v (Some f) s)
  firm_rests v e f =
      let is : u ≡ v = cc in
      ap (λ (w : Ty). coerced (fit_of w t) t (typed s w f)) (sym is)
      ∙ ap (λ k. coerced k u (typed s u f) >>= coerced (fit_of u t) t) (sym (fit_same u))
      ∙ ap (λ (w : Ty). firm_at w (Some f) s u >>= coerced (fit_of u t) t) is

  one_rests : {A : Type 0} (v : Ty) → Firm v ≡ Firm u → (m : Option A) (f : A → PEForm) → Rests (λ w. m >>= λ p. firm_at v (Some (f p)) s w)
  one_rests v e None f = refl
  one_rests v e (Some p) f = firm_rests v e (f p)

  two_rests : {A B : Type 0} (v : Ty) → Firm v ≡ Firm u → (m : Option A) (n : Option B) (f : A → B → PEForm) → Rests (λ w. m >>= λ p. n >>= λ q. firm_at v (Some (f p q)) s w)
  two_rests v e None n f = refl
  two_rests v e (Some p) None f = refl
  two_rests v e (Some p) (Some q) f = firm_rests v e (f p q)

  number_rests : (n : ℕ) (a b : Bool) → (if b then Loose else Firm int) ≡ Firm u → Rests (λ w. if a then (if b then only_if (number_stands n w) (typed s w (pform.Number n)) else firm_at int (Some (pform.Number n)) s w) else None)
  number_rests n a true e = cc
  number_rests n true false e = firm_rests int e (pform.Number n)
  number_rests n false false e = refl

  named_rests : (m : Meaning) (x : List ℕ) → (named m).own ≡ Firm u → Rests (named_at m x s)
  named_rests (AVariable v) x e = firm_rests v.ty e (pform.Var v.slot x)
  named_rests (AConstant c) x e = firm_rests int e (pform.Const c)
  named_rests (AStruct r) x e = cc
  named_rests (AFunction f) x e = cc
  named_rests Nothing x e = cc

  result_rests : (f : FunId) (r : Option Ty) (m : Option (List PExpr)) → own_type r ≡ Firm u → Rests (call_at (m >>= λ ps. Some (record { result = r; form = pform.Call f ps })) s)
  result_rests f None m e = cc
  result_rests f (Some r) None e = refl
  result_rests f (Some r) (Some ps) e = firm_rests r e (pform.Call f ps)

  call_rests : (o : Option Callee) (es : List Argument) → own_type (callee_result o) ≡ Firm u → Rests (call_at (called o es) s)
  call_rests None es e = cc
  call_rests (Some g) es e = result_rests g.id g.signature.result (arguments_at g.signature.params es) e

  raw_rests : (v : Ty) → Firm v ≡ Firm u → (o : Option PEForm) → Rests (firm_at v o s)
  raw_rests v e None = refl
  raw_rests v e (Some f) = firm_rests v e f

  record_rests : (r : StructId) → Firm (reference_to r) ≡ Firm u → (o : Option StructDef) (es : List Setting) → Rests (λ w. o >>= λ (d : StructDef). firm_at (reference_to r) (record_form r d es) s w)
  record_rests r e None es = refl
  record_rests r e (Some d) es = raw_rests (reference_to r) e (record_form r d es)

  new_rests : (top : Top) (o : Option StructId) (xs : List (NewField × Sort)) (es : List Setting) → (new_sort top o xs).own ≡ Firm u → Rests (record_at top o es s)
  new_rests top None xs es e = cc
  new_rests top (Some r) xs es e = record_rests r e (slice_get top.structs r.index) es

  member_rests : (top : Top) (r : StructId) (x : List ℕ) (m : Option PExpr) → own_type (field_type top r x) ≡ Firm u → Rests (λ w. member_found top r x >>= λ (y : Found). m >>= λ p. firm_at y.ty (Some (pform.Member p r y.field)) s w)
  member_rests top r x m = of_struct (slice_get top.structs r.index)
    where
      of_field : (i : ℕ) (o : Option FieldDef) → own_type (o >>= λ (y : FieldDef). Some y.ty) ≡ Firm u → Rests (λ w. (o >>= λ (y : FieldDef). Some (record { field = i; ty = y.ty })) >>= λ (y : Found). m >>= λ p. firm_at y.ty (Some (pform.Member p r y.field)) s w)
      of_field i None e = cc
      of_field i (Some y) e = one_rests y.ty e m (λ p. pform.Member p r i)

      of_place : (d : StructDef) (o : Option ℕ) → own_type (o >>= λ i. slice_get d.fields i >>= λ (y : FieldDef). Some y.ty) ≡ Firm u → Rests (λ w. (o >>= λ i. slice_get d.fields i >>= λ (y : FieldDef). Some (record { field = i; ty = y.ty })) >>= λ (y : Found). m >>= λ p. firm_at y.ty (Some (pform.Member p r y.field)) s w)
      of_place d None e = cc
      of_place d (Some i) e = of_field i (slice_get d.fields i) e

      of_struct : (o : Option StructDef) → own_type (o >>= λ (d : StructDef). field_of d x >>= λ i. slice_get d.fields i >>= λ (y : FieldDef). Some y.ty) ≡ Firm u → Rests (λ w. (o >>= λ (d : StructDef). field_found d x) >>= λ (y : Found). m >>= λ p. firm_at y.ty (Some (pform.Member p r y.field)) s w)
      of_struct None e = cc
      of_struct (Some d) e = of_place d (field_of d x) e

  any_member_rests : (top : Top) (w : Own) (x : List ℕ) (f : At) → own_type (member_of top (reference_meant w) x) ≡ Firm u → Rests (member_at top (reference_meant w) f x s)
  any_member_rests top Wrong x f e = cc
  any_member_rests top Loose x f e = cc
  any_member_rests top (Firm (ty.One elem.Bit)) x f e = cc
  any_member_rests top (Firm (ty.One elem.Int)) x f e = cc
  any_member_rests top (Firm (ty.One (elem.Reference r))) x f e = member_rests top r x (f (reference_to r)) e
  any_member_rests top (Firm (ty.Array a n)) x f e = cc
  any_member_rests top (Firm (ty.Grid a n m)) x f e = cc

  index_rests : (w : Own) (f g : At) → own_type (array_meant w) ≡ Firm u → Rests (index_at w f g s)
  index_rests Wrong f g e = cc
  index_rests Loose f g e = cc
  index_rests (Firm v) f g e = go (element_of v) e
    where
      go : (o : Option Ty) → own_type o ≡ Firm u → Rests (λ w. viewed v o >>= λ (z : View). f z.whole >>= λ p. g int >>= λ q. firm_at z.part (Some (pform.Index p q)) s w)
      go None e = cc
      go (Some r) e = two_rests r e (f v) (g int) pform.Index

  slice_rests : (w : Own) (o : Option ℕ) (f g : At) → own_type (slice_of w o) ≡ Firm u → Rests (slice_at w o f g s)
  slice_rests Wrong None f g e = cc
  slice_rests Wrong (Some n) f g e = cc
  slice_rests Loose None f g e = cc
  slice_rests Loose (Some n) f g e = cc
  slice_rests (Firm v) None f g e = cc
  slice_rests (Firm v) (Some n) f g e = go (sliced v n) e
    where
      go : (o : Option Ty) → own_type o ≡ Firm u → Rests (λ w. viewed v o >>= λ (z : View). f z.whole >>= λ p. g int >>= λ q. firm_at z.part (Some (pform.Slice p q n)) s w)
      go None e = cc
      go (Some r) e = two_rests r e (f v) (g int) (λ p q. pform.Slice p q n)

  flip_rests : (w : Own) (f : At) → w ≡ Firm u → Rests (λ v. flip_wants w v >>= λ z. f z >>= λ p. firm_at z (Some (pform.Unary unary.Flip p)) s v)
  flip_rests Wrong f e = cc
  flip_rests Loose f e = cc
  flip_rests (Firm v) f e = one_rests v e (f v) (λ p. pform.Unary unary.Flip p)

  unary_rests : (o : Option UnOp) (a : Sort) (f : At) → (any_unary o a).own ≡ Firm u → Rests (unary_at o a.own f s)
  unary_rests None a f e = cc
  unary_rests (Some unary.Not) a f e = one_rests bit e (f bit) (λ p. pform.Unary unary.Not p)
  unary_rests (Some unary.Neg) a f e = one_rests int e (f int) (λ p. pform.Unary unary.Neg p)
  unary_rests (Some unary.Flip) a f e = flip_rests (flipped a.own) f e

  module _ (f g : At) where
    abbrev made : BinOp → Option Wants → FormAt
    made o w s v = w >>= λ (z : Wants). f z.left >>= λ p. g z.right >>= λ q. firm_at z.result (Some (pform.Binary o p q)) s v

    operands_rest : (k : Class) (o : BinOp) (w : Own) → result_own k w ≡ Firm u → Rests (λ v. made o (operands_want k w v) s v)
    operands_rest k o Wrong e = cc
    operands_rest k o Loose e = cc
    operands_rest k o (Firm v) e = two_rests (result_of k v) e (f v) (g v) (λ p q. pform.Binary o p q)

    shift_rests : (o : BinOp) (w : Own) → w ≡ Firm u → Rests (λ v. made o (shift_wants w) s v)
    shift_rests o Wrong e = cc
    shift_rests o Loose e = cc
    shift_rests o (Firm v) e = two_rests v e (f v) (g int) (λ p q. pform.Binary o p q)

    operation_rests : (o : BinOp) (x y : Own) → operation_own o x y ≡ Firm u → Rests (binary_at (Some o) x y f g s)
    operation_rests op.AndThen x y e = two_rests bit e (f bit) (g bit) (λ p q. pform.Binary op.AndThen p q)
    operation_rests op.OrElse x y e = two_rests bit e (f bit) (g bit) (λ p q. pform.Binary op.OrElse p q)
    operation_rests op.Shl x y e = shift_rests op.Shl (shifted x) e
    operation_rests op.Shr x y e = shift_rests op.Shr (shifted x) e
    operation_rests op.Mul x y e = operands_rest Arithmetic op.Mul (operand Arithmetic x y) e
    operation_rests op.Div x y e = operands_rest Arithmetic op.Div (operand Arithmetic x y) e
    operation_rests op.Rem x y e = operands_rest Arithmetic op.Rem (operand Arithmetic x y) e
    operation_rests op.Sub x y e = operands_rest Arithmetic op.Sub (operand Arithmetic x y) e
    operation_rests op.Add x y e = operands_rest Plus op.Add (operand Plus x y) e
    operation_rests op.Lt x y e = operands_rest Order op.Lt (operand Order x y) e
    operation_rests op.Le x y e = operands_rest Order op.Le (operand Order x y) e
    operation_rests op.Gt x y e = operands_rest Order op.Gt (operand Order x y) e
    operation_rests op.Ge x y e = operands_rest Order op.Ge (operand Order x y) e
    operation_rests op.Eq x y e = operands_rest Equality op.Eq (operand Equality x y) e
    operation_rests op.Ne x y e = operands_rest Equality op.Ne (operand Equality x y) e
    operation_rests op.And x y e = operands_rest Bitwise op.And (operand Bitwise x y) e
    operation_rests op.Xor x y e = operands_rest Bitwise op.Xor (operand Bitwise x y) e
    operation_rests op.Or x y e = operands_rest Bitwise op.Or (operand Bitwise x y) e

    binary_rests : (r : Option BinOp) (a b : Sort) → (any_binary r a b).own ≡ Firm u → Rests (binary_at r a.own b.own f g s)
    binary_rests None a b e = cc
    binary_rests (Some o) a b e = operation_rests o a.own b.own (sym (binary_own o a b) ∙ e)

module _ (context : Context) (scope : List Variable) where
  abbrev FormRests : EForm → Type 0
  FormRests f = form_bare f ≡ true → (s : Span) (u : Ty) → (form_sort context scope f).own ≡ Firm u → (t : Ty) → form_at context scope f s t ≡ (form_at context scope f s u >>= coerced (fit_of u t) t)

  abbrev ExprRests : Expr → Type 0
  ExprRests e = is_bare e ≡ true → (u : Ty) → own context scope e ≡ Firm u → (t : Ty) → at context scope e t ≡ (at context scope e u >>= coerced (fit_of u t) t)

  abbrev resting : E.EForm-F ((f : EForm) × FormRests f) ((e : Expr) × ExprRests e) (NewField × Unit {0}) → E.EForm-F EForm Expr NewField
  resting y = map-EForm ((f : EForm) × FormRests f) ((e : Expr) × ExprRests e) (NewField × Unit {0}) EForm Expr NewField (λ q. q.0) (λ q. q.0) (λ q. q.0) y

  abbrev pub sorted : E.EForm-F EForm Expr NewField → Sort
  sorted l = eform_sort context scope (map-EForm EForm Expr NewField (EForm × Sort) (Expr × Sort) (NewField × Sort) (λ f. (f, form_sort context scope f)) (λ e. (e, sort context scope e)) (λ x. (x, field_sort context scope x)) l)

  abbrev pub placed : E.EForm-F EForm Expr NewField → FormAt
  placed l = eform_at context scope (map-EForm EForm Expr NewField (EForm × FormAt) (Expr × At) (NewField × At) (λ f. (f, form_at context scope f)) (λ e. (e, at context scope e)) (λ x. (x, field_at context scope x)) l)

  go : (l : E.EForm-F EForm Expr NewField) → eform_bare (map-EForm EForm Expr NewField Bool Bool (Unit {0}) form_bare is_bare field_bare l) ≡ true → (s : Span) (u : Ty) → (sorted l).own ≡ Firm u → (t : Ty) → placed l s t ≡ (placed l s u >>= coerced (fit_of u t) t)
  go (E.Number n) b s u e t = number_rests s u t n (in_range context.bounds n) (nat_lt n 2) e
  go E.True b s u e t = firm_rests s u t bit e pform.True
  go E.False b s u e t = firm_rests s u t bit e pform.False
  go E.Null b s u e t = cc
  go (E.Word x) b s u e t = named_rests s u t (meaning_of context.top scope x) x e
  go (E.Hole n) b s u e t = cc
  go (E.Pattern g es) b s u e t = cc
  go (E.Paren a) b s u e t = cc
  go (E.Call x es) b s u e t = call_rests s u t (callee_meant context.top (meaning_of context.top scope x)) _ (sym (call_own context.top scope (meaning_of context.top scope x) _) ∙ e)
  go (E.New x xs) b s u e t = new_rests s u t context.top (struct_meant (meaning_of context.top scope x)) _ _ e
  go (E.Braces es) b s u e t = cc
  go (E.Member a x) b s u e t = any_member_rests s u t context.top (own context scope a) x (at context scope a) (sym (firm_own (member_of context.top (reference_meant (own context scope a)) x) _) ∙ e)
  go (E.Index a i) b s u e t = index_rests s u t (own context scope a) (at context scope a) (at context scope i) (sym (firm_own (array_meant (own context scope a)) _) ∙ e)
  go (E.Slice a i n) b s u e t = slice_rests s u t (own context scope a) (constant_number context scope n) (at context scope a) (at context scope i) (sym (firm_own (slice_of (own context scope a) (constant_number context scope n)) _) ∙ e)
  go (E.Unary m a) b s u e t = unary_rests s u t (unary_of m) (sort context scope a) (at context scope a) e
  go (E.Binary m a c) b s u e t = binary_rests s u t (at context scope a) (at context scope c) (operator_of m) (sort context scope a) (sort context scope c) e
  go (E.Cond c a d) b s u e t = cc

  -- what a bare expression is where a type is wanted
  pub bare_at : (e : Expr) → ExprRests e
  bare_at = expr_law FormRests ExprRests (λ x. Unit {0}) form_layer expr_layer (λ x h. tt)
    where
      form_layer : (y : E.EForm-F ((f : EForm) × FormRests f) ((e : Expr) × ExprRests e) (NewField × Unit {0})) → FormRests (roll-EForm (resting y))
      form_layer y b s u e t =
          let l = resting y in
          let is = form_at_is context scope l in
          ap (λ (k : FormAt). k s t) is
          ∙ go l (sym (form_bare_is l) ∙ b) s u (sym (ap (λ (z : Sort). z.own) (form_sort_is context scope l)) ∙ e) t
          ∙ ap (λ (k : FormAt). k s u >>= coerced (fit_of u t) t) (sym is)

      expr_layer : (e : Expr) → FormRests e.form → ExprRests e
      expr_layer e h b u o t =
          let is = at_is context scope e in
          ap (λ (k : At). k t) is
          ∙ h (sym (is_bare_is e) ∙ b) e.span u (sym (ap (λ (z : Sort). z.own) (sort_is context scope e)) ∙ o) t
          ∙ ap (λ (k : At). k u >>= coerced (fit_of u t) t) (sym is)
