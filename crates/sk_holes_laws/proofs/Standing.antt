-- What stands at a type has no type of its own, or one that fits it.
use Rattle.std.proofs.Common.{◌≡◌, ℕ, Bool, true, false, Option, Some, None, inl, inr, refl, sym, subst}
use Rattle.std.specs.Prelude.{if◌then◌else◌, ◌&&◌, ◌||◌, ◌⊎◌, nat_lt, List}
use Rattle.sk_tree.specs.declared.expr.Expr.{Expr}
use Rattle.sk_tree.specs.declared.expr.EForm.{EForm}
use Rattle.sk_tree.specs.declared.expr.EForm.TheOpen as E
use Rattle.sk_tree.specs.declared.expr.EForm.TheViews.{roll-EForm}
use Rattle.sk_tree.specs.declared.expr.EForm.TheFolds.{map-EForm}
use Rattle.sk_tree.specs.declared.expr.NewField.{NewField}
use Rattle.sk_prog.specs.declared.ty.Ty.{Ty}
use Rattle.sk_prog.specs.declared.ty.Ty.TheVariants as ty
use Rattle.sk_prog.specs.declared.ty.Elem.TheVariants as elem
use Rattle.sk_prog.specs.declared.ids.StructId.{StructId}
use Rattle.sk_prog.specs.declared.expr.BinOp.{BinOp}
use Rattle.sk_prog.specs.declared.expr.BinOp.TheVariants as op
use Rattle.sk_prog.specs.declared.expr.UnOp.{UnOp}
use Rattle.sk_prog.specs.declared.expr.UnOp.TheVariants as unary
use Rattle.sk_types_rules.specs.declared.rules.Own.{Own}
use Rattle.sk_types_rules.specs.declared.rules.Own.TheVariants.{Wrong, Loose, Firm}
use Rattle.sk_types_rules.specs.declared.rules.Class.{Class}
use Rattle.sk_types_rules.specs.declared.rules.Class.TheVariants.{Plus, Arithmetic, Order, Equality, Bitwise}
use Rattle.sk_types_rules.specs.declared.scope.Variable.{Variable}
use Rattle.sk_types_rules.specs.Rules.{int, bit, fits, operand, result_own, shifted, flipped, choice, number_takes, element_takes, number_fits, element_of, in_range, unary_of, operator_of}
use Rattle.sk_types_rules.specs.Scope.{Context, Signature, Meaning, AVariable, AStruct, AConstant, AFunction, Nothing, meaning_of}
use Rattle.sk_types_rules.specs.Sorts.{Sort, firm, wrong, named, firm_of, binary_at, shift_by, binary_sort, any_binary, flip_at, any_unary, call_sort, is_harness, signature_meant, new_sort, new_fits, struct_meant, eform_sort, sort}
use Rattle.sk_types_rules.proofs.SortLaws.{form_sort, field_sort, form_sort_is, sort_is}
use Rattle.sk_types_laws.proofs.Ats.{both_true, expr_law}
use Rattle.sk_holes_laws.specs.Owns.{MayStand}
use Rattle.sk_holes_laws.proofs.Fitting.{comparable}

abbrev Keeps : Sort → Type 0
Keeps z = (t : Ty) → z.at t ≡ true → MayStand z.own t

firm_keeps : (u : Ty) (good : Bool) → Keeps (firm u good)
firm_keeps u good t h = (both_true good (fits u t) h).1

wrong_keeps : Keeps wrong
wrong_keeps t h = cc

named_keeps : (m : Meaning) → Keeps (named m)
named_keeps (AVariable v) = firm_keeps v.ty true
named_keeps (AConstant c) = firm_keeps int true
named_keeps (AStruct s) = wrong_keeps
named_keeps (AFunction f) = wrong_keeps
named_keeps Nothing = wrong_keeps

firm_of_keeps : (o : Option Ty) (good : Bool) → Keeps (firm_of o good)
firm_of_keeps None good = wrong_keeps
firm_of_keeps (Some u) good = firm_keeps u good

-- Numbers

large_element : (n : ℕ) (t : Ty) → nat_lt n 2 ≡ false → element_takes n (element_of t) ≡ true → fits int t ≡ true
large_element n (ty.One a) p h = cc
large_element n (ty.Array elem.Int k) p h = refl
large_element n (ty.Array elem.Bit k) p h = let e : nat_lt n 2 ≡ true = h in cc
large_element n (ty.Array (elem.Reference s) k) p h = cc
large_element n (ty.Grid a k l) p h = cc

large_fits : (n : ℕ) (t : Ty) (a : Bool) → nat_lt n 2 ≡ false → number_takes n t ≡ a → (a || element_takes n (element_of t)) ≡ true → fits int t ≡ true
large_fits n (ty.One elem.Int) true p q h = refl
large_fits n (ty.One elem.Bit) true p q h = let e : nat_lt n 2 ≡ true = q in cc
large_fits n (ty.One (elem.Reference s)) true p q h = cc
large_fits n (ty.Array a k) true p q h = cc
large_fits n (ty.Grid a k l) true p q h = cc
large_fits n t false p q h = large_element n t p h

number_keeps : (n : ℕ) (t : Ty) (b : Bool) → nat_lt n 2 ≡ b → number_fits n t ≡ true → MayStand (if b then Loose else Firm int) t
number_keeps n t true p h = tt
number_keeps n t false p h = large_fits n t (number_takes n t) p refl h

-- Operators

binary_keeps : (k : Class) (o : Own) (a b : Sort) (t : Ty) → binary_at k o a b t ≡ true → MayStand (result_own k o) t
binary_keeps k Wrong a b t h = cc
binary_keeps k Loose a b t h = tt
binary_keeps k (Firm u) a b t h = (both_true _ _ (both_true _ _ h).1).1

shift_keeps : (o : Own) (a b : Sort) → Keeps (shift_by o a b)
shift_keeps Wrong a b = wrong_keeps
shift_keeps Loose a b = wrong_keeps
shift_keeps (Firm u) a b = firm_keeps u (a.at u && b.at int)

operation_keeps : (o : BinOp) (a b : Sort) → Keeps (binary_sort o a b)
operation_keeps op.AndThen a b = firm_keeps bit (a.at bit && b.at bit)
operation_keeps op.OrElse a b = firm_keeps bit (a.at bit && b.at bit)
operation_keeps op.Shl a b = shift_keeps (shifted a.own) a b
operation_keeps op.Shr a b = shift_keeps (shifted a.own) a b
operation_keeps op.Mul a b = binary_keeps Arithmetic (operand Arithmetic a.own b.own) a b
operation_keeps op.Div a b = binary_keeps Arithmetic (operand Arithmetic a.own b.own) a b
operation_keeps op.Rem a b = binary_keeps Arithmetic (operand Arithmetic a.own b.own) a b
operation_keeps op.Add a b = binary_keeps Plus (operand Plus a.own b.own) a b
operation_keeps op.Sub a b = binary_keeps Arithmetic (operand Arithmetic a.own b.own) a b
operation_keeps op.Lt a b = binary_keeps Order (operand Order a.own b.own) a b
operation_keeps op.Le a b = binary_keeps Order (operand Order a.own b.own) a b
operation_keeps op.Gt a b = binary_keeps Order (operand Order a.own b.own) a b
operation_keeps op.Ge a b = binary_keeps Order (operand Order a.own b.own) a b
operation_keeps op.Eq a b = binary_keeps Equality (operand Equality a.own b.own) a b
operation_keeps op.Ne a b = binary_keeps Equality (operand Equality a.own b.own) a b
operation_keeps op.And a b = binary_keeps Bitwise (operand Bitwise a.own b.own) a b
operation_keeps op.Xor a b = binary_keeps Bitwise (operand Bitwise a.own b.own) a b
operation_keeps op.Or a b = binary_keeps Bitwise (operand Bitwise a.own b.own) a b

any_binary_keeps : (o : Option BinOp) (a b : Sort) → Keeps (any_binary o a b)
any_binary_keeps None a b = wrong_keeps
any_binary_keeps (Some o) a b = operation_keeps o a b

flip_keeps : (o : Own) (a : Sort) (t : Ty) → flip_at o a t ≡ true → MayStand o t
flip_keeps Wrong a t h = cc
flip_keeps Loose a t h = tt
flip_keeps (Firm u) a t h = (both_true _ _ h).1

any_unary_keeps : (o : Option UnOp) (a : Sort) → Keeps (any_unary o a)
any_unary_keeps None a = wrong_keeps
any_unary_keeps (Some unary.Not) a = firm_keeps bit (a.at bit)
any_unary_keeps (Some unary.Neg) a = firm_keeps int (a.at int)
any_unary_keeps (Some unary.Flip) a = flip_keeps (flipped a.own) a

-- Choices

join_may : (u v t : Ty) (a b : Bool) → fits u v ≡ a → fits v u ≡ b → fits u t ≡ true → fits v t ≡ true → MayStand (if a then Firm v else (if b then Firm u else Wrong)) t
join_may u v t true b p q h k = k
join_may u v t false true p q h k = h
join_may u v t false false p q h k = go (comparable u v t h k)
  where
    go : (fits u v ≡ true) ⊎ (fits v u ≡ true) → ⊥
    go (inl e) = cc
    go (inr e) = cc

choice_may : (x y : Own) (t : Ty) → MayStand x t → MayStand y t → MayStand (choice x y) t
choice_may Wrong y t h k = absurd h
choice_may Loose Wrong t h k = absurd k
choice_may Loose Loose t h k = tt
choice_may Loose (Firm v) t h k = k
choice_may (Firm u) Wrong t h k = absurd k
choice_may (Firm u) Loose t h k = h
choice_may (Firm u) (Firm v) t h k = join_may u v t (fits u v) (fits v u) refl refl h k

-- Calls and records

module _ (context : Context) (scope : List Variable) where
  callable_keeps : (o : Option Signature) (es : List (Expr × Sort)) → Keeps (call_sort scope o es)
  callable_keeps None es = wrong_keeps
  callable_keeps (Some g) es = go (is_harness g.kind) _
    where
      go : (b good : Bool) → Keeps (if b then wrong else firm_of g.result good)
      go true good = wrong_keeps
      go false good = firm_of_keeps g.result good

  record_keeps : (o : Option StructId) (xs : List (NewField × Sort)) → Keeps (new_sort context.top o xs)
  record_keeps None xs = wrong_keeps
  record_keeps (Some s) xs = firm_keeps (ty.One (elem.Reference s)) (new_fits context.top s xs)

  abbrev FormKeeps : EForm → Type 0
  FormKeeps f = Keeps (form_sort context scope f)

  abbrev ExprKeeps : Expr → Type 0
  ExprKeeps e = Keeps (sort context scope e)

  abbrev FieldKeeps : NewField → Type 0
  FieldKeeps x = Unit {0}

  abbrev plain_layer : E.EForm-F ((f : EForm) × FormKeeps f) ((e : Expr) × ExprKeeps e) ((x : NewField) × FieldKeeps x) → E.EForm-F EForm Expr NewField
  plain_layer y = map-EForm ((f : EForm) × FormKeeps f) ((e : Expr) × ExprKeeps e) ((x : NewField) × FieldKeeps x) EForm Expr NewField (λ q. q.0) (λ q. q.0) (λ q. q.0) y

  abbrev sorted_layer : E.EForm-F EForm Expr NewField → E.EForm-F (EForm × Sort) (Expr × Sort) (NewField × Sort)
  sorted_layer l = map-EForm EForm Expr NewField (EForm × Sort) (Expr × Sort) (NewField × Sort) (λ f. (f, form_sort context scope f)) (λ e. (e, sort context scope e)) (λ x. (x, field_sort context scope x)) l

  -- what stands at a type has no type of its own, or one that fits it
  pub may_stand : (e : Expr) → ExprKeeps e
  may_stand = expr_law FormKeeps ExprKeeps FieldKeeps form_layer (λ e h. subst (λ z. Keeps z) (sym (sort_is context scope e)) h) (λ x h. tt)
    where
      go : (y : E.EForm-F ((f : EForm) × FormKeeps f) ((e : Expr) × ExprKeeps e) ((x : NewField) × FieldKeeps x)) → Keeps (eform_sort context scope (sorted_layer (plain_layer y)))
      go (E.Number n) = λ t h. number_keeps n t (nat_lt n 2) refl (both_true (in_range context.bounds n) (number_fits n t) h).1
      go E.True = firm_keeps bit true
      go E.False = firm_keeps bit true
      go E.Null = λ t h. tt
      go (E.Word x) = named_keeps (meaning_of context.top scope x)
      go (E.Hole n) = λ t h. tt
      go (E.Pattern g es) = λ t h. tt
      go (E.Paren e) = e.1
      go (E.Call x es) = callable_keeps (signature_meant context.top (meaning_of context.top scope x)) _
      go (E.New x xs) = record_keeps (struct_meant (meaning_of context.top scope x)) _
      go (E.Braces es) = λ t h. tt
      go (E.Member e x) = firm_of_keeps _ _
      go (E.Index e i) = firm_of_keeps _ _
      go (E.Slice e i n) = firm_of_keeps _ _
      go (E.Unary m e) = any_unary_keeps (unary_of m) (sort context scope e.0)
      go (E.Binary m a b) = any_binary_keeps (operator_of m) (sort context scope a.0) (sort context scope b.0)
      go (E.Cond c a b) = λ t h. let parts = both_true _ _ (both_true _ _ h).1 in choice_may (sort context scope a.0).own (sort context scope b.0).own t (a.1 t parts.0) (b.1 t parts.1)

      form_layer : (y : E.EForm-F ((f : EForm) × FormKeeps f) ((e : Expr) × ExprKeeps e) ((x : NewField) × FieldKeeps x)) → FormKeeps (roll-EForm (plain_layer y))
      form_layer y = subst (λ z. Keeps z) (sym (form_sort_is context scope (plain_layer y))) (go y)
