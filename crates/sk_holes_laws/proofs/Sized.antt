-- Where the types of variables, fields and functions have elements, so has each type that an expression has by
-- itself.
use Rattle.std.proofs.Common.{◌≡◌, ◌≤◌, ℕ, Bool, true, false, List, Option, Some, None, refl, sym, subst}
use Rattle.std.specs.Prelude.{if◌then◌else◌, ◌&&◌, ◌||◌, nat_lt, nat_le, slice_get}
use Rattle.std.proofs.lemmas.Bool.{leb-true}
use Rattle.sk_tree.specs.declared.expr.Expr.{Expr}
use Rattle.sk_tree.specs.declared.expr.EForm.{EForm}
use Rattle.sk_tree.specs.declared.expr.EForm.TheOpen as E
use Rattle.sk_tree.specs.declared.expr.EForm.TheViews.{roll-EForm}
use Rattle.sk_tree.specs.declared.expr.EForm.TheFolds.{map-EForm}
use Rattle.sk_tree.specs.declared.expr.NewField.{NewField}
use Rattle.sk_prog.specs.declared.ty.Ty.{Ty}
use Rattle.sk_prog.specs.declared.ty.Ty.TheVariants as ty
use Rattle.sk_prog.specs.declared.ids.StructId.{StructId}
use Rattle.sk_prog.specs.declared.expr.BinOp.{BinOp}
use Rattle.sk_prog.specs.declared.expr.BinOp.TheVariants as op
use Rattle.sk_prog.specs.declared.expr.UnOp.{UnOp}
use Rattle.sk_prog.specs.declared.expr.UnOp.TheVariants as unary
use Rattle.sk_prog.specs.declared.prog.FieldDef.{FieldDef}
use Rattle.sk_prog.specs.declared.prog.StructDef.{StructDef}
use Rattle.sk_types_rules.specs.declared.rules.Own.{Own}
use Rattle.sk_types_rules.specs.declared.rules.Own.TheVariants.{Wrong, Loose, Firm}
use Rattle.sk_types_rules.specs.declared.rules.Class.{Class}
use Rattle.sk_types_rules.specs.declared.rules.Class.TheVariants.{Plus, Arithmetic, Order, Equality, Bitwise, Shift, Logic}
use Rattle.sk_types_rules.specs.declared.scope.Variable.{Variable}
use Rattle.sk_types_rules.specs.declared.scope.Place.{Place}
use Rattle.sk_types_rules.specs.Rules.{◌>>=◌, int, is_bit, is_integer, is_bits, is_bit_array, element_of, count_of, array_of, join, fits, firm_if, as_number, taken_as, joined_as, both_loose, operand, result_own, shifted, flipped, choice, operation_own, operator_of, unary_of}
use Rattle.sk_types_rules.specs.Scope.{lookup, Signature, Context, Meaning, AVariable, AStruct, AConstant, AFunction, Nothing, meaning_of, variable_or, top_meaning, struct_or, constant_or, function_or, field_of}
use Rattle.sk_types_rules.specs.Sorts.{Sort, wrong, named, firm_of, any_binary, any_unary, call_sort, is_harness, signature_meant, new_sort, struct_meant, member_of, reference_meant, array_meant, sliced, slice_of, eform_sort, sort, own}
use Rattle.sk_types_rules.proofs.Nearest.{lookup_nearest}
use Rattle.sk_types_rules.proofs.SortLaws.{form_sort, field_sort, form_sort_is, sort_is}
use Rattle.sk_types_laws.proofs.Ats.{expr_law}
use Rattle.sk_types_laws.proofs.OwnLaws.{binary_own}
use Rattle.sk_holes_laws.specs.Sizes.{Sized, AnySized, SizedScope, SizedStructs, SizedFuns}

abbrev pub OwnSized : Own → Type 0
OwnSized Wrong = Unit {0}
OwnSized Loose = Unit {0}
OwnSized (Firm u) = Sized u

-- Parts of types

pub element_sized : (t : Ty) → Sized t → AnySized (element_of t)
element_sized (ty.One a) h = tt
element_sized (ty.Array a n) h = tt
element_sized (ty.Grid a n m) h = h.0

array_sized : (t : Ty) (n : ℕ) → Sized t → 1 ≤ n → AnySized (array_of t n)
array_sized (ty.One a) n h k = k
array_sized (ty.Array a m) n h k = (h, k)
array_sized (ty.Grid a m l) n h k = tt

slice_sized : (t : Ty) (n : ℕ) → Sized t → AnySized (sliced t n)
slice_sized t n h = go (element_of t) (element_sized t h)
  where
    by_length : (u : Ty) → Sized u → (b c : Bool) → nat_le 1 n ≡ b → AnySized (if b && c then array_of u n else None)
    by_length u k true true is = array_sized u n k (leb-true 1 n is)
    by_length u k true false is = tt
    by_length u k false c is = tt

    go : (o : Option Ty) → AnySized o → AnySized (o >>= λ u. if nat_le 1 n && nat_le n (count_of t) then array_of u n else None)
    go None k = tt
    go (Some u) k = by_length u k (nat_le 1 n) (nat_le n (count_of t)) refl

-- Operators

if_sized : (b : Bool) (t : Ty) → Sized t → OwnSized (firm_if b t)
if_sized true t h = h
if_sized false t h = tt

number_sized : (t : Ty) → OwnSized (as_number t)
number_sized t = if_sized (is_bit t || is_integer t) int tt

summand_sized : (t : Ty) (b : Bool) → Sized t → OwnSized (if b then Firm t else as_number t)
summand_sized t true h = h
summand_sized t false h = number_sized t

taken_sized : (k : Class) (t : Ty) → Sized t → OwnSized (taken_as k t)
taken_sized Plus t h = summand_sized t (is_bit_array t) h
taken_sized Arithmetic t h = number_sized t
taken_sized Order t h = number_sized t
taken_sized Equality t h = h
taken_sized Bitwise t h = if_sized (is_bits t) t h
taken_sized Shift t h = tt
taken_sized Logic t h = tt

join_sized : (a b : Ty) → Sized a → Sized b → OwnSized (join a b)
join_sized a b h k = go (fits a b) (fits b a)
  where
    go : (x y : Bool) → OwnSized (if x then Firm b else (if y then Firm a else Wrong))
    go true y = k
    go false true = h
    go false false = tt

joined_sized : (k : Class) (o : Own) → OwnSized o → OwnSized (joined_as k o)
joined_sized k Wrong h = tt
joined_sized k Loose h = tt
joined_sized k (Firm t) h = taken_sized k t h

loose_sized : (k : Class) → OwnSized (both_loose k)
loose_sized Plus = tt
loose_sized Arithmetic = tt
loose_sized Order = tt
loose_sized Equality = tt
loose_sized Bitwise = tt
loose_sized Shift = tt
loose_sized Logic = tt

-- what an operator wants of two operands
pub operand_sized : (k : Class) (x y : Own) → OwnSized x → OwnSized y → OwnSized (operand k x y)
operand_sized k Wrong y h j = tt
operand_sized k Loose Wrong h j = tt
operand_sized k Loose Loose h j = loose_sized k
operand_sized k Loose (Firm v) h j = taken_sized k v j
operand_sized k (Firm u) Wrong h j = tt
operand_sized k (Firm u) Loose h j = taken_sized k u h
operand_sized k (Firm u) (Firm v) h j = joined_sized k (join u v) (join_sized u v h j)

result_sized : (k : Class) (o : Own) → OwnSized o → OwnSized (result_own k o)
result_sized k Wrong h = tt
result_sized k Loose h = tt
result_sized Plus (Firm t) h = h
result_sized Arithmetic (Firm t) h = h
result_sized Order (Firm t) h = tt
result_sized Equality (Firm t) h = tt
result_sized Bitwise (Firm t) h = h
result_sized Shift (Firm t) h = h
result_sized Logic (Firm t) h = tt

shifted_sized : (x : Own) → OwnSized x → OwnSized (shifted x)
shifted_sized Wrong h = tt
shifted_sized Loose h = tt
shifted_sized (Firm t) h = if_sized (is_bit_array t) t h

flipped_sized : (x : Own) → OwnSized x → OwnSized (flipped x)
flipped_sized Wrong h = tt
flipped_sized Loose h = tt
flipped_sized (Firm t) h = if_sized (is_bits t) t h

operation_sized : (o : BinOp) (x y : Own) → OwnSized x → OwnSized y → OwnSized (operation_own o x y)
operation_sized op.AndThen x y h j = tt
operation_sized op.OrElse x y h j = tt
operation_sized op.Shl x y h j = shifted_sized x h
operation_sized op.Shr x y h j = shifted_sized x h
operation_sized op.Mul x y h j = result_sized Arithmetic (operand Arithmetic x y) (operand_sized Arithmetic x y h j)
operation_sized op.Div x y h j = result_sized Arithmetic (operand Arithmetic x y) (operand_sized Arithmetic x y h j)
operation_sized op.Rem x y h j = result_sized Arithmetic (operand Arithmetic x y) (operand_sized Arithmetic x y h j)
operation_sized op.Add x y h j = result_sized Plus (operand Plus x y) (operand_sized Plus x y h j)
operation_sized op.Sub x y h j = result_sized Arithmetic (operand Arithmetic x y) (operand_sized Arithmetic x y h j)
operation_sized op.Lt x y h j = result_sized Order (operand Order x y) (operand_sized Order x y h j)
operation_sized op.Le x y h j = result_sized Order (operand Order x y) (operand_sized Order x y h j)
operation_sized op.Gt x y h j = result_sized Order (operand Order x y) (operand_sized Order x y h j)
operation_sized op.Ge x y h j = result_sized Order (operand Order x y) (operand_sized Order x y h j)
operation_sized op.Eq x y h j = result_sized Equality (operand Equality x y) (operand_sized Equality x y h j)
operation_sized op.Ne x y h j = result_sized Equality (operand Equality x y) (operand_sized Equality x y h j)
operation_sized op.And x y h j = result_sized Bitwise (operand Bitwise x y) (operand_sized Bitwise x y h j)
operation_sized op.Xor x y h j = result_sized Bitwise (operand Bitwise x y) (operand_sized Bitwise x y h j)
operation_sized op.Or x y h j = result_sized Bitwise (operand Bitwise x y) (operand_sized Bitwise x y h j)

any_binary_sized : (o : Option BinOp) (a b : Sort) → OwnSized a.own → OwnSized b.own → OwnSized (any_binary o a b).own
any_binary_sized None a b h j = tt
any_binary_sized (Some o) a b h j = subst OwnSized (sym (binary_own o a b)) (operation_sized o a.own b.own h j)

any_unary_sized : (o : Option UnOp) (a : Sort) → OwnSized a.own → OwnSized (any_unary o a).own
any_unary_sized None a h = tt
any_unary_sized (Some unary.Not) a h = tt
any_unary_sized (Some unary.Neg) a h = tt
any_unary_sized (Some unary.Flip) a h = flipped_sized a.own h

choice_sized : (x y : Own) → OwnSized x → OwnSized y → OwnSized (choice x y)
choice_sized Wrong y h j = tt
choice_sized Loose Wrong h j = tt
choice_sized Loose Loose h j = tt
choice_sized Loose (Firm v) h j = j
choice_sized (Firm u) Wrong h j = tt
choice_sized (Firm u) Loose h j = h
choice_sized (Firm u) (Firm v) h j = join_sized u v h j

any_sized : (o : Option Ty) (good : Bool) → AnySized o → OwnSized (firm_of o good).own
any_sized None good h = tt
any_sized (Some t) good h = h

module _ (context : Context) (scope : List Variable) (structs : SizedStructs context.top.structs) (funs : SizedFuns context.top.funs) (variables : SizedScope scope) where
  -- Names

  top_sized : (a b c : Option ℕ) → OwnSized (named (struct_or a (constant_or b (function_or c)))).own
  top_sized (Some i) b c = tt
  top_sized None (Some i) c = tt
  top_sized None None (Some i) = tt
  top_sized None None None = tt

  name_sized : (x : List ℕ) → OwnSized (named (meaning_of context.top scope x)).own
  name_sized x = go (lookup scope x) refl
    where
      go : (o : Option Place) → lookup scope x ≡ o → OwnSized (named (variable_or o (top_meaning context.top x))).own
      go None is = top_sized _ _ _
      go (Some v) is = variables v.slot _ (lookup_nearest scope x v is).there

  field_sized : (o : Option StructId) (x : List ℕ) → AnySized (member_of context.top o x)
  field_sized None x = tt
  field_sized (Some s) x = in_struct (slice_get context.top.structs s.index) refl
    where
      in_place : (d : StructDef) → slice_get context.top.structs s.index ≡ Some d → (i : ℕ) (o : Option FieldDef) → slice_get d.fields i ≡ o → AnySized (o >>= λ (f : FieldDef). Some f.ty)
      in_place d there i None is = tt
      in_place d there i (Some f) is = structs s.index d there i f is

      in_fields : (d : StructDef) → slice_get context.top.structs s.index ≡ Some d → (o : Option ℕ) → AnySized (o >>= λ i. slice_get d.fields i >>= λ (f : FieldDef). Some f.ty)
      in_fields d there None = tt
      in_fields d there (Some i) = in_place d there i (slice_get d.fields i) refl

      in_struct : (o : Option StructDef) → slice_get context.top.structs s.index ≡ o → AnySized (o >>= λ d. field_of d x >>= λ i. slice_get d.fields i >>= λ (f : FieldDef). Some f.ty)
      in_struct None is = tt
      in_struct (Some d) is = in_fields d is (field_of d x)

  callable_sized : (o : Option Signature) (f : ℕ) → slice_get context.top.funs f ≡ o → (es : List (Expr × Sort)) → OwnSized (call_sort scope o es).own
  callable_sized None f is es = tt
  callable_sized (Some g) f is es = go (is_harness g.kind) _
    where
      go : (b good : Bool) → OwnSized (if b then wrong else firm_of g.result good).own
      go true good = tt
      go false good = any_sized g.result good (funs f g is).result

  call_sized : (m : Meaning) (es : List (Expr × Sort)) → OwnSized (call_sort scope (signature_meant context.top m) es).own
  call_sized (AFunction f) es = callable_sized (slice_get context.top.funs f.index) f.index refl es
  call_sized (AVariable v) es = tt
  call_sized (AStruct s) es = tt
  call_sized (AConstant c) es = tt
  call_sized Nothing es = tt

  record_sized : (o : Option StructId) (xs : List (NewField × Sort)) → OwnSized (new_sort context.top o xs).own
  record_sized None xs = tt
  record_sized (Some s) xs = tt

  array_part : (x : Own) → OwnSized x → AnySized (array_meant x)
  array_part Wrong h = tt
  array_part Loose h = tt
  array_part (Firm u) h = element_sized u h

  slice_part : (x : Own) (o : Option ℕ) → OwnSized x → AnySized (slice_of x o)
  slice_part Wrong o h = tt
  slice_part Loose o h = tt
  slice_part (Firm u) None h = tt
  slice_part (Firm u) (Some n) h = slice_sized u n h

  number_is : (b : Bool) → OwnSized (if b then Loose else Firm int)
  number_is true = tt
  number_is false = tt

  abbrev FormSized : EForm → Type 0
  FormSized f = OwnSized (form_sort context scope f).own

  abbrev ExprSized : Expr → Type 0
  ExprSized e = OwnSized (own context scope e)

  abbrev FieldSized : NewField → Type 0
  FieldSized x = Unit {0}

  abbrev Above : Type 0
  Above = E.EForm-F ((f : EForm) × FormSized f) ((e : Expr) × ExprSized e) ((x : NewField) × FieldSized x)

  abbrev plain_layer : Above → E.EForm-F EForm Expr NewField
  plain_layer y = map-EForm ((f : EForm) × FormSized f) ((e : Expr) × ExprSized e) ((x : NewField) × FieldSized x) EForm Expr NewField (λ q. q.0) (λ q. q.0) (λ q. q.0) y

  abbrev sorted_layer : E.EForm-F EForm Expr NewField → E.EForm-F (EForm × Sort) (Expr × Sort) (NewField × Sort)
  sorted_layer l = map-EForm EForm Expr NewField (EForm × Sort) (Expr × Sort) (NewField × Sort) (λ f. (f, form_sort context scope f)) (λ e. (e, sort context scope e)) (λ x. (x, field_sort context scope x)) l

  -- the type that an expression has by itself has elements
  pub own_sized : (e : Expr) → ExprSized e
  own_sized = expr_law FormSized ExprSized FieldSized form_layer (λ e h. subst (λ (z : Sort). OwnSized z.own) (sym (sort_is context scope e)) h) (λ x h. tt)
    where
      go : (y : Above) → OwnSized (eform_sort context scope (sorted_layer (plain_layer y))).own
      go (E.Number n) = number_is (nat_lt n 2)
      go E.True = tt
      go E.False = tt
      go E.Null = tt
      go (E.Word x) = name_sized x
      go (E.Hole n) = tt
      go (E.Pattern g es) = tt
      go (E.Paren e) = e.1
      go (E.Call x es) = call_sized (meaning_of context.top scope x) _
      go (E.New x xs) = record_sized (struct_meant (meaning_of context.top scope x)) _
      go (E.Braces es) = tt
      go (E.Member e x) = any_sized _ _ (field_sized (reference_meant (own context scope e.0)) x)
      go (E.Index e i) = any_sized _ _ (array_part (own context scope e.0) e.1)
      go (E.Slice e i n) = any_sized _ _ (slice_part (own context scope e.0) _ e.1)
      go (E.Unary m e) = any_unary_sized (unary_of m) (sort context scope e.0) e.1
      go (E.Binary m a b) = any_binary_sized (operator_of m) (sort context scope a.0) (sort context scope b.0) a.1 b.1
      go (E.Cond c a b) = choice_sized (own context scope a.0) (own context scope b.0) a.1 b.1

      form_layer : (y : Above) → FormSized (roll-EForm (plain_layer y))
      form_layer y = subst (λ (z : Sort). OwnSized z.own) (sym (form_sort_is context scope (plain_layer y))) (go y)
