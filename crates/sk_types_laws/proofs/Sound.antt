-- What an expression becomes is what it means.
use Rattle.std.proofs.Common.{◌≡◌, ℕ, zero, suc, ◌≤◌, Bool, true, false, List, [], ◌∷◌, length, Option, Some, None, refl, sym, ap, subst, ◌∙◌, arith}
use Rattle.std.specs.Prelude.{◌&&◌, ◌||◌, not, map, nat_lt, nat_le, if◌then◌else◌, slice_get, IsTrue}
use Rattle.std.specs.Str.{bytes_eq}
use Rattle.std.proofs.lemmas.List.{length-map}
use Rattle.std.proofs.lemmas.Bool.{leb-true}
use Rattle.std.proofs.lemmas.Slice.Eq.{bytes_eq-Decides}
use Rattle.sk_tree.specs.declared.expr.Expr.{Expr}
use Rattle.sk_tree.specs.declared.expr.EForm.{EForm}
use Rattle.sk_tree.specs.declared.expr.EForm.TheVariants as eform
use Rattle.sk_tree.specs.declared.expr.EForm.TheOpen as E
use Rattle.sk_tree.specs.declared.expr.EForm.TheViews.{roll-EForm}
use Rattle.sk_tree.specs.declared.expr.EForm.TheFolds.{map-EForm}
use Rattle.sk_tree.specs.declared.expr.NewField.{NewField}
use Rattle.sk_prog.specs.declared.ty.Ty.{Ty}
use Rattle.sk_prog.specs.declared.ty.Ty.TheVariants as ty
use Rattle.sk_prog.specs.declared.ty.Elem.TheVariants as elem
use Rattle.sk_prog.specs.declared.ids.StructId.{StructId}
use Rattle.sk_prog.specs.declared.expr.BinOp.{BinOp}
use Rattle.sk_prog.specs.declared.expr.BinOp.TheVariants as op
use Rattle.sk_prog.specs.declared.expr.UnOp.{UnOp}
use Rattle.sk_prog.specs.declared.expr.UnOp.TheVariants as unary
use Rattle.sk_prog.specs.declared.expr.PExpr.{PExpr}
use Rattle.sk_prog.specs.declared.expr.PEForm.{PEForm}
use Rattle.sk_prog.specs.declared.expr.PEForm.TheVariants as pform
use Rattle.sk_prog.specs.declared.expr.PField.{PField}
use Rattle.sk_prog.specs.declared.expr.PEForm.TheOpen as P
use Rattle.sk_prog.specs.declared.expr.PEForm.TheViews.{roll-PEForm}
use Rattle.sk_prog.specs.declared.expr.PEForm.TheFolds.{rec-roll-PField}
use Rattle.sk_prog.specs.declared.prog.FieldDef.{FieldDef}
use Rattle.sk_prog.specs.declared.prog.StructDef.{StructDef}
use Rattle.sk_prog.specs.declared.prog.ParamDef.{ParamDef}
use Rattle.sk_types_rules.specs.declared.rules.Own.{Own}
use Rattle.sk_types_rules.specs.declared.rules.Own.TheVariants.{Wrong, Loose, Firm}
use Rattle.sk_types_rules.specs.declared.rules.Fit.{Fit}
use Rattle.sk_types_rules.specs.declared.rules.Fit.TheVariants.{Misfit, Same, Widens, Pads}
use Rattle.sk_types_rules.specs.declared.rules.Class.{Class}
use Rattle.sk_types_rules.specs.declared.rules.Class.TheVariants.{Plus, Arithmetic, Order, Equality, Bitwise, Shift, Logic}
use Rattle.sk_types_rules.specs.declared.scope.Variable.{Variable}
use Rattle.sk_types_rules.specs.declared.scope.Place.{Place}
use Rattle.sk_types_rules.specs.Rules.{◌>>=◌, only_if, int, bit, ty_eq, is_bit, is_integer, widens, pads, fit_of, is_bits, element_of, count_of, operator_of, unary_of, class_of, operand, loose_takes, result_of, result_own, operation_own, unary_own, shifted, flipped, number_stands, in_range}
use Rattle.sk_types_rules.specs.Scope.{lookup, Signature, Top, Context, Meaning, AVariable, AConstant, AStruct, AFunction, Nothing, variable_or, struct_or, constant_or, function_or, top_meaning, next_place, place_of, meaning_of, field_of, all_distinct}
use Rattle.sk_types_rules.specs.Constants.{constant_number}
use Rattle.sk_types_rules.specs.Sorts.{Sort, named, struct_meant, variable_type, is_some_type, reference_to, reference_meant, field_type, member_of, array_meant, slice_of, sliced, new_sort, any_unary, any_binary, own_at, may_keep, keeps, kept, is_harness, sort, own}
use Rattle.sk_types_rules.specs.Types.{EFormRule, ExprRule, FieldRule, Wanted, MeansOperation, MeansBinary, MeansUnary, EachMeans, MayBeRef, ArgumentsMean, FieldsMean, IsMore, IsField, eform_means, expr_means, field_means, Means, IsAt, is_bare}
use Rattle.sk_types_rules.proofs.Nearest.{lookup_nearest}
use Rattle.sk_types_rules.proofs.SortLaws.{form_sort, field_sort, form_sort_is, sort_is}
use Rattle.sk_types_rules.proofs.Layers.{FormMeans, FieldMeans, rule, form_means_are, means_from}
use Rattle.sk_types_laws.specs.declared.found.Found.{Found}
use Rattle.sk_types_laws.specs.declared.found.View.{View}
use Rattle.sk_types_laws.specs.declared.found.Wants.{Wants}
use Rattle.sk_types_laws.specs.Owns.{own_type, callee_result}
use Rattle.sk_types_laws.specs.Elaborate.{At, FormAt, typed, coerced, firm_at, named_at, all_at, element_wanted, string_at, with_string, strings_at, pattern_at, may_pass, argument_at, arguments_at, Setting, field_found, setting_at, settings_at, Callee, callable, callee_meant, called, call_at, record_form, record_at, member_found, member_at, viewed, indexed, cut, flip_wants, unary_wants, operands_want, shift_wants, binary_wants, item_of, argument_of, setting_of, at_of, form_at, at, field_at}
use Rattle.sk_types_laws.proofs.OwnLaws.{firm_own, binary_own, unary_own_is, call_own}
use Rattle.sk_types_laws.proofs.Ats.{both_true, ty_same, fit_same, bind_some, some_same, if_some, expr_law, form_at_is, at_is, field_at_is}
use Rattle.sk_types_laws.proofs.Stands.{is_some, kept_string}
use Rattle.sk_types_laws.proofs.Bare.{form_bare, form_bare_is, is_bare_is, sorted, placed}

-- What a fit says of the types

abbrev Says : Fit → Ty → Ty → Type 0
Says Misfit u t = Unit {0}
Says Same u t = u ≡ t
Says Widens u t = (u ≡ bit) × (t ≡ int)
Says Pads u t = Unit {0}

bit_is : (u : Ty) → is_bit u ≡ true → u ≡ bit
bit_is (ty.One elem.Bit) e = refl
bit_is (ty.One elem.Int) e = cc
bit_is (ty.One (elem.Reference r)) e = cc
bit_is (ty.Array a n) e = cc
bit_is (ty.Grid a n m) e = cc

int_is : (u : Ty) → is_integer u ≡ true → u ≡ int
int_is (ty.One elem.Bit) e = cc
int_is (ty.One elem.Int) e = refl
int_is (ty.One (elem.Reference r)) e = cc
int_is (ty.Array a n) e = cc
int_is (ty.Grid a n m) e = cc

fit_cases : (u t : Ty) (a b c : Bool) → ty_eq u t ≡ a → (is_bit u && is_integer t) ≡ b → Says (if a then Same else (if b then Widens else (if c then Pads else Misfit))) u t
fit_cases u t true b c e f = ty_same u t e
fit_cases u t false true c e f = let h = both_true _ _ f in (bit_is u h.0, int_is t h.1)
fit_cases u t false false true e f = tt
fit_cases u t false false false e f = tt

fit_says : (u t : Ty) → Says (fit_of u t) u t
fit_says u t = fit_cases u t (ty_eq u t) (widens u t) (pads u t) refl refl

-- Places in lists

place_more : (zs : List FieldDef) (x : List ℕ) → ((i : ℕ) (y : FieldDef) → place_of (map (λ (y : FieldDef). y.name) zs) x ≡ Some i → slice_get zs i ≡ Some y → y.name ≡ x) → (z : FieldDef) (i : ℕ) (y : FieldDef) → place_of (map (λ (y : FieldDef). y.name) (z ∷ zs)) x ≡ Some i → slice_get (z ∷ zs) i ≡ Some y → y.name ≡ x
place_more zs x rest z i y p e = go (bytes_eq z.name x) refl p
  where
    later : (o : Option ℕ) → place_of (map (λ (y : FieldDef). y.name) zs) x ≡ o → (i : ℕ) → next_place o ≡ Some i → slice_get (z ∷ zs) i ≡ Some y → y.name ≡ x
    later None is i p e = cc
    later (Some j) is zero p e = cc
    later (Some j) is (suc i) p e = let same : j ≡ i = cc in rest i y (is ∙ ap Some same) e

    go : (b : Bool) → bytes_eq z.name x ≡ b → (if b then Some 0 else next_place (place_of (map (λ (y : FieldDef). y.name) zs) x)) ≡ Some i → y.name ≡ x
    go true is p =
        let zero_is : 0 ≡ i = cc in
        let same : z ≡ y = some_same _ _ (ap (slice_get (z ∷ zs)) zero_is ∙ e) in
        sym (ap (λ (y : FieldDef). y.name) same) ∙ (bytes_eq-Decides z.name x).0 is
    go false is p = later (place_of (map (λ (y : FieldDef). y.name) zs) x) refl i p e

place_found : (xs : List FieldDef) (x : List ℕ) (i : ℕ) (y : FieldDef) → place_of (map (λ (y : FieldDef). y.name) xs) x ≡ Some i → slice_get xs i ≡ Some y → y.name ≡ x
place_found [] x i y p e = cc
place_found (z ∷ zs) x i y p e = place_more zs x (place_found zs x) z i y p e

field_means_found : (d : StructDef) (x : List ℕ) (y : Found) → field_found d x ≡ Some y → IsField d y.field x y.ty
field_means_found d x y h =
    let i = bind_some (field_of d x) _ y h in
    let f = bind_some (slice_get d.fields i.0) _ y i.2 in
    let is : record { field = i.0; ty = f.0.ty } ≡ y = some_same _ _ f.2 in
    let name : f.0.name ≡ x = place_found d.fields x i.0 f.0 i.1 f.1 in
    record { there = ap (slice_get d.fields) (sym (ap (λ (y : Found). y.field) is)) ∙ f.1 ∙ (λ k. Some (record { name = name k; ty = ap (λ (y : Found). y.ty) is k })) }

-- Operators

loose_result : (k : Class) (t : Ty) → loose_takes k t ≡ true → result_of k t ≡ t
loose_result Plus t e = refl
loose_result Bitwise t e = refl
loose_result Arithmetic t e = cc
loose_result Order t e = cc
loose_result Equality t e = cc
loose_result Shift t e = cc
loose_result Logic t e = cc

only_parts : {A : Type 0} (b : Bool) (x y : A) → only_if b x ≡ Some y → (b ≡ true) × (x ≡ y)
only_parts true x y e = (refl, some_same x y e)
only_parts false x y e = cc

-- What an operator wants is by its rule: the operand type u, and where the result is coerced, its own type.
abbrev OwnResult : Own → Wants → Ty → Type 0
OwnResult Wrong w t = ⊥
OwnResult Loose w t = w.result ≡ t
OwnResult (Firm u) w t = u ≡ w.result

pub record Asked (k : Class) (x y own : Own) (t : Ty) (w : Wants) : Type 0 where
  pub u : Ty
  pub means : (a b : Option Ty) → a ≡ Some w.left → b ≡ Some w.right → MeansBinary k x y u a b (Some w.result)
  pub result : OwnResult own w t

operands_asked : (k : Class) (x y : Own) (o : Own) → operand k x y ≡ o → (t : Ty) (w : Wants) → operands_want k o t ≡ Some w → (u : Ty) × ((w.left ≡ u) × (w.right ≡ u) × (w.result ≡ result_of k u) × Wanted (operand k x y) (loose_takes k u) u × OwnResult (result_own k o) w t)
operands_asked k x y Wrong is t w e = cc
operands_asked k x y Loose is t w e =
    let h = only_parts (loose_takes k t) (record { left = t; right = t; result = t }) w e in
    (t, (sym (ap (λ (w : Wants). w.left) h.1), sym (ap (λ (w : Wants). w.right) h.1), sym (ap (λ (w : Wants). w.result) h.1) ∙ sym (loose_result k t h.0), subst (λ o. Wanted o (loose_takes k t) t) (sym is) h.0, sym (ap (λ (w : Wants). w.result) h.1)))
operands_asked k x y (Firm u) is t w e =
    let h = some_same _ _ e in
    (u, (sym (ap (λ (w : Wants). w.left) h), sym (ap (λ (w : Wants). w.right) h), sym (ap (λ (w : Wants). w.result) h), subst (λ o. Wanted o (loose_takes k u) u) (sym is) refl, ap (λ (w : Wants). w.result) h))

operation_means : (k : Class) (x y : Own) (t : Ty) (w : Wants) (u : Ty) → w.left ≡ u → w.right ≡ u → w.result ≡ result_of k u → Wanted (operand k x y) (loose_takes k u) u → (a b : Option Ty) → a ≡ Some w.left → b ≡ Some w.right → MeansOperation k x y u a b (Some w.result)
operation_means k x y t w u l r result wanted a b ha hb = record { wanted = wanted; left = ha ∙ ap Some l; right = hb ∙ ap Some r; result = ap Some result }

shift_asked : (x y : Own) (o : Own) → shifted x ≡ o → (t : Ty) (w : Wants) → shift_wants o ≡ Some w → Asked Shift x y o t w
shift_asked x y Wrong is t w e = cc
shift_asked x y Loose is t w e = cc
shift_asked x y (Firm u) is t w e =
    let h = some_same _ _ e in
    record {
      u = u;
      means = λ a b ha hb. record { shifted = is; left = ha ∙ ap Some (sym (ap (λ (w : Wants). w.left) h)); right = hb ∙ ap Some (sym (ap (λ (w : Wants). w.right) h)); result = ap Some (sym (ap (λ (w : Wants). w.result) h)) };
      result = ap (λ (w : Wants). w.result) h;
    }

logic_asked : (x y : Own) (t : Ty) (w : Wants) → Some (record { left = bit; right = bit; result = bit }) ≡ Some w → Asked Logic x y (Firm bit) t w
logic_asked x y t w e =
    let h = some_same _ _ e in
    record {
      u = bit;
      means = λ a b ha hb. record { left = ha ∙ ap Some (sym (ap (λ (w : Wants). w.left) h)); right = hb ∙ ap Some (sym (ap (λ (w : Wants). w.right) h)); result = ap Some (sym (ap (λ (w : Wants). w.result) h)) };
      result = ap (λ (w : Wants). w.result) h;
    }

-- the own type of an operation of this class
abbrev class_own : Class → Own → Own → Own
class_own Shift x y = shifted x
class_own Logic x y = Firm bit
class_own k x y = result_own k (operand k x y)

asked : (k : Class) (x y : Own) (t : Ty) (w : Wants) → binary_wants k x y t ≡ Some w → Asked k x y (class_own k x y) t w
asked Plus x y t w e = let h = operands_asked Plus x y (operand Plus x y) refl t w e in record { u = h.0; means = operation_means Plus x y t w h.0 h.1.0 h.1.1 h.1.2 h.1.3; result = h.1.4 }
asked Arithmetic x y t w e = let h = operands_asked Arithmetic x y (operand Arithmetic x y) refl t w e in record { u = h.0; means = operation_means Arithmetic x y t w h.0 h.1.0 h.1.1 h.1.2 h.1.3; result = h.1.4 }
asked Order x y t w e = let h = operands_asked Order x y (operand Order x y) refl t w e in record { u = h.0; means = operation_means Order x y t w h.0 h.1.0 h.1.1 h.1.2 h.1.3; result = h.1.4 }
asked Equality x y t w e = let h = operands_asked Equality x y (operand Equality x y) refl t w e in record { u = h.0; means = operation_means Equality x y t w h.0 h.1.0 h.1.1 h.1.2 h.1.3; result = h.1.4 }
asked Bitwise x y t w e = let h = operands_asked Bitwise x y (operand Bitwise x y) refl t w e in record { u = h.0; means = operation_means Bitwise x y t w h.0 h.1.0 h.1.1 h.1.2 h.1.3; result = h.1.4 }
asked Shift x y t w e = shift_asked x y (shifted x) refl t w e
asked Logic x y t w e = logic_asked x y t w e

flip_asked : (x : Own) (o : Own) → flipped x ≡ o → (t u : Ty) → flip_wants o t ≡ Some u → MeansUnary unary.Flip x u × OwnResult o (record { left = u; right = u; result = u }) t
flip_asked x Wrong is t u e = cc
flip_asked x Loose is t u e =
    let h = only_parts (is_bits t) t u e in
    (subst (λ o. Wanted o (is_bits u) u) (sym is) (ap is_bits (sym h.1) ∙ h.0), sym h.1)
flip_asked x (Firm v) is t u e =
    let h : v ≡ u = some_same _ _ e in
    (subst (λ o. Wanted o (is_bits u) u) (sym is) h, h)

unary_asked : (o : UnOp) (x : Own) (t u : Ty) → unary_wants o x t ≡ Some u → MeansUnary o x u × OwnResult (unary_own o x) (record { left = u; right = u; result = u }) t
unary_asked unary.Not x t u e = (sym (some_same _ _ e), some_same _ _ e)
unary_asked unary.Neg x t u e = (sym (some_same _ _ e), some_same _ _ e)
unary_asked unary.Flip x t u e = flip_asked x (flipped x) refl t u e

class_is : (o : BinOp) (x y : Own) → operation_own o x y ≡ class_own (class_of o) x y
class_is op.Mul x y = refl
class_is op.Div x y = refl
class_is op.Rem x y = refl
class_is op.Add x y = refl
class_is op.Sub x y = refl
class_is op.Shl x y = refl
class_is op.Shr x y = refl
class_is op.Lt x y = refl
class_is op.Le x y = refl
class_is op.Gt x y = refl
class_is op.Ge x y = refl
class_is op.Eq x y = refl
class_is op.Ne x y = refl
class_is op.And x y = refl
class_is op.Xor x y = refl
class_is op.Or x y = refl
class_is op.AndThen x y = refl
class_is op.OrElse x y = refl

-- Names, structs and arrays

no_variable : (top : Top) (x : List ℕ) (v : Place) → top_meaning top x ≡ AVariable v → ⊥
no_variable top x v h = of_struct (place_of (map (λ (d : StructDef). d.name) top.structs) x) (place_of top.consts x) (place_of (map (λ (s : Signature). s.name) top.funs) x) h
  where
    of_struct : (o q r : Option ℕ) → struct_or o (constant_or q (function_or r)) ≡ AVariable v → ⊥
    of_struct (Some i) q r h = cc
    of_struct None (Some i) r h = cc
    of_struct None None (Some i) h = cc
    of_struct None None None h = cc

pub callee_found : (top : Top) (m : Meaning) (g : Callee) → callee_meant top m ≡ Some g → (m ≡ AFunction g.id) × ((slice_get top.funs g.id.index ≡ Some g.signature) × (is_harness g.signature.kind ≡ false))
callee_found top (AVariable v) g e = cc
callee_found top (AStruct r) g e = cc
callee_found top (AConstant c) g e = cc
callee_found top Nothing g e = cc
callee_found top (AFunction f) g e = go (slice_get top.funs f.index) refl e
  where
    kind : (z : Signature) → slice_get top.funs f.index ≡ Some z → (b : Bool) → is_harness z.kind ≡ b → (if b then None else Some (record { id = f; signature = z })) ≡ Some g → (AFunction f ≡ AFunction g.id) × ((slice_get top.funs g.id.index ≡ Some g.signature) × (is_harness g.signature.kind ≡ false))
    kind z is true k e = cc
    kind z is false k e =
        let same : record { id = f; signature = z } ≡ g = some_same _ _ e in
        subst (λ (g : Callee). (AFunction f ≡ AFunction g.id) × ((slice_get top.funs g.id.index ≡ Some g.signature) × (is_harness g.signature.kind ≡ false))) same (refl, (is, k))

    go : (o : Option Signature) → slice_get top.funs f.index ≡ o → callable f o ≡ Some g → (AFunction f ≡ AFunction g.id) × ((slice_get top.funs g.id.index ≡ Some g.signature) × (is_harness g.signature.kind ≡ false))
    go None is e = cc
    go (Some z) is e = kind z is (is_harness z.kind) refl e

struct_found : (m : Meaning) (r : StructId) → struct_meant m ≡ Some r → m ≡ AStruct r
struct_found (AStruct s) r e = ap AStruct (some_same _ _ e)
struct_found (AVariable v) r e = cc
struct_found (AConstant c) r e = cc
struct_found (AFunction f) r e = cc
struct_found Nothing r e = cc

reference_found : (o : Own) (r : StructId) → reference_meant o ≡ Some r → o ≡ Firm (reference_to r)
reference_found Wrong r e = cc
reference_found Loose r e = cc
reference_found (Firm (ty.One elem.Bit)) r e = cc
reference_found (Firm (ty.One elem.Int)) r e = cc
reference_found (Firm (ty.One (elem.Reference s))) r e = ap (λ r. Firm (reference_to r)) (some_same _ _ e)
reference_found (Firm (ty.Array a n)) r e = cc
reference_found (Firm (ty.Grid a n m)) r e = cc

view_found : (u : Ty) (o : Option Ty) (v : View) → viewed u o ≡ Some v → (u ≡ v.whole) × (o ≡ Some v.part)
view_found u None v e = cc
view_found u (Some r) v e =
    let same : record { whole = u; part = r } ≡ v = some_same _ _ e in
    (ap (λ (v : View). v.whole) same, ap (λ (v : View). Some v.part) same)

index_found : (o : Own) (v : View) → indexed o ≡ Some v → (o ≡ Firm v.whole) × (element_of v.whole ≡ Some v.part)
index_found Wrong v e = cc
index_found Loose v e = cc
index_found (Firm u) v e = let h = view_found u (element_of u) v e in (ap Firm h.0, ap element_of (sym h.0) ∙ h.1)

cut_found : (o : Own) (n : ℕ) (v : View) → cut o n ≡ Some v → (o ≡ Firm v.whole) × (sliced v.whole n ≡ Some v.part)
cut_found Wrong n v e = cc
cut_found Loose n v e = cc
cut_found (Firm u) n v e = let h = view_found u (sliced u n) v e in (ap Firm h.0, ap (λ u. sliced u n) (sym h.0) ∙ h.1)

member_type : (top : Top) (r : StructId) (x : List ℕ) (y : Found) → member_found top r x ≡ Some y → field_type top r x ≡ Some y.ty
member_type top r x y e = of_struct (slice_get top.structs r.index) e
  where
    of_field : (i : ℕ) (o : Option FieldDef) → (o >>= λ (z : FieldDef). Some (record { field = i; ty = z.ty })) ≡ Some y → (o >>= λ (z : FieldDef). Some z.ty) ≡ Some y.ty
    of_field i None e = cc
    of_field i (Some z) e = ap (λ (y : Found). Some y.ty) (some_same _ _ e)

    of_place : (d : StructDef) (o : Option ℕ) → (o >>= λ i. slice_get d.fields i >>= λ (z : FieldDef). Some (record { field = i; ty = z.ty })) ≡ Some y → (o >>= λ i. slice_get d.fields i >>= λ (z : FieldDef). Some z.ty) ≡ Some y.ty
    of_place d None e = cc
    of_place d (Some i) e = of_field i (slice_get d.fields i) e

    of_struct : (o : Option StructDef) → (o >>= λ (d : StructDef). field_found d x) ≡ Some y → (o >>= λ (d : StructDef). field_of d x >>= λ i. slice_get d.fields i >>= λ (z : FieldDef). Some z.ty) ≡ Some y.ty
    of_struct None e = cc
    of_struct (Some d) e = of_place d (field_of d x) e

type_found : (o : Option Ty) (t : Ty) → is_some_type o t ≡ true → o ≡ Some t
type_found None t e = cc
type_found (Some u) t e = ap Some (ty_same u t e)

is_more : (n : ℕ) (ps : List PExpr) → 1 ≤ n → n ≡ length ps → IsMore ps
is_more n [] h e = absurd (omega (arith, h, e))
is_more n (p ∷ ps) h e = tt

-- Expressions

module _ (context : Context) (scope : List Variable) where
  abbrev Good : Ty → PExpr → Expr → Type 0
  Good t p e = IsAt context scope t p e

  abbrev at_tree : Expr → At
  at_tree = at context scope

  abbrev own_tree : Expr → Own
  own_tree = own context scope

  -- what is made of a layer
  made : (l : P.PEForm-F PEForm PExpr PField) (g : PEForm) → roll-PEForm l ≡ g → (e : Expr) (t : Ty) (p : PExpr) → typed e.span t g ≡ p → rule context scope l (Some t) e → Good t p e
  made l g is e t p to r = subst (λ p. Good t p e) to (record { means = means_from context scope (typed e.span t g) e refl (subst (λ g. FormMeans context scope g (Some t) e) is (subst (λ (M : EFormRule). M (Some t) e) (sym (form_means_are context scope l)) r)); type = refl })

  fitted : (e : Expr) (u t : Ty) (g : PEForm) (p : PExpr) → Good u (typed e.span u g) e → is_bare e ≡ true → own_tree e ≡ Firm u → (k : Fit) → fit_of u t ≡ k → coerced k t (typed e.span u g) ≡ Some p → Good t p e
  fitted e u t g p good bare own Misfit fit h = cc
  fitted e u t g p good bare own Same fit h =
      let same : u ≡ t = subst (λ k. Says k u t) fit (fit_says u t) in
      subst (λ t. Good t p e) same (subst (λ p. Good u p e) (some_same _ _ h) good)
  fitted e u t g p good bare own Widens fit h =
      let w = subst (λ k. Says k u t) fit (fit_says u t) in
      made (P.ToInt (typed e.span u g)) (pform.ToInt (typed e.span u g)) (pform.rolls-ToInt (typed e.span u g)) e t p (some_same _ _ h) (good.means, bare, record { own = own ∙ ap Firm w.0; operand = good.type ∙ ap Some w.0; result = ap Some w.1 })
  fitted e u t g p good bare own Pads fit h =
      made (P.Pad (typed e.span u g)) (pform.Pad (typed e.span u g)) (pform.rolls-Pad (typed e.span u g)) e t p (some_same _ _ h) (good.means, bare, record { from = u; to = t; own = own; operand = good.type; result = refl; fit = fit })

  firm_sound : (l : P.PEForm-F PEForm PExpr PField) (g : PEForm) → roll-PEForm l ≡ g → (e : Expr) → is_bare e ≡ true → (u : Ty) → own_tree e ≡ Firm u → rule context scope l (Some u) e → (t : Ty) (p : PExpr) → firm_at u (Some g) e.span t ≡ Some p → Good t p e
  firm_sound l g is e bare u own r t p h = fitted e u t g p (made l g is e u (typed e.span u g) refl r) bare own (fit_of u t) refl h

  loose_sound : (l : P.PEForm-F PEForm PExpr PField) (g : PEForm) → roll-PEForm l ≡ g → (e : Expr) (u : Ty) → rule context scope l (Some u) e → (t : Ty) → u ≡ t → (p : PExpr) → firm_at u (Some g) e.span t ≡ Some p → Good t p e
  loose_sound l g is e u r t same p h =
      let to : firm_at u (Some g) e.span u ≡ Some p = ap (λ t. firm_at u (Some g) e.span t) same ∙ h in
      let it : typed e.span u g ≡ p = some_same _ _ (sym (ap (λ k. coerced k u (typed e.span u g)) (fit_same u)) ∙ to) in
      subst (λ t. Good t p e) same (made l g is e u p it r)

  -- by the own type, where an operator's result is loose or of this type
  asked_sound : (l : P.PEForm-F PEForm PExpr PField) (g : PEForm) → roll-PEForm l ≡ g → (e : Expr) → is_bare e ≡ true → (w : Wants) (t : Ty) (o : Own) → own_tree e ≡ o → OwnResult o w t → rule context scope l (Some w.result) e → (p : PExpr) → firm_at w.result (Some g) e.span t ≡ Some p → Good t p e
  asked_sound l g is e bare w t Wrong own a r p h = absurd a
  asked_sound l g is e bare w t Loose own a r p h = loose_sound l g is e w.result r t a p h
  asked_sound l g is e bare w t (Firm u) own a r p h = firm_sound l g is e bare w.result (own ∙ ap Firm a) r t p h

  own_layer : (e : Expr) (l : E.EForm-F EForm Expr NewField) → e.form ≡ roll-EForm l → own_tree e ≡ (sorted context scope l).own
  own_layer e l is = ap (λ (z : Sort). z.own) (sort_is context scope e ∙ ap (form_sort context scope) is ∙ form_sort_is context scope l)

  bare_layer : (e : Expr) (l : E.EForm-F EForm Expr NewField) → e.form ≡ roll-EForm l → is_bare e ≡ form_bare (roll-EForm l)
  bare_layer e l is = is_bare_is e ∙ ap form_bare is

  abbrev FormSound : EForm → Type 0
  FormSound f = (e : Expr) → e.form ≡ f → (t : Ty) (p : PExpr) → form_at context scope f e.span t ≡ Some p → Good t p e

  abbrev ExprSound : Expr → Type 0
  ExprSound e = (t : Ty) (p : PExpr) → at_tree e t ≡ Some p → Good t p e

  abbrev FieldSound : NewField → Type 0
  FieldSound x = (t : Ty) (p : PExpr) → field_at context scope x t ≡ Some p → Good t p x.value

  abbrev Sounded : Type 0
  Sounded = (e : Expr) × ExprSound e

  abbrev SoundedField : Type 0
  SoundedField = (x : NewField) × FieldSound x

  abbrev with_ats : List Expr → List (Expr × At)
  with_ats es = map (λ e. (e, at_tree e)) es

  abbrev sounding : E.EForm-F ((f : EForm) × FormSound f) Sounded SoundedField → E.EForm-F EForm Expr NewField
  sounding y = map-EForm ((f : EForm) × FormSound f) Sounded SoundedField EForm Expr NewField (λ q. q.0) (λ q. q.0) (λ q. q.0) y

  -- Lists

  all_sound : (u : Ty) (es : List Sounded) (ps : List PExpr) → all_at u (map (at_of context scope) (with_ats (map (λ q. q.0) es))) ≡ Some ps → EachMeans (λ p. p) (Means context scope) u ps (map (λ q. q.0) es)
  all_sound u [] ps h = subst (λ ps. EachMeans (λ p. p) (Means context scope) u ps []) (some_same _ _ h) tt
  all_sound u (e ∷ es) ps h =
      let a = bind_some (at_tree e.0 u) _ ps h in
      let b = bind_some (all_at u (map (at_of context scope) (with_ats (map (λ q. q.0) es)))) _ ps a.2 in
      let good = e.1 u a.0 a.1 in
      subst (λ ps. EachMeans (λ p. p) (Means context scope) u ps (map (λ q. q.0) (e ∷ es))) (some_same _ _ b.2) (good.means, good.type, all_sound u es b.0 b.1)

  each_length : (u : Ty) (ps : List PExpr) (es : List Expr) → EachMeans (λ p. p) (Means context scope) u ps es → length es ≡ length ps
  each_length u [] [] m = refl
  each_length u (p ∷ ps) (e ∷ es) m = ap suc (each_length u ps es m.2)
  each_length u [] (e ∷ es) m = absurd m
  each_length u (p ∷ ps) [] m = absurd m

  strings_sound : (t : Ty) (es : List Sounded) → EachMeans (λ p. p) (Means context scope) t (strings_at t (map (item_of context scope) (with_ats (map (λ q. q.0) es)))) (kept context scope t (map (λ q. q.0) es))
  strings_sound t [] = tt
  strings_sound t (e ∷ es) = one (string_at t (item_of context scope (e.0, at_tree e.0))) refl (strings_sound t es)
    where
      one : (o : Option PExpr) → string_at t (item_of context scope (e.0, at_tree e.0)) ≡ o → EachMeans (λ p. p) (Means context scope) t (strings_at t (map (item_of context scope) (with_ats (map (λ q. q.0) es)))) (kept context scope t (map (λ q. q.0) es)) → EachMeans (λ p. p) (Means context scope) t (with_string o (strings_at t (map (item_of context scope) (with_ats (map (λ q. q.0) es))))) (if keeps (sort context scope e.0) t then e.0 ∷ (kept context scope t (map (λ q. q.0) es)) else (kept context scope t (map (λ q. q.0) es)))
      one None is m = subst (λ b. EachMeans (λ p. p) (Means context scope) t (strings_at t (map (item_of context scope) (with_ats (map (λ q. q.0) es)))) (if b then e.0 ∷ (kept context scope t (map (λ q. q.0) es)) else (kept context scope t (map (λ q. q.0) es)))) (sym (kept_string context scope t e.0 ∙ ap is_some is)) m
      one (Some p) is m =
          let a = if_some (may_keep (own_tree e.0) t) (at_tree e.0 t) p is in
          let good = e.1 t p a.1 in
          subst (λ b. EachMeans (λ p. p) (Means context scope) t (p ∷ (strings_at t (map (item_of context scope) (with_ats (map (λ q. q.0) es))))) (if b then e.0 ∷ (kept context scope t (map (λ q. q.0) es)) else (kept context scope t (map (λ q. q.0) es)))) (sym (kept_string context scope t e.0 ∙ ap is_some is)) (good.means, good.type, m)

  pub ref_sound : (d : ParamDef) (f : EForm) → may_pass d (variable_type scope f) ≡ true → MayBeRef d.by_ref scope d.ty f
  ref_sound d f h = go d.by_ref h
    where
      go : (b : Bool) → (not b || is_some_type (variable_type scope f) d.ty) ≡ true → MayBeRef b scope d.ty f
      go false h = tt
      go true h = type_found (variable_type scope f) d.ty h

  arguments_sound : (ds : List ParamDef) (es : List Sounded) (ps : List PExpr) → arguments_at ds (map (argument_of context scope) (with_ats (map (λ q. q.0) es))) ≡ Some ps → ArgumentsMean (λ p. p) (Means context scope) scope ds ps (map (λ q. q.0) es)
  arguments_sound [] [] ps h = subst (λ ps. ArgumentsMean (λ p. p) (Means context scope) scope [] ps []) (some_same _ _ h) tt
  arguments_sound [] (e ∷ es) ps h = cc
  arguments_sound (d ∷ ds) [] ps h = cc
  arguments_sound (d ∷ ds) (e ∷ es) ps h =
      let a = bind_some (argument_at d (argument_of context scope (e.0, at_tree e.0))) _ ps h in
      let b = bind_some (arguments_at ds (map (argument_of context scope) (with_ats (map (λ q. q.0) es)))) _ ps a.2 in
      let c = if_some (may_pass d (variable_type scope e.0.form)) (at_tree e.0 d.ty) a.0 a.1 in
      let good = e.1 d.ty a.0 c.1 in
      subst (λ ps. ArgumentsMean (λ p. p) (Means context scope) scope (d ∷ ds) ps (map (λ q. q.0) (e ∷ es))) (some_same _ _ b.2) (good.means, good.type, ref_sound d e.0.form c.0, arguments_sound ds es b.0 b.1)

  field_means_is : (q : PField) → FieldMeans context scope q ≡ (λ d x. (t : Ty) × IsField d q.field x.name t × Means context scope q.value x.value × (q.value.ty ≡ Some t))
  field_means_is q = rec-roll-PField EFormRule ExprRule FieldRule (eform_means context scope) (expr_means context scope) (field_means context scope) (λ X Y Z u v w f k n x. refl) (record { field = q.field; value = q.value })

  settings_sound : (d : StructDef) (xs : List SoundedField) (qs : List PField) → settings_at d (map (setting_of context scope) (map (λ x. (x, field_at context scope x)) (map (λ q. q.0) xs))) ≡ Some qs → FieldsMean (FieldMeans context scope) d qs (map (λ q. q.0) xs)
  settings_sound d [] qs h = subst (λ qs. FieldsMean (FieldMeans context scope) d qs []) (some_same _ _ h) tt
  settings_sound d (x ∷ xs) qs h =
      let a = bind_some (setting_at d (setting_of context scope (x.0, field_at context scope x.0))) _ qs h in
      let b = bind_some (settings_at d (map (setting_of context scope) (map (λ x. (x, field_at context scope x)) (map (λ q. q.0) xs)))) _ qs a.2 in
      let f = bind_some (field_found d x.0.name) _ a.0 a.1 in
      let v = bind_some (field_at context scope x.0 f.0.ty) _ a.0 f.2 in
      let good = x.1 f.0.ty v.0 v.1 in
      let q : PField = record { field = f.0.field; value = v.0 } in
      let one = subst (λ (M : FieldRule). M d x.0) (sym (field_means_is q)) (f.0.ty, field_means_found d x.0.name f.0 f.1, good.means, good.type) in
      let first = subst (λ q. FieldMeans context scope q d x.0) (some_same _ _ v.2) one in
      subst (λ qs. FieldsMean (FieldMeans context scope) d qs (map (λ q. q.0) (x ∷ xs))) (some_same _ _ b.2) (first, settings_sound d xs b.0 b.1)

  -- Forms

  number_sound : (n : ℕ) (e : Expr) → e.form ≡ roll-EForm (E.Number n) → IsTrue (in_range context.bounds n) → (b : Bool) → nat_lt n 2 ≡ b → (t : Ty) (p : PExpr) → (if b then only_if (number_stands n t) (typed e.span t (pform.Number n)) else firm_at int (Some (pform.Number n)) e.span t) ≡ Some p → Good t p e
  number_sound n e is r true b t p h =
      let k = only_parts _ _ _ h in
      made (P.Number n) (pform.Number n) (pform.rolls-Number n) e t p k.1 (is ∙ eform.rolls-Number n, r, k.0)
  number_sound n e is r false b t p h =
      firm_sound (P.Number n) (pform.Number n) (pform.rolls-Number n) e (bare_layer e (E.Number n) is ∙ form_bare_is (E.Number n)) int (own_layer e (E.Number n) is ∙ ap (λ b. if b then Loose else Firm int) b) (is ∙ eform.rolls-Number n, r, refl) t p h

  named_sound : (x : List ℕ) (e : Expr) → e.form ≡ roll-EForm (E.Word x) → (o : Option Place) → lookup scope x ≡ o → (m : Meaning) → meaning_of context.top scope x ≡ m → variable_or o (top_meaning context.top x) ≡ m → (t : Ty) (p : PExpr) → named_at m x e.span t ≡ Some p → Good t p e
  named_sound x e is o l (AStruct r) w z t p h = cc
  named_sound x e is o l (AFunction f) w z t p h = cc
  named_sound x e is o l Nothing w z t p h = cc
  named_sound x e is o l (AConstant c) w z t p h = firm_sound (P.Const c) (pform.Const c) (pform.rolls-Const c) e (bare_layer e (E.Word x) is ∙ form_bare_is (E.Word x)) int (own_layer e (E.Word x) is ∙ ap (λ m. (named m).own) w) (x, is ∙ eform.rolls-Word x, w, refl) t p h
  named_sound x e is None l (AVariable v) w z t p h = absurd (no_variable context.top x v z)
  named_sound x e is (Some u) l (AVariable v) w z t p h =
      let same : u ≡ v = cc in
      firm_sound (P.Var v.slot x) (pform.Var v.slot x) (pform.rolls-Var v.slot x) e (bare_layer e (E.Word x) is ∙ form_bare_is (E.Word x)) v.ty (own_layer e (E.Word x) is ∙ ap (λ m. (named m).own) w) (is ∙ eform.rolls-Word x, v.ty, refl, lookup_nearest scope x v (l ∙ ap Some same)) t p h

  call_sound : (x : List ℕ) (es : List Sounded) (e : Expr) → e.form ≡ roll-EForm (E.Call x (map (λ q. q.0) es)) → (g : Callee) → callee_meant context.top (meaning_of context.top scope x) ≡ Some g → (ps : List PExpr) → arguments_at g.signature.params (map (argument_of context scope) (with_ats (map (λ q. q.0) es))) ≡ Some ps → (r : Option Ty) → g.signature.result ≡ r → (t : Ty) (p : PExpr) → call_at (Some (record { result = r; form = pform.Call g.id ps })) e.span t ≡ Some p → Good t p e
  call_sound x es e is g c ps a None result t p h = cc
  call_sound x es e is g c ps a (Some u) result t p h =
      let f = callee_found context.top (meaning_of context.top scope x) g c in
      let own : own_tree e ≡ Firm u = own_layer e (E.Call x (map (λ q. q.0) es)) is ∙ call_own context.top scope (meaning_of context.top scope x) _ ∙ ap (λ o. own_type (callee_result o)) c ∙ ap own_type result in
      firm_sound (P.Call g.id ps) (pform.Call g.id ps) (pform.rolls-Call g.id ps) e (bare_layer e (E.Call x (map (λ q. q.0) es)) is ∙ form_bare_is (E.Call x (map (λ q. q.0) es))) u own (x, map (λ q. q.0) es, is ∙ eform.rolls-Call x (map (λ q. q.0) es), g.signature, record { meaning = f.0; there = f.1.0; callable = f.1.1 }, arguments_sound g.signature.params es ps a, sym result) t p h

  pub sound : (e : Expr) → ExprSound e
  sound = expr_law FormSound ExprSound FieldSound form_layer
      (λ e h t p k. h e refl t p (sym (ap (λ (k : At). k t) (at_is context scope e)) ∙ k))
      (λ x h t p k. h t p (sym (ap (λ (k : At). k t) (field_at_is context scope x)) ∙ k))
    where
      bare : (e : Expr) (l : E.EForm-F EForm Expr NewField) → e.form ≡ roll-EForm l → form_bare (roll-EForm l) ≡ true → is_bare e ≡ true
      bare e l is h = bare_layer e l is ∙ h

      go : (y : E.EForm-F ((f : EForm) × FormSound f) Sounded SoundedField) (e : Expr) → e.form ≡ roll-EForm (sounding y) → (t : Ty) (p : PExpr) → placed context scope (sounding y) e.span t ≡ Some p → Good t p e
      go (E.Number n) e is t p h =
          let k = if_some (in_range context.bounds n) _ p h in
          number_sound n e is k.0 (nat_lt n 2) refl t p k.1
      go E.True e is t p h = firm_sound P.True pform.True pform.rolls-True e (bare e E.True is (form_bare_is E.True)) bit (own_layer e E.True is) (is ∙ eform.rolls-True, refl) t p h
      go E.False e is t p h = firm_sound P.False pform.False pform.rolls-False e (bare e E.False is (form_bare_is E.False)) bit (own_layer e E.False is) (is ∙ eform.rolls-False, refl) t p h
      go E.Null e is t p h =
          let k = only_parts _ _ _ h in
          made P.Null pform.Null pform.rolls-Null e t p k.1 (is ∙ eform.rolls-Null, k.0)
      go (E.Word x) e is t p h = named_sound x e is (lookup scope x) refl (meaning_of context.top scope x) refl refl t p h
      go (E.Hole n) e is t p h =
          let k = only_parts _ _ _ h in
          let j = both_true _ _ k.0 in
          made (P.Hole n) (pform.Hole n) (pform.rolls-Hole n) e t p k.1 (is ∙ eform.rolls-Hole n, j.0, j.1)
      go (E.Pattern g es) e is t p h = strings (strings_at t (map (item_of context scope) (with_ats (map (λ q. q.0) es)))) (strings_sound t es) h
        where
          strings : (ps : List PExpr) → EachMeans (λ p. p) (Means context scope) t ps (kept context scope t (map (λ q. q.0) es)) → pattern_at ps e.span t ≡ Some p → Good t p e
          strings [] m h = cc
          strings (q ∷ qs) m h = made (P.Pattern (q ∷ qs)) (pform.Pattern (q ∷ qs)) (pform.rolls-Pattern (q ∷ qs)) e t p (some_same _ _ h) (g, map (λ q. q.0) es, is ∙ eform.rolls-Pattern g (map (λ q. q.0) es), t, refl, tt, m)
      go (E.Paren (x, sx)) e is t p h =
          let a = bind_some (at_tree x t) _ p h in
          let good = sx t a.0 a.1 in
          made (P.Paren a.0) (pform.Paren a.0) (pform.rolls-Paren a.0) e t p (some_same _ _ a.2) (x, is ∙ eform.rolls-Paren x, good.means, t, good.type, refl)
      go (E.Call x es) e is t p h =
          let c = bind_some (called (callee_meant context.top (meaning_of context.top scope x)) (map (argument_of context scope) (with_ats (map (λ q. q.0) es)))) _ p h in
          let g = bind_some (callee_meant context.top (meaning_of context.top scope x)) _ c.0 c.1 in
          let a = bind_some (arguments_at g.0.signature.params (map (argument_of context scope) (with_ats (map (λ q. q.0) es)))) _ c.0 g.2 in
          call_sound x es e is g.0 g.1 a.0 a.1 g.0.signature.result refl t p (ap (λ c. call_at (Some c) e.span t) (some_same _ _ a.2) ∙ c.2)
      go (E.New x xs) e is t p h = of_struct (struct_meant (meaning_of context.top scope x)) refl h
        where
          names : (zs : List NewField) → map (λ (e : Setting). e.name) (map (setting_of context scope) (map (λ x. (x, field_at context scope x)) zs)) ≡ map (λ (x : NewField). x.name) zs
          names [] = refl
          names (z ∷ zs) = ap (λ rest. z.name ∷ rest) (names zs)

          of_struct : (o : Option StructId) → struct_meant (meaning_of context.top scope x) ≡ o → record_at context.top o (map (setting_of context scope) (map (λ x. (x, field_at context scope x)) (map (λ q. q.0) xs))) e.span t ≡ Some p → Good t p e
          of_struct None m h = cc
          of_struct (Some r) m h =
              let d = bind_some (slice_get context.top.structs r.index) _ p h in
              let f = bind_some (record_form r d.0 (map (setting_of context scope) (map (λ x. (x, field_at context scope x)) (map (λ q. q.0) xs)))) _ p d.2 in
              let k = if_some (all_distinct (map (λ (e : Setting). e.name) (map (setting_of context scope) (map (λ x. (x, field_at context scope x)) (map (λ q. q.0) xs))))) _ f.0 f.1 in
              let a = bind_some (settings_at d.0 (map (setting_of context scope) (map (λ x. (x, field_at context scope x)) (map (λ q. q.0) xs)))) _ f.0 k.1 in
              firm_sound (P.New r a.0) (pform.New r a.0) (pform.rolls-New r a.0) e (bare e (E.New x (map (λ q. q.0) xs)) is (form_bare_is (E.New x (map (λ q. q.0) xs)))) (reference_to r)
              (own_layer e (E.New x (map (λ q. q.0) xs)) is ∙ ap (λ o. (new_sort context.top o (map (λ x. (x, field_sort context scope x)) (map (λ q. q.0) xs))).own) m)
              (x, map (λ q. q.0) xs, is ∙ eform.rolls-New x (map (λ q. q.0) xs), d.0, record { meaning = struct_found (meaning_of context.top scope x) r m; there = d.1 }, settings_sound d.0 xs a.0 a.1, sym (ap all_distinct (names (map (λ q. q.0) xs))) ∙ k.0, refl) t p (ap (λ f. firm_at (reference_to r) (Some f) e.span t) (some_same _ _ a.2) ∙ f.2)
      go (E.Braces es) e is t p h =
          let w = bind_some (element_wanted t (length (with_ats (map (λ q. q.0) es)))) _ p h in
          let a = bind_some (all_at w.0 (map (at_of context scope) (with_ats (map (λ q. q.0) es)))) _ p w.2 in
          let o = bind_some (element_of t) _ w.0 w.1 in
          let k = if_some (nat_le 1 (length (with_ats (map (λ q. q.0) es))) && nat_le (length (with_ats (map (λ q. q.0) es))) (count_of t)) _ w.0 o.2 in
          let j = both_true _ _ k.0 in
          let m = all_sound w.0 es a.0 a.1 in
          let many : length (with_ats (map (λ q. q.0) es)) ≡ length a.0 = length-map (map (λ q. q.0) es) (λ e. (e, at_tree e)) ∙ each_length w.0 a.0 (map (λ q. q.0) es) m in
          made (P.Braces a.0) (pform.Braces a.0) (pform.rolls-Braces a.0) e t p (some_same _ _ a.2) (map (λ q. q.0) es, is ∙ eform.rolls-Braces (map (λ q. q.0) es), is_more _ a.0 (leb-true 1 (length (with_ats (map (λ q. q.0) es))) j.0) many, w.0, m, t, o.1 ∙ ap Some (some_same _ _ k.1), subst (λ n. n ≤ count_of t) many (leb-true (length (with_ats (map (λ q. q.0) es))) (count_of t) j.1), refl)
      go (E.Member (x, sx) y) e is t p h = of_struct (reference_meant (own_tree x)) refl h
        where
          of_struct : (o : Option StructId) → reference_meant (own_tree x) ≡ o → member_at context.top o (at_tree x) y e.span t ≡ Some p → Good t p e
          of_struct None m h = cc
          of_struct (Some r) m h =
              let z = bind_some (member_found context.top r y) _ p h in
              let a = bind_some (at_tree x (reference_to r)) _ p z.2 in
              let d = bind_some (slice_get context.top.structs r.index) _ z.0 z.1 in
              let good = sx (reference_to r) a.0 a.1 in
              firm_sound (P.Member a.0 r z.0.field) (pform.Member a.0 r z.0.field) (pform.rolls-Member a.0 r z.0.field) e (bare e (E.Member x y) is (form_bare_is (E.Member x y))) z.0.ty
              (own_layer e (E.Member x y) is ∙ firm_own (member_of context.top (reference_meant (own_tree x)) y) (own_at (sort context scope x)) ∙ ap (λ o. own_type (member_of context.top o y)) m ∙ ap own_type (member_type context.top r y z.0 z.1))
              (x, y, is ∙ eform.rolls-Member x y, good.means, reference_found (own_tree x) r m, good.type, d.0, d.1, z.0.ty, field_means_found d.0 y z.0 d.2, refl) t p a.2
      go (E.Index (x, sx) (i, si)) e is t p h =
          let v = bind_some (indexed (own_tree x)) _ p h in
          let a = bind_some (at_tree x v.0.whole) _ p v.2 in
          let b = bind_some (at_tree i int) _ p a.2 in
          let f = index_found (own_tree x) v.0 v.1 in
          let ga = sx v.0.whole a.0 a.1 in
          let gb = si int b.0 b.1 in
          firm_sound (P.Index a.0 b.0) (pform.Index a.0 b.0) (pform.rolls-Index a.0 b.0) e (bare e (E.Index x i) is (form_bare_is (E.Index x i))) v.0.part
          (own_layer e (E.Index x i) is ∙ firm_own (array_meant (own_tree x)) _ ∙ ap (λ o. own_type (array_meant o)) f.0 ∙ ap own_type f.1)
          (x, i, is ∙ eform.rolls-Index x i, ga.means, gb.means, v.0.whole, f.0, ga.type, gb.type, v.0.part, f.1, refl) t p b.2
      go (E.Slice (x, sx) (i, si) (n, sn)) e is t p h =
          let m = bind_some (constant_number context scope n) _ p h in
          let v = bind_some (cut (own_tree x) m.0) _ p m.2 in
          let a = bind_some (at_tree x v.0.whole) _ p v.2 in
          let b = bind_some (at_tree i int) _ p a.2 in
          let f = cut_found (own_tree x) m.0 v.0 v.1 in
          let ga = sx v.0.whole a.0 a.1 in
          let gb = si int b.0 b.1 in
          firm_sound (P.Slice a.0 b.0 m.0) (pform.Slice a.0 b.0 m.0) (pform.rolls-Slice a.0 b.0 m.0) e (bare e (E.Slice x i n) is (form_bare_is (E.Slice x i n))) v.0.part
          (own_layer e (E.Slice x i n) is ∙ firm_own (slice_of (own_tree x) (constant_number context scope n)) _ ∙ (λ k. own_type (slice_of (f.0 k) (m.1 k))) ∙ ap own_type f.1)
          (x, i, n, is ∙ eform.rolls-Slice x i n, ga.means, gb.means, v.0.whole, f.0, ga.type, gb.type, m.1, v.0.part, f.1, refl) t p b.2
      go (E.Unary m (x, sx)) e is t p h =
          let o = bind_some (unary_of m) _ p h in
          let u = bind_some (unary_wants o.0 (own_tree x) t) _ p o.2 in
          let a = bind_some (at_tree x u.0) _ p u.2 in
          let k = unary_asked o.0 (own_tree x) t u.0 u.1 in
          let ga = sx u.0 a.0 a.1 in
          asked_sound (P.Unary o.0 a.0) (pform.Unary o.0 a.0) (pform.rolls-Unary o.0 a.0) e (bare e (E.Unary m x) is (form_bare_is (E.Unary m x))) (record { left = u.0; right = u.0; result = u.0 }) t (unary_own o.0 (own_tree x))
          (own_layer e (E.Unary m x) is ∙ ap (λ o. (any_unary o (sort context scope x)).own) o.1 ∙ unary_own_is o.0 (sort context scope x)) k.1
          (m, x, is ∙ eform.rolls-Unary m x, o.1, ga.means, u.0, k.0, ga.type, refl) p a.2
      go (E.Binary m (x, sx) (y, sy)) e is t p h =
          let o = bind_some (operator_of m) _ p h in
          let w = bind_some (binary_wants (class_of o.0) (own_tree x) (own_tree y) t) _ p o.2 in
          let a = bind_some (at_tree x w.0.left) _ p w.2 in
          let b = bind_some (at_tree y w.0.right) _ p a.2 in
          let k = asked (class_of o.0) (own_tree x) (own_tree y) t w.0 w.1 in
          let ga = sx w.0.left a.0 a.1 in
          let gb = sy w.0.right b.0 b.1 in
          asked_sound (P.Binary o.0 a.0 b.0) (pform.Binary o.0 a.0 b.0) (pform.rolls-Binary o.0 a.0 b.0) e (bare e (E.Binary m x y) is (form_bare_is (E.Binary m x y))) w.0 t (class_own (class_of o.0) (own_tree x) (own_tree y))
          (own_layer e (E.Binary m x y) is ∙ ap (λ o. (any_binary o (sort context scope x) (sort context scope y)).own) o.1 ∙ binary_own o.0 (sort context scope x) (sort context scope y) ∙ class_is o.0 (own_tree x) (own_tree y)) k.result
          (m, x, y, is ∙ eform.rolls-Binary m x y, o.1, ga.means, gb.means, k.u, k.means a.0.ty b.0.ty ga.type gb.type) p b.2
      go (E.Cond (c, sc) (x, sx) (y, sy)) e is t p h =
          let o = bind_some (at_tree c bit) _ p h in
          let a = bind_some (at_tree x t) _ p o.2 in
          let b = bind_some (at_tree y t) _ p a.2 in
          let gc = sc bit o.0 o.1 in
          let ga = sx t a.0 a.1 in
          let gb = sy t b.0 b.1 in
          made (P.Cond o.0 a.0 b.0) (pform.Cond o.0 a.0 b.0) (pform.rolls-Cond o.0 a.0 b.0) e t p (some_same _ _ b.2) (c, x, y, is ∙ eform.rolls-Cond c x y, gc.means, ga.means, gb.means, gc.type, t, ga.type, gb.type, refl)

      form_layer : (y : E.EForm-F ((f : EForm) × FormSound f) Sounded SoundedField) → FormSound (roll-EForm (sounding y))
      form_layer y e is t p h = go y e is t p (sym (ap (λ (k : FormAt). k e.span t) (form_at_is context scope (sounding y))) ∙ h)
