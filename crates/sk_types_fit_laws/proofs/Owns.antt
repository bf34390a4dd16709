-- The structs of the types that expressions have by themselves are there.
use Rattle.std.proofs.Common.{◌≡◌, ℕ, zero, suc, Bool, true, false, List, [], ◌∷◌, Option, Some, None, refl, sym, subst}
use Rattle.std.specs.Prelude.{◌&&◌, ◌||◌, map, nat_lt, nat_le, slice_get, if◌then◌else◌}
use Rattle.std.specs.List.{list_all}
use Rattle.sk_tree.specs.declared.expr.Expr.{Expr}
use Rattle.sk_tree.specs.declared.expr.EForm.{EForm}
use Rattle.sk_tree.specs.declared.expr.EForm.TheOpen as E
use Rattle.sk_tree.specs.declared.expr.EForm.TheFolds.{map-EForm}
use Rattle.sk_tree.specs.declared.expr.NewField.{NewField}
use Rattle.sk_prog.specs.declared.ty.Ty.{Ty}
use Rattle.sk_prog.specs.declared.ty.Ty.TheVariants as ty
use Rattle.sk_prog.specs.declared.ids.StructId.{StructId}
use Rattle.sk_prog.specs.declared.expr.BinOp.{BinOp}
use Rattle.sk_prog.specs.declared.expr.BinOp.TheVariants as op
use Rattle.sk_prog.specs.declared.expr.UnOp.{UnOp}
use Rattle.sk_prog.specs.declared.expr.UnOp.TheVariants as unary
use Rattle.sk_prog.specs.declared.prog.FieldDef.{FieldDef}
use Rattle.sk_prog.specs.declared.prog.StructDef.{StructDef}
use Rattle.sk_prog.specs.declared.prog.ParamDef.{ParamDef}
use Rattle.sk_prog.specs.declared.prog.Prog.{Prog}
use Rattle.sk_prog.specs.Fits.{ty_fits, any_ty_fits}
use Rattle.sk_types_rules.specs.declared.rules.Own.{Own}
use Rattle.sk_types_rules.specs.declared.rules.Own.TheVariants.{Wrong, Loose, Firm}
use Rattle.sk_types_rules.specs.declared.rules.Class.{Class}
use Rattle.sk_types_rules.specs.declared.rules.Class.TheVariants.{Plus, Arithmetic, Order, Equality, Bitwise, Shift, Logic}
use Rattle.sk_types_rules.specs.declared.scope.Variable.{Variable}
use Rattle.sk_types_rules.specs.declared.scope.Place.{Place}
use Rattle.sk_types_rules.specs.Rules.{◌>>=◌, int, fits, element_of, array_of, operator_of, unary_of, firm_if, is_bits, is_bit_array, is_bit, is_integer, join, as_number, as_summand, taken_as, joined_as, both_loose, operand, result_of, result_own, shifted, flipped, choice, number_own}
use Rattle.sk_types_rules.specs.Scope.{lookup, Signature, top_of, Context, Meaning, AVariable, AStruct, AConstant, AFunction, Nothing, place_of, function_or, constant_or, struct_or, variable_or, top_meaning, meaning_of, field_of}
use Rattle.sk_types_rules.specs.Constants.{constant_number}
use Rattle.sk_types_rules.specs.Sorts.{Sort, wrong, named, struct_meant, reference_meant, firm_of, any_binary, shift_by, binary_sort, any_unary, array_meant, sliced, slice_of, own_at, is_harness, arguments_fit, call_sort, signature_meant, new_sort, member_of, eform_sort, sort, own}
use Rattle.sk_types_rules.proofs.SortLaws.{form_sort, field_sort, form_sort_is, sort_is}
use Rattle.sk_types_rules.proofs.Nearest.{lookup_nearest}
use Rattle.sk_types_laws.proofs.Ats.{some_same, both_true, expr_law}
use Rattle.sk_types_fit_laws.proofs.Found.{top, struct_names, const_names, fun_names, struct_there}

-- an item of a list whose items all pass a test
pub all_get : {X : Type 0} (test : X → Bool) (xs : List X) (i : ℕ) (x : X) → list_all test xs ≡ true → slice_get xs i ≡ Some x → test x ≡ true
all_get test [] i x h k = cc
all_get test (y ∷ ys) zero x h k = subst (λ x. test x ≡ true) (some_same _ _ k) ((both_true (test y) (list_all test ys) h).0)
all_get test (y ∷ ys) (suc i) x h k = all_get test ys i x ((both_true (test y) (list_all test ys) h).1) k

-- whether the structs of a type that something has by itself are there
abbrev pub own_fits : Prog → Own → Bool
own_fits prog Wrong = true
own_fits prog Loose = true
own_fits prog (Firm t) = ty_fits prog t

abbrev pub field_fit : Prog → FieldDef → Bool
field_fit prog y = ty_fits prog y.ty

abbrev pub struct_fit : Prog → StructDef → Bool
struct_fit prog d = list_all (field_fit prog) d.fields

abbrev pub param_fit : Prog → ParamDef → Bool
param_fit prog d = ty_fits prog d.ty

abbrev pub signature_fit : Prog → Signature → Bool
signature_fit prog s = any_ty_fits prog s.result && list_all (param_fit prog) s.params

abbrev pub variable_fit : Prog → Variable → Bool
variable_fit prog v = ty_fits prog v.ty

-- The structs of all types at the top are there.
pub record TopFits (prog : Prog) : Type 0 where
  pub structs : list_all (struct_fit prog) prog.structs ≡ true
  pub funs : list_all (signature_fit prog) (top_of prog).funs ≡ true

module _ (prog : Prog) where
  -- Types of operations

  firm_if_fits : (b : Bool) (t : Ty) → ty_fits prog t ≡ true → own_fits prog (firm_if b t) ≡ true
  firm_if_fits true t h = h
  firm_if_fits false t h = refl

  number_fits : (n : ℕ) → own_fits prog (number_own n) ≡ true
  number_fits n = go (nat_lt n 2)
    where
      go : (b : Bool) → own_fits prog (if b then Loose else Firm int) ≡ true
      go true = refl
      go false = refl

  join_fits : (a b : Ty) → ty_fits prog a ≡ true → ty_fits prog b ≡ true → own_fits prog (join a b) ≡ true
  join_fits a b h k = go (fits a b) (fits b a)
    where
      go : (x y : Bool) → own_fits prog (if x then Firm b else (if y then Firm a else Wrong)) ≡ true
      go true y = k
      go false true = h
      go false false = refl

  as_number_fits : (t : Ty) → own_fits prog (as_number t) ≡ true
  as_number_fits t = firm_if_fits (is_bit t || is_integer t) int refl

  as_summand_fits : (t : Ty) → ty_fits prog t ≡ true → own_fits prog (as_summand t) ≡ true
  as_summand_fits t h = go (is_bit_array t)
    where
      go : (b : Bool) → own_fits prog (if b then Firm t else as_number t) ≡ true
      go true = h
      go false = as_number_fits t

  taken_fits : (k : Class) (t : Ty) → ty_fits prog t ≡ true → own_fits prog (taken_as k t) ≡ true
  taken_fits Plus t h = as_summand_fits t h
  taken_fits Arithmetic t h = as_number_fits t
  taken_fits Order t h = as_number_fits t
  taken_fits Equality t h = h
  taken_fits Bitwise t h = firm_if_fits (is_bits t) t h
  taken_fits Shift t h = refl
  taken_fits Logic t h = refl

  joined_fits : (k : Class) (o : Own) → own_fits prog o ≡ true → own_fits prog (joined_as k o) ≡ true
  joined_fits k (Firm t) h = taken_fits k t h
  joined_fits k Loose h = refl
  joined_fits k Wrong h = refl

  loose_fits : (k : Class) → own_fits prog (both_loose k) ≡ true
  loose_fits Plus = refl
  loose_fits Arithmetic = refl
  loose_fits Order = refl
  loose_fits Equality = refl
  loose_fits Bitwise = refl
  loose_fits Shift = refl
  loose_fits Logic = refl

  pub operand_fits : (k : Class) (a b : Own) → own_fits prog a ≡ true → own_fits prog b ≡ true → own_fits prog (operand k a b) ≡ true
  operand_fits k Wrong b h j = refl
  operand_fits k Loose Wrong h j = refl
  operand_fits k Loose Loose h j = loose_fits k
  operand_fits k Loose (Firm u) h j = taken_fits k u j
  operand_fits k (Firm u) Wrong h j = refl
  operand_fits k (Firm u) Loose h j = taken_fits k u h
  operand_fits k (Firm u) (Firm v) h j = joined_fits k (join u v) (join_fits u v h j)

  result_fits : (k : Class) (t : Ty) → ty_fits prog t ≡ true → ty_fits prog (result_of k t) ≡ true
  result_fits Plus t h = h
  result_fits Arithmetic t h = h
  result_fits Order t h = refl
  result_fits Equality t h = refl
  result_fits Bitwise t h = h
  result_fits Shift t h = h
  result_fits Logic t h = refl

  own_result_fits : (k : Class) (o : Own) → own_fits prog o ≡ true → own_fits prog (result_own k o) ≡ true
  own_result_fits k Wrong h = refl
  own_result_fits k Loose h = refl
  own_result_fits k (Firm t) h = result_fits k t h

  pub shifted_fits : (a : Own) → own_fits prog a ≡ true → own_fits prog (shifted a) ≡ true
  shifted_fits Wrong h = refl
  shifted_fits Loose h = refl
  shifted_fits (Firm t) h = firm_if_fits (is_bit_array t) t h

  pub flipped_fits : (a : Own) → own_fits prog a ≡ true → own_fits prog (flipped a) ≡ true
  flipped_fits Wrong h = refl
  flipped_fits Loose h = refl
  flipped_fits (Firm t) h = firm_if_fits (is_bits t) t h

  choice_fits : (a b : Own) → own_fits prog a ≡ true → own_fits prog b ≡ true → own_fits prog (choice a b) ≡ true
  choice_fits Wrong b h j = refl
  choice_fits Loose Wrong h j = refl
  choice_fits Loose Loose h j = refl
  choice_fits Loose (Firm u) h j = j
  choice_fits (Firm u) Wrong h j = refl
  choice_fits (Firm u) Loose h j = h
  choice_fits (Firm u) (Firm v) h j = join_fits u v h j

  shift_fits : (o : Own) (a b : Sort) → own_fits prog o ≡ true → own_fits prog (shift_by o a b).own ≡ true
  shift_fits (Firm u) a b h = h
  shift_fits Loose a b h = refl
  shift_fits Wrong a b h = refl

  binary_fits : (o : BinOp) (a b : Sort) → own_fits prog a.own ≡ true → own_fits prog b.own ≡ true → own_fits prog (binary_sort o a b).own ≡ true
  binary_fits op.AndThen a b h j = refl
  binary_fits op.OrElse a b h j = refl
  binary_fits op.Shl a b h j = shift_fits (shifted a.own) a b (shifted_fits a.own h)
  binary_fits op.Shr a b h j = shift_fits (shifted a.own) a b (shifted_fits a.own h)
  binary_fits op.Mul a b h j = own_result_fits Arithmetic _ (operand_fits Arithmetic a.own b.own h j)
  binary_fits op.Div a b h j = own_result_fits Arithmetic _ (operand_fits Arithmetic a.own b.own h j)
  binary_fits op.Rem a b h j = own_result_fits Arithmetic _ (operand_fits Arithmetic a.own b.own h j)
  binary_fits op.Add a b h j = own_result_fits Plus _ (operand_fits Plus a.own b.own h j)
  binary_fits op.Sub a b h j = own_result_fits Arithmetic _ (operand_fits Arithmetic a.own b.own h j)
  binary_fits op.Lt a b h j = own_result_fits Order _ (operand_fits Order a.own b.own h j)
  binary_fits op.Le a b h j = own_result_fits Order _ (operand_fits Order a.own b.own h j)
  binary_fits op.Gt a b h j = own_result_fits Order _ (operand_fits Order a.own b.own h j)
  binary_fits op.Ge a b h j = own_result_fits Order _ (operand_fits Order a.own b.own h j)
  binary_fits op.Eq a b h j = own_result_fits Equality _ (operand_fits Equality a.own b.own h j)
  binary_fits op.Ne a b h j = own_result_fits Equality _ (operand_fits Equality a.own b.own h j)
  binary_fits op.And a b h j = own_result_fits Bitwise _ (operand_fits Bitwise a.own b.own h j)
  binary_fits op.Xor a b h j = own_result_fits Bitwise _ (operand_fits Bitwise a.own b.own h j)
  binary_fits op.Or a b h j = own_result_fits Bitwise _ (operand_fits Bitwise a.own b.own h j)

  any_binary_fits : (o : Option BinOp) (a b : Sort) → own_fits prog a.own ≡ true → own_fits prog b.own ≡ true → own_fits prog (any_binary o a b).own ≡ true
  any_binary_fits None a b h j = refl
  any_binary_fits (Some o) a b h j = binary_fits o a b h j

  any_unary_fits : (o : Option UnOp) (a : Sort) → own_fits prog a.own ≡ true → own_fits prog (any_unary o a).own ≡ true
  any_unary_fits None a h = refl
  any_unary_fits (Some unary.Not) a h = refl
  any_unary_fits (Some unary.Neg) a h = refl
  any_unary_fits (Some unary.Flip) a h = flipped_fits a.own h

  -- Types of parts

  firm_fits : (o : Option Ty) (b : Bool) → any_ty_fits prog o ≡ true → own_fits prog (firm_of o b).own ≡ true
  firm_fits None b h = refl
  firm_fits (Some t) b h = h

  pub element_fits : (t u : Ty) → element_of t ≡ Some u → ty_fits prog t ≡ true → ty_fits prog u ≡ true
  element_fits (ty.One a) u e h = cc
  element_fits (ty.Array a n) u e h = subst (λ u. ty_fits prog u ≡ true) (some_same _ _ e) h
  element_fits (ty.Grid a n m) u e h = subst (λ u. ty_fits prog u ≡ true) (some_same _ _ e) h

  meant_fits : (o : Own) → own_fits prog o ≡ true → any_ty_fits prog (array_meant o) ≡ true
  meant_fits (Firm (ty.One a)) h = refl
  meant_fits (Firm (ty.Array a n)) h = h
  meant_fits (Firm (ty.Grid a n m)) h = h
  meant_fits Loose h = refl
  meant_fits Wrong h = refl

  only_fits : (b : Bool) (t : Ty) (n : ℕ) → any_ty_fits prog (array_of t n) ≡ true → any_ty_fits prog (if b then array_of t n else None) ≡ true
  only_fits true t n h = h
  only_fits false t n h = refl

  sliced_fits : (t : Ty) (n : ℕ) → ty_fits prog t ≡ true → any_ty_fits prog (sliced t n) ≡ true
  sliced_fits (ty.One a) n h = refl
  sliced_fits (ty.Array a k) n h = only_fits (nat_le 1 n && nat_le n k) (ty.One a) n h
  sliced_fits (ty.Grid a k m) n h = only_fits (nat_le 1 n && nat_le n m) (ty.Array a k) n h

  slice_fits : (o : Own) (n : Option ℕ) → own_fits prog o ≡ true → any_ty_fits prog (slice_of o n) ≡ true
  slice_fits (Firm t) (Some n) h = sliced_fits t n h
  slice_fits (Firm t) None h = refl
  slice_fits Loose n h = refl
  slice_fits Wrong n h = refl

  module _ (good : TopFits prog) where
    get_fits : (o : Option FieldDef) (ds : List FieldDef) (i : ℕ) → slice_get ds i ≡ o → list_all (field_fit prog) ds ≡ true → any_ty_fits prog (o >>= λ (y : FieldDef). Some y.ty) ≡ true
    get_fits None ds i is h = refl
    get_fits (Some y) ds i is h = all_get (field_fit prog) ds i y h is

    place_fits : (o : Option ℕ) (d : StructDef) → struct_fit prog d ≡ true → any_ty_fits prog (o >>= λ i. slice_get d.fields i >>= λ (y : FieldDef). Some y.ty) ≡ true
    place_fits None d h = refl
    place_fits (Some i) d h = get_fits (slice_get d.fields i) d.fields i refl h

    def_fits : (o : Option StructDef) (i : ℕ) (x : List ℕ) → slice_get prog.structs i ≡ o → any_ty_fits prog (o >>= λ d. field_of d x >>= λ i. slice_get d.fields i >>= λ (y : FieldDef). Some y.ty) ≡ true
    def_fits None i x is = refl
    def_fits (Some d) i x is = place_fits (field_of d x) d (all_get (struct_fit prog) prog.structs i d good.structs is)

    pub member_fits : (o : Option StructId) (x : List ℕ) → any_ty_fits prog (member_of (top prog) o x) ≡ true
    member_fits None x = refl
    member_fits (Some r) x = def_fits (slice_get prog.structs r.index) r.index x refl

    -- the struct of a field's type
    pub field_type_fits : (r : StructId) (d : StructDef) (i : ℕ) (y : FieldDef) → slice_get prog.structs r.index ≡ Some d → slice_get d.fields i ≡ Some y → ty_fits prog y.ty ≡ true
    field_type_fits r d i y h k = all_get (field_fit prog) d.fields i y (all_get (struct_fit prog) prog.structs r.index d good.structs h) k

    pub signature_is : (i : ℕ) (s : Signature) → slice_get (top prog).funs i ≡ Some s → signature_fit prog s ≡ true
    signature_is i s h = all_get (signature_fit prog) (top prog).funs i s good.funs h

    callee_fits : (scope : List Variable) (i : ℕ) (o : Option Signature) (es : List (Expr × Sort)) → slice_get (top prog).funs i ≡ o → own_fits prog (call_sort scope o es).own ≡ true
    callee_fits scope i None es is = refl
    callee_fits scope i (Some s) es is = go (is_harness s.kind)
      where
        go : (b : Bool) → own_fits prog (if b then wrong else firm_of s.result (arguments_fit scope s.params es)).own ≡ true
        go true = refl
        go false = firm_fits s.result _ ((both_true (any_ty_fits prog s.result) (list_all (param_fit prog) s.params) (signature_is i s is)).0)

    call_fits : (scope : List Variable) (m : Meaning) (es : List (Expr × Sort)) → own_fits prog (call_sort scope (signature_meant (top prog) m) es).own ≡ true
    call_fits scope (AFunction f) es = callee_fits scope f.index (slice_get (top prog).funs f.index) es refl
    call_fits scope (AVariable v) es = refl
    call_fits scope (AStruct r) es = refl
    call_fits scope (AConstant c) es = refl
    call_fits scope Nothing es = refl

    module _ (context : Context) (same : context.top ≡ top prog) (scope : List Variable) (vars : list_all (variable_fit prog) scope ≡ true) where
      new_fits : (x : List ℕ) (m : Meaning) (es : List (NewField × Sort)) → meaning_of (top prog) scope x ≡ m → own_fits prog (new_sort (top prog) (struct_meant m) es).own ≡ true
      new_fits x (AStruct r) es is = struct_there prog scope x r is
      new_fits x (AVariable v) es is = refl
      new_fits x (AConstant c) es is = refl
      new_fits x (AFunction f) es is = refl
      new_fits x Nothing es is = refl

      top_fits : (s c f : Option ℕ) → own_fits prog (named (struct_or s (constant_or c (function_or f)))).own ≡ true
      top_fits (Some i) c f = refl
      top_fits None (Some i) f = refl
      top_fits None None (Some i) = refl
      top_fits None None None = refl

      named_fits : (x : List ℕ) (o : Option Place) → lookup scope x ≡ o → own_fits prog (named (variable_or o (top_meaning (top prog) x))).own ≡ true
      named_fits x None is = top_fits (place_of (struct_names prog) x) (place_of (const_names prog) x) (place_of (fun_names prog) x)
      named_fits x (Some v) is = all_get (variable_fit prog) scope v.slot (record { name = x; ty = v.ty }) vars (lookup_nearest scope x v is).there

      abbrev FormOwn : EForm → Type 0
      FormOwn f = own_fits prog (form_sort context scope f).own ≡ true

      abbrev ExprOwn : Expr → Type 0
      ExprOwn e = own_fits prog (own context scope e) ≡ true

      abbrev sorted : E.EForm-F ((f : EForm) × FormOwn f) ((e : Expr) × ExprOwn e) (NewField × Unit {0}) → E.EForm-F EForm Expr NewField
      sorted y = map-EForm ((f : EForm) × FormOwn f) ((e : Expr) × ExprOwn e) (NewField × Unit {0}) EForm Expr NewField (λ q. q.0) (λ q. q.0) (λ q. q.0) y

      abbrev layer : E.EForm-F EForm Expr NewField → Sort
      layer l = eform_sort context scope (map-EForm EForm Expr NewField (EForm × Sort) (Expr × Sort) (NewField × Sort) (λ f. (f, form_sort context scope f)) (λ e. (e, sort context scope e)) (λ x. (x, field_sort context scope x)) l)

      layer_fits : (y : E.EForm-F ((f : EForm) × FormOwn f) ((e : Expr) × ExprOwn e) (NewField × Unit {0})) → own_fits prog (layer (sorted y)).own ≡ true
      layer_fits (E.Number n) = number_fits n
      layer_fits E.True = refl
      layer_fits E.False = refl
      layer_fits E.Null = refl
      layer_fits (E.Word x) = subst (λ t. own_fits prog (named (meaning_of t scope x)).own ≡ true) (sym same) (named_fits x (lookup scope x) refl)
      layer_fits (E.Hole n) = refl
      layer_fits (E.Pattern g es) = refl
      layer_fits (E.Paren e) = e.1
      layer_fits (E.Call x es) = subst (λ t. own_fits prog (call_sort scope (signature_meant t (meaning_of t scope x)) (map (λ e. (e, sort context scope e)) (map (λ (q : (e : Expr) × ExprOwn e). q.0) es))).own ≡ true) (sym same) (call_fits scope (meaning_of (top prog) scope x) _)
      layer_fits (E.New x es) = subst (λ t. own_fits prog (new_sort t (struct_meant (meaning_of t scope x)) (map (λ x. (x, field_sort context scope x)) (map (λ (q : NewField × Unit {0}). q.0) es))).own ≡ true) (sym same) (new_fits x (meaning_of (top prog) scope x) _ refl)
      layer_fits (E.Braces es) = refl
      layer_fits (E.Member e x) = subst (λ t. own_fits prog (firm_of (member_of t (reference_meant (own context scope e.0)) x) (own_at (sort context scope e.0))).own ≡ true) (sym same) (firm_fits (member_of (top prog) (reference_meant (own context scope e.0)) x) _ (member_fits (reference_meant (own context scope e.0)) x))
      layer_fits (E.Index e i) = firm_fits (array_meant (own context scope e.0)) _ (meant_fits (own context scope e.0) e.1)
      layer_fits (E.Slice e i n) = firm_fits (slice_of (own context scope e.0) (constant_number context scope n.0)) _ (slice_fits (own context scope e.0) (constant_number context scope n.0) e.1)
      layer_fits (E.Unary m e) = any_unary_fits (unary_of m) (sort context scope e.0) e.1
      layer_fits (E.Binary m a b) = any_binary_fits (operator_of m) (sort context scope a.0) (sort context scope b.0) a.1 b.1
      layer_fits (E.Cond c a b) = choice_fits (own context scope a.0) (own context scope b.0) a.1 b.1

      -- the struct of the type that an expression has by itself is there
      pub owns_fit : (e : Expr) → own_fits prog (own context scope e) ≡ true
      owns_fit = expr_law FormOwn ExprOwn (λ x. Unit {0})
          (λ y. subst (λ (s : Sort). own_fits prog s.own ≡ true) (sym (form_sort_is context scope (sorted y))) (layer_fits y))
          (λ e h. subst (λ (s : Sort). own_fits prog s.own ≡ true) (sym (sort_is context scope e)) h)
          (λ x h. tt)

      pub own_there : (e : Expr) (t : Ty) → own context scope e ≡ Firm t → ty_fits prog t ≡ true
      own_there e t h = subst (λ o. own_fits prog o ≡ true) h (owns_fit e)
