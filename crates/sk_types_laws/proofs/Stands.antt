-- An expression stands at a type, by its sort, exactly where it becomes something there.
use Rattle.std.proofs.Common.{◌≡◌, ℕ, suc, zero, Bool, true, false, List, [], ◌∷◌, length, Option, Some, None, refl, sym, ap, ◌∙◌}
use Rattle.std.specs.Prelude.{◌&&◌, ◌||◌, not, map, nat_lt, nat_le, if◌then◌else◌, slice_get}
use Rattle.std.specs.List.{list_all}
use Rattle.std.specs.Str.{bytes_eq}
use Rattle.std.proofs.lemmas.List.{length-map}
use Rattle.sk_base.specs.declared.span.Span.{Span}
use Rattle.sk_tree.specs.declared.expr.Expr.{Expr}
use Rattle.sk_tree.specs.declared.expr.EForm.{EForm}
use Rattle.sk_tree.specs.declared.expr.EForm.TheVariants as eform
use Rattle.sk_tree.specs.declared.expr.EForm.TheOpen as E
use Rattle.sk_tree.specs.declared.expr.EForm.TheViews.{roll-EForm}
use Rattle.sk_tree.specs.declared.expr.EForm.TheFolds.{map-EForm, para-roll-NewField}
use Rattle.sk_tree.specs.declared.expr.NewField.{NewField}
use Rattle.sk_prog.specs.declared.ty.Ty.{Ty}
use Rattle.sk_prog.specs.declared.ty.Ty.TheVariants as ty
use Rattle.sk_prog.specs.declared.ty.Elem.TheVariants as elem
use Rattle.sk_prog.specs.declared.ids.StructId.{StructId}
use Rattle.sk_prog.specs.declared.ids.FunId.{FunId}
use Rattle.sk_prog.specs.declared.expr.BinOp.{BinOp}
use Rattle.sk_prog.specs.declared.expr.BinOp.TheVariants as op
use Rattle.sk_prog.specs.declared.expr.UnOp.{UnOp}
use Rattle.sk_prog.specs.declared.expr.UnOp.TheVariants as unary
use Rattle.sk_prog.specs.declared.expr.PExpr.{PExpr}
use Rattle.sk_prog.specs.declared.expr.PEForm.{PEForm}
use Rattle.sk_prog.specs.declared.expr.PEForm.TheVariants as pform
use Rattle.sk_prog.specs.declared.expr.PField.{PField}
use Rattle.sk_prog.specs.declared.prog.FieldDef.{FieldDef}
use Rattle.sk_prog.specs.declared.prog.StructDef.{StructDef}
use Rattle.sk_prog.specs.declared.prog.ParamDef.{ParamDef}
use Rattle.sk_types_rules.specs.declared.rules.Own.{Own}
use Rattle.sk_types_rules.specs.declared.rules.Own.TheVariants.{Wrong, Loose, Firm}
use Rattle.sk_types_rules.specs.declared.rules.Fit.{Fit}
use Rattle.sk_types_rules.specs.declared.rules.Fit.TheVariants.{Misfit, Same, Widens, Pads}
use Rattle.sk_types_rules.specs.declared.rules.Class.{Class}
use Rattle.sk_types_rules.specs.declared.rules.Class.TheVariants.{Plus, Arithmetic, Order, Equality, Bitwise}
use Rattle.sk_types_rules.specs.declared.scope.Variable.{Variable}
use Rattle.sk_types_rules.specs.declared.scope.Place.{Place}
use Rattle.sk_types_rules.specs.Rules.{◌>>=◌, only_if, int, bit, is_fit, fits, fit_of, is_bits, is_reference, element_of, count_of, is_bit_array, firm_if, operator_of, unary_of, operand, loose_takes, result_of, shifted, flipped, number_takes, element_takes, number_fits, number_stands, in_range, hole_takes, width_fits}
use Rattle.sk_types_rules.specs.Scope.{lookup, Signature, Top, Context, Meaning, AVariable, AStruct, AConstant, AFunction, Nothing, variable_or, struct_or, constant_or, function_or, next_place, place_of, top_meaning, meaning_of, field_of, all_distinct}
use Rattle.sk_types_rules.specs.Constants.{constant_number}
use Rattle.sk_types_rules.specs.Sorts.{Sort, wrong, named, struct_meant, variable_type, is_some_type, reference_to, reference_meant, field_type, any_at, firm_of, any_binary, shift_by, flip_at, any_unary, braces_at, may_keep, keeps, keeps_any, sorts, array_meant, sliced, at_own, slice_of, argument_fits, arguments_fit, is_harness, call_sort, signature_meant, new_sort, member_of, eform_sort, sort, own}
use Rattle.sk_types_rules.specs.Sorts.{binary_at as sorts_at}
use Rattle.sk_types_rules.proofs.SortLaws.{form_sort, field_sort, form_sort_is, sort_is}
use Rattle.sk_types_laws.specs.declared.found.Found.{Found}
use Rattle.sk_types_laws.specs.declared.found.View.{View}
use Rattle.sk_types_laws.specs.declared.found.Wants.{Wants}
use Rattle.sk_types_laws.specs.Elaborate.{At, FormAt, typed, coerced, firm_at, named_at, all_at, string_at, with_string, strings_at, pattern_at, argument_at, arguments_at, Setting, field_found, setting_at, settings_at, callable, callee_meant, called, call_at, record_form, record_at, member_found, member_at, viewed, index_at, slice_at, flip_wants, unary_at, operands_want, shift_wants, binary_at, item_of, argument_of, setting_of, at_of, eform_at, form_at, at, field_at}
use Rattle.sk_types_laws.proofs.Ats.{ty_same, fit_same, expr_law, form_at_is, at_is, field_at_is}

abbrev pub is_some : {A : Type 0} → Option A → Bool
is_some None = false
is_some (Some x) = true

-- one part, a test, and the last part
one : {A B : Type 0} (m : Option A) (k : A → Option B) (c : Bool) → ((p : A) → c ≡ is_some (k p)) → (is_some m && c) ≡ is_some (m >>= k)
one None k c h = refl
one (Some p) k c h = h p

when : {A : Type 0} (b c : Bool) (m : Option A) → c ≡ is_some m → (b && c) ≡ is_some (if b then m else None)
when true c m h = h
when false c m h = refl

last : {A B : Type 0} (m : Option A) (make : A → B) → is_some m ≡ is_some (m >>= λ p. Some (make p))
last None make = refl
last (Some p) make = refl

only_some : {A : Type 0} (b : Bool) (x : A) → b ≡ is_some (only_if b x)
only_some true x = refl
only_some false x = refl

and_true : (b : Bool) → b ≡ (b && true)
and_true true = refl
and_true false = refl

fit_some : (f : Fit) (t : Ty) (p : PExpr) → is_fit f ≡ is_some (coerced f t p)
fit_some Misfit t p = refl
fit_some Same t p = refl
fit_some Widens t p = refl
fit_some Pads t p = refl

firm_some : (u : Ty) (f : PEForm) (s : Span) (t : Ty) → fits u t ≡ is_some (firm_at u (Some f) s t)
firm_some u f s t = fit_some (fit_of u t) t (typed s u f)

same_some : (f : PEForm) (s : Span) (t : Ty) → true ≡ is_some (firm_at t (Some f) s t)
same_some f s t = ap is_fit (sym (fit_same t)) ∙ firm_some t f s t

-- Names and literals

small : (n : ℕ) (t : Ty) → nat_lt n 2 ≡ true → number_fits n t ≡ number_stands n t
small n t e = ap (λ b. number_takes n t || (b && element_takes n (element_of t))) (sym e)

large : (n : ℕ) (t : Ty) → nat_lt n 2 ≡ false → number_fits n t ≡ fits int t
large n (ty.One elem.Bit) e = ap (λ b. b || false) e
large n (ty.One elem.Int) e = refl
large n (ty.One (elem.Reference r)) e = refl
large n (ty.Array elem.Bit k) e = e
large n (ty.Array elem.Int k) e = refl
large n (ty.Array (elem.Reference r) k) e = refl
large n (ty.Grid a k m) e = refl

number_some : (n : ℕ) (s : Span) (t : Ty) (a b : Bool) → nat_lt n 2 ≡ b → (a && number_fits n t) ≡ is_some (if a then (if b then only_if (number_stands n t) (typed s t (pform.Number n)) else firm_at int (Some (pform.Number n)) s t) else None)
number_some n s t false b e = refl
number_some n s t true true e = small n t e ∙ only_some (number_stands n t) (typed s t (pform.Number n))
number_some n s t true false e = large n t e ∙ firm_some int (pform.Number n) s t

named_some : (m : Meaning) (x : List ℕ) (s : Span) (t : Ty) → (named m).at t ≡ is_some (named_at m x s t)
named_some (AVariable v) x s t = firm_some v.ty (pform.Var v.slot x) s t
named_some (AConstant c) x s t = firm_some int (pform.Const c) s t
named_some (AStruct r) x s t = refl
named_some (AFunction f) x s t = refl
named_some Nothing x s t = refl

-- Structs that are there

there_more : (ds : List StructDef) (x : List ℕ) → ((i : ℕ) → place_of (map (λ (d : StructDef). d.name) ds) x ≡ Some i → (d : StructDef) × (slice_get ds i ≡ Some d)) → (d : StructDef) (i : ℕ) → place_of (map (λ (d : StructDef). d.name) (d ∷ ds)) x ≡ Some i → (e : StructDef) × (slice_get (d ∷ ds) i ≡ Some e)
there_more ds x rest d i h = first (bytes_eq d.name x) h
  where
    later : (o : Option ℕ) → place_of (map (λ (d : StructDef). d.name) ds) x ≡ o → (i : ℕ) → next_place o ≡ Some i → (e : StructDef) × (slice_get (d ∷ ds) i ≡ Some e)
    later None is i h = cc
    later (Some j) is zero h = cc
    later (Some j) is (suc i) h = let e : j ≡ i = cc in rest i (is ∙ ap Some e)

    first : (b : Bool) → (if b then Some 0 else next_place (place_of (map (λ (d : StructDef). d.name) ds) x)) ≡ Some i → (e : StructDef) × (slice_get (d ∷ ds) i ≡ Some e)
    first true h = let e : 0 ≡ i = cc in (d, ap (slice_get (d ∷ ds)) (sym e))
    first false h = later (place_of (map (λ (d : StructDef). d.name) ds) x) refl i h

there : (ds : List StructDef) (x : List ℕ) (i : ℕ) → place_of (map (λ (d : StructDef). d.name) ds) x ≡ Some i → (d : StructDef) × (slice_get ds i ≡ Some d)
there [] x i h = cc
there (d ∷ ds) x i h = there_more ds x (there ds x) d i h

pub struct_there : (top : Top) (scope : List Variable) (x : List ℕ) (r : StructId) → struct_meant (meaning_of top scope x) ≡ Some r → (d : StructDef) × (slice_get top.structs r.index ≡ Some d)
struct_there top scope x r h = of_variable (lookup scope x) h
  where
    of_function : (o : Option ℕ) → struct_meant (function_or o) ≡ Some r → (d : StructDef) × (slice_get top.structs r.index ≡ Some d)
    of_function None h = cc
    of_function (Some i) h = cc

    of_constant : (o p : Option ℕ) → struct_meant (constant_or o (function_or p)) ≡ Some r → (d : StructDef) × (slice_get top.structs r.index ≡ Some d)
    of_constant None p h = of_function p h
    of_constant (Some i) p h = cc

    of_struct : (o q p : Option ℕ) → place_of (map (λ (d : StructDef). d.name) top.structs) x ≡ o → struct_meant (struct_or o (constant_or q (function_or p))) ≡ Some r → (d : StructDef) × (slice_get top.structs r.index ≡ Some d)
    of_struct None q p is h = of_constant q p h
    of_struct (Some i) q p is h = let e : i ≡ r.index = cc in there top.structs x r.index (is ∙ ap Some e)

    of_variable : (o : Option Place) → struct_meant (variable_or o (top_meaning top x)) ≡ Some r → (d : StructDef) × (slice_get top.structs r.index ≡ Some d)
    of_variable None h = of_struct (place_of (map (λ (d : StructDef). d.name) top.structs) x) (place_of top.consts x) (place_of (map (λ (s : Signature). s.name) top.funs) x) refl h
    of_variable (Some v) h = cc

-- Parts together

both_some : {A B C : Type 0} (m : Option A) (n : Option B) (c : Bool) (k : A → B → Option C) → ((p : A) (q : B) → c ≡ is_some (k p q)) → ((is_some m && is_some n) && c) ≡ is_some (m >>= λ p. n >>= λ q. k p q)
both_some None n c k h = refl
both_some (Some p) None c k h = refl
both_some (Some p) (Some q) c k h = h p q

pair_some : {A B C : Type 0} (m : Option A) (n : Option B) (c : Bool) (k : A → B → Option C) → ((p : A) (q : B) → c ≡ is_some (k p q)) → (is_some m && (is_some n && c)) ≡ is_some (m >>= λ p. n >>= λ q. k p q)
pair_some None n c k h = refl
pair_some (Some p) None c k h = refl
pair_some (Some p) (Some q) c k h = h p q

cond_some : (s : Span) (t : Ty) (m n r : Option PExpr) → (is_some m && (is_some n && is_some r)) ≡ is_some (m >>= λ o. n >>= λ p. r >>= λ q. Some (typed s t (pform.Cond o p q)))
cond_some s t None n r = refl
cond_some s t (Some o) None r = refl
cond_some s t (Some o) (Some p) r = last r (λ q. typed s t (pform.Cond o p q))

record_some : (r : StructId) (s : Span) (t : Ty) (c : Bool) (m : Option (List PField)) → ((is_some m && c) && fits (reference_to r) t) ≡ is_some (firm_at (reference_to r) (if c then (m >>= λ ps. Some (pform.New r ps)) else None) s t)
record_some r s t false None = refl
record_some r s t false (Some ps) = refl
record_some r s t true None = refl
record_some r s t true (Some ps) = firm_some (reference_to r) (pform.New r ps) s t

abbrev set_field : ℕ → PExpr → PField
set_field i p = record { field = i; value = p }

setting_some : (d : StructDef) (x : List ℕ) (test : Ty → Bool) (f : At) → ((t : Ty) → test t ≡ is_some (f t)) → any_at test (field_of d x >>= λ i. slice_get d.fields i >>= λ (y : FieldDef). Some y.ty) ≡ is_some (setting_at d (record { name = x; at = f }))
setting_some d x test f h = go (field_of d x)
  where
    field : (i : ℕ) (o : Option FieldDef) → any_at test (o >>= λ (y : FieldDef). Some y.ty) ≡ is_some ((o >>= λ (y : FieldDef). Some (record { field = i; ty = y.ty })) >>= λ (y : Found). f y.ty >>= λ p. Some (set_field y.field p))
    field i None = refl
    field i (Some y) = h y.ty ∙ last (f y.ty) (λ p. set_field i p)

    go : (o : Option ℕ) → any_at test (o >>= λ i. slice_get d.fields i >>= λ (y : FieldDef). Some y.ty) ≡ is_some ((o >>= λ i. slice_get d.fields i >>= λ (y : FieldDef). Some (record { field = i; ty = y.ty })) >>= λ (y : Found). f y.ty >>= λ p. Some (set_field y.field p))
    go None = refl
    go (Some i) = field i (slice_get d.fields i)

member_some : (top : Top) (r : StructId) (x : List ℕ) (good : Bool) (m : Option PExpr) (s : Span) (t : Ty) → good ≡ is_some m → (firm_of (field_type top r x) good).at t ≡ is_some (member_found top r x >>= λ (y : Found). m >>= λ p. firm_at y.ty (Some (pform.Member p r y.field)) s t)
member_some top r x good m s t h = of_struct (slice_get top.structs r.index)
  where
    of_field : (i : ℕ) (o : Option FieldDef) → (firm_of (o >>= λ (y : FieldDef). Some y.ty) good).at t ≡ is_some ((o >>= λ (y : FieldDef). Some (record { field = i; ty = y.ty })) >>= λ (y : Found). m >>= λ p. firm_at y.ty (Some (pform.Member p r y.field)) s t)
    of_field i None = refl
    of_field i (Some y) = ap (λ b. b && fits y.ty t) h ∙ one m (λ p. firm_at y.ty (Some (pform.Member p r i)) s t) (fits y.ty t) (λ p. firm_some y.ty (pform.Member p r i) s t)

    of_place : (d : StructDef) (o : Option ℕ) → (firm_of (o >>= λ i. slice_get d.fields i >>= λ (y : FieldDef). Some y.ty) good).at t ≡ is_some ((o >>= λ i. slice_get d.fields i >>= λ (y : FieldDef). Some (record { field = i; ty = y.ty })) >>= λ (y : Found). m >>= λ p. firm_at y.ty (Some (pform.Member p r y.field)) s t)
    of_place d None = refl
    of_place d (Some i) = of_field i (slice_get d.fields i)

    of_struct : (o : Option StructDef) → (firm_of (o >>= λ (d : StructDef). field_of d x >>= λ i. slice_get d.fields i >>= λ (y : FieldDef). Some y.ty) good).at t ≡ is_some ((o >>= λ (d : StructDef). field_found d x) >>= λ (y : Found). m >>= λ p. firm_at y.ty (Some (pform.Member p r y.field)) s t)
    of_struct None = refl
    of_struct (Some d) = of_place d (field_of d x)

any_member_some : (top : Top) (w : Own) (x : List ℕ) (test : Ty → Bool) (f : At) (s : Span) (t : Ty) → ((u : Ty) → test u ≡ is_some (f u)) → (firm_of (member_of top (reference_meant w) x) (at_own w test)).at t ≡ is_some (member_at top (reference_meant w) f x s t)
any_member_some top Wrong x test f s t h = refl
any_member_some top Loose x test f s t h = refl
any_member_some top (Firm (ty.One elem.Bit)) x test f s t h = refl
any_member_some top (Firm (ty.One elem.Int)) x test f s t h = refl
any_member_some top (Firm (ty.One (elem.Reference r))) x test f s t h = member_some top r x (test (reference_to r)) (f (reference_to r)) s t (h (reference_to r))
any_member_some top (Firm (ty.Array a n)) x test f s t h = refl
any_member_some top (Firm (ty.Grid a n m)) x test f s t h = refl

view_some : (u : Ty) (o : Option Ty) (m n : Option PExpr) (make : PExpr → PExpr → PEForm) (s : Span) (t : Ty) → (firm_of o (is_some m && is_some n)).at t ≡ is_some (viewed u o >>= λ (v : View). m >>= λ p. n >>= λ q. firm_at v.part (Some (make p q)) s t)
view_some u None m n make s t = refl
view_some u (Some r) m n make s t = both_some m n (fits r t) (λ p q. firm_at r (Some (make p q)) s t) (λ p q. firm_some r (make p q) s t)

index_some : (w : Own) (test : Ty → Bool) (good : Bool) (f g : At) (s : Span) (t : Ty) → ((u : Ty) → test u ≡ is_some (f u)) → good ≡ is_some (g int) → (firm_of (array_meant w) (at_own w test && good)).at t ≡ is_some (index_at w f g s t)
index_some Wrong test good f g s t h k = refl
index_some Loose test good f g s t h k = refl
index_some (Firm u) test good f g s t h k = (λ i. (firm_of (element_of u) (h u i && k i)).at t) ∙ view_parts (element_of u)
  where
    view_parts : (o : Option Ty) → (firm_of o (is_some (f u) && is_some (g int))).at t ≡ is_some (viewed u o >>= λ (v : View). f v.whole >>= λ p. g int >>= λ q. firm_at v.part (Some (pform.Index p q)) s t)
    view_parts None = refl
    view_parts (Some r) = view_some u (Some r) (f u) (g int) pform.Index s t

slice_some : (w : Own) (o : Option ℕ) (test : Ty → Bool) (good : Bool) (f g : At) (s : Span) (t : Ty) → ((u : Ty) → test u ≡ is_some (f u)) → good ≡ is_some (g int) → (firm_of (slice_of w o) (at_own w test && good)).at t ≡ is_some (slice_at w o f g s t)
slice_some Wrong None test good f g s t h k = refl
slice_some Wrong (Some n) test good f g s t h k = refl
slice_some Loose None test good f g s t h k = refl
slice_some Loose (Some n) test good f g s t h k = refl
slice_some (Firm u) None test good f g s t h k = refl
slice_some (Firm u) (Some n) test good f g s t h k = (λ i. (firm_of (sliced u n) (h u i && k i)).at t) ∙ view_parts (sliced u n)
  where
    view_parts : (o : Option Ty) → (firm_of o (is_some (f u) && is_some (g int))).at t ≡ is_some (viewed u o >>= λ (v : View). f v.whole >>= λ p. g int >>= λ q. firm_at v.part (Some (pform.Slice p q n)) s t)
    view_parts None = refl
    view_parts (Some r) = view_some u (Some r) (f u) (g int) (λ p q. pform.Slice p q n) s t

-- Operators

unary_firm : (o : UnOp) (u : Ty) (good : Bool) (m : Option PExpr) (s : Span) (t : Ty) → good ≡ is_some m → (good && fits u t) ≡ is_some (m >>= λ p. firm_at u (Some (pform.Unary o p)) s t)
unary_firm o u good m s t h = ap (λ b. b && fits u t) h ∙ one m (λ p. firm_at u (Some (pform.Unary o p)) s t) (fits u t) (λ p. firm_some u (pform.Unary o p) s t)

flip_some : (w : Own) (a : Sort) (f : At) (s : Span) (t : Ty) → ((u : Ty) → a.at u ≡ is_some (f u)) → flip_at w a t ≡ is_some (flip_wants w t >>= λ u. f u >>= λ p. firm_at u (Some (pform.Unary unary.Flip p)) s t)
flip_some Wrong a f s t h = refl
flip_some Loose a f s t h = go (is_bits t)
  where
    go : (b : Bool) → (b && a.at t) ≡ is_some (only_if b t >>= λ u. f u >>= λ p. firm_at u (Some (pform.Unary unary.Flip p)) s t)
    go false = refl
    go true = h t ∙ and_true (is_some (f t)) ∙ one (f t) (λ p. firm_at t (Some (pform.Unary unary.Flip p)) s t) true (λ p. same_some (pform.Unary unary.Flip p) s t)
flip_some (Firm u) a f s t h = unary_firm unary.Flip u (a.at u) (f u) s t (h u)

unary_some : (r : Option UnOp) (a : Sort) (f : At) (s : Span) (t : Ty) → ((u : Ty) → a.at u ≡ is_some (f u)) → (any_unary r a).at t ≡ is_some (unary_at r a.own f s t)
unary_some None a f s t h = refl
unary_some (Some unary.Not) a f s t h = unary_firm unary.Not bit (a.at bit) (f bit) s t (h bit)
unary_some (Some unary.Neg) a f s t h = unary_firm unary.Neg int (a.at int) (f int) s t (h int)
unary_some (Some unary.Flip) a f s t h = flip_some (flipped a.own) a f s t h

module _ (a b : Sort) (f g : At) (ha : (u : Ty) → a.at u ≡ is_some (f u)) (hb : (u : Ty) → b.at u ≡ is_some (g u)) (s : Span) (t : Ty) where
  abbrev made : BinOp → Option Wants → Option PExpr
  made o w = w >>= λ (w : Wants). f w.left >>= λ p. g w.right >>= λ q. firm_at w.result (Some (pform.Binary o p q)) s t

  operands_some : (k : Class) (o : BinOp) (w : Own) → sorts_at k w a b t ≡ is_some (made o (operands_want k w t))
  operands_some k o Wrong = refl
  operands_some k o Loose = go (loose_takes k t)
    where
      go : (c : Bool) → (c && (a.at t && b.at t)) ≡ is_some (made o (only_if c (record { left = t; right = t; result = t })))
      go false = refl
      go true = (λ i. ha t i && (hb t ∙ and_true (is_some (g t))) i) ∙ pair_some (f t) (g t) true (λ p q. firm_at t (Some (pform.Binary o p q)) s t) (λ p q. same_some (pform.Binary o p q) s t)
  operands_some k o (Firm u) = (λ i. ha u i && (hb u i && fits (result_of k u) t)) ∙ pair_some (f u) (g u) (fits (result_of k u) t) (λ p q. firm_at (result_of k u) (Some (pform.Binary o p q)) s t) (λ p q. firm_some (result_of k u) (pform.Binary o p q) s t)

  two_some : (o : BinOp) (u v r : Ty) → ((a.at u && b.at v) && fits r t) ≡ is_some (made o (Some (record { left = u; right = v; result = r })))
  two_some o u v r = (λ i. (ha u i && hb v i) && fits r t) ∙ both_some (f u) (g v) (fits r t) (λ p q. firm_at r (Some (pform.Binary o p q)) s t) (λ p q. firm_some r (pform.Binary o p q) s t)

  shift_firm : (o : BinOp) (c : Bool) (u : Ty) → (shift_by (firm_if c u) a b).at t ≡ is_some (made o (shift_wants (firm_if c u)))
  shift_firm o false u = refl
  shift_firm o true u = two_some o u int u

  shift_some : (o : BinOp) (w : Own) → (shift_by (shifted w) a b).at t ≡ is_some (made o (shift_wants (shifted w)))
  shift_some o Wrong = refl
  shift_some o Loose = refl
  shift_some o (Firm u) = shift_firm o (is_bit_array u) u

  binary_some : (r : Option BinOp) → (any_binary r a b).at t ≡ is_some (binary_at r a.own b.own f g s t)
  binary_some None = refl
  binary_some (Some op.Shl) = shift_some op.Shl a.own
  binary_some (Some op.Shr) = shift_some op.Shr a.own
  binary_some (Some op.AndThen) = two_some op.AndThen bit bit bit
  binary_some (Some op.OrElse) = two_some op.OrElse bit bit bit
  binary_some (Some op.Mul) = operands_some Arithmetic op.Mul (operand Arithmetic a.own b.own)
  binary_some (Some op.Div) = operands_some Arithmetic op.Div (operand Arithmetic a.own b.own)
  binary_some (Some op.Rem) = operands_some Arithmetic op.Rem (operand Arithmetic a.own b.own)
  binary_some (Some op.Sub) = operands_some Arithmetic op.Sub (operand Arithmetic a.own b.own)
  binary_some (Some op.Add) = operands_some Plus op.Add (operand Plus a.own b.own)
  binary_some (Some op.Lt) = operands_some Order op.Lt (operand Order a.own b.own)
  binary_some (Some op.Le) = operands_some Order op.Le (operand Order a.own b.own)
  binary_some (Some op.Gt) = operands_some Order op.Gt (operand Order a.own b.own)
  binary_some (Some op.Ge) = operands_some Order op.Ge (operand Order a.own b.own)
  binary_some (Some op.Eq) = operands_some Equality op.Eq (operand Equality a.own b.own)
  binary_some (Some op.Ne) = operands_some Equality op.Ne (operand Equality a.own b.own)
  binary_some (Some op.And) = operands_some Bitwise op.And (operand Bitwise a.own b.own)
  binary_some (Some op.Xor) = operands_some Bitwise op.Xor (operand Bitwise a.own b.own)
  binary_some (Some op.Or) = operands_some Bitwise op.Or (operand Bitwise a.own b.own)

-- Expressions

module _ (context : Context) (scope : List Variable) where
  field_sort_is : (x : NewField) → field_sort context scope x ≡ sort context scope x.value
  field_sort_is x = para-roll-NewField Sort Sort Sort (eform_sort context scope) (λ x. x.form.1) (λ x. x.value.1) (record { name = x.name; value = x.value })

  abbrev FormStands : EForm → Type 0
  FormStands f = (s : Span) (t : Ty) → (form_sort context scope f).at t ≡ is_some (form_at context scope f s t)

  abbrev ExprStands : Expr → Type 0
  ExprStands e = (t : Ty) → (sort context scope e).at t ≡ is_some (at context scope e t)

  abbrev FieldStands : NewField → Type 0
  FieldStands x = (t : Ty) → (field_sort context scope x).at t ≡ is_some (field_at context scope x t)

  abbrev Stood : Type 0
  Stood = (e : Expr) × ExprStands e

  abbrev StoodField : Type 0
  StoodField = (x : NewField) × FieldStands x

  abbrev with_sorts : List Expr → List (Expr × Sort)
  with_sorts es = map (λ e. (e, sort context scope e)) es

  abbrev with_ats : List Expr → List (Expr × At)
  with_ats es = map (λ e. (e, at context scope e)) es

  abbrev fields_sorts : List NewField → List (NewField × Sort)
  fields_sorts xs = map (λ x. (x, field_sort context scope x)) xs

  abbrev fields_ats : List NewField → List (NewField × At)
  fields_ats xs = map (λ x. (x, field_at context scope x)) xs

  -- Lists

  all_some : (u : Ty) (es : List Stood) → list_all (λ (e : Sort). e.at u) (sorts (with_sorts (map (λ q. q.0) es))) ≡ is_some (all_at u (map (at_of context scope) (with_ats (map (λ q. q.0) es))))
  all_some u [] = refl
  all_some u (e ∷ es) =
      (λ i. e.1 u i && all_some u es i)
      ∙ one (at context scope e.0 u) (λ p. all_at u (map (at_of context scope) (with_ats (map (λ q. q.0) es))) >>= λ ps. Some (p ∷ ps)) (is_some (all_at u (map (at_of context scope) (with_ats (map (λ q. q.0) es))))) (λ p. last (all_at u (map (at_of context scope) (with_ats (map (λ q. q.0) es)))) (λ ps. p ∷ ps))

  more_some : (s : Span) (t : Ty) (o : Option PExpr) (ps : List PExpr) → (is_some o || is_some (pattern_at ps s t)) ≡ is_some (pattern_at (with_string o ps) s t)
  more_some s t None ps = refl
  more_some s t (Some p) ps = refl

  pub string_some : (t : Ty) (e : Expr) → ExprStands e → keeps (sort context scope e) t ≡ is_some (string_at t (item_of context scope (e, at context scope e)))
  string_some t e h = when (may_keep (own context scope e) t) ((sort context scope e).at t) (at context scope e t) (h t)

  strings_some : (s : Span) (t : Ty) (es : List Stood) → keeps_any (sorts (with_sorts (map (λ q. q.0) es))) t ≡ is_some (pattern_at (strings_at t (map (item_of context scope) (with_ats (map (λ q. q.0) es)))) s t)
  strings_some s t [] = refl
  strings_some s t (e ∷ es) =
      (λ i. string_some t e.0 e.1 i || strings_some s t es i)
      ∙ more_some s t (string_at t (item_of context scope (e.0, at context scope e.0))) (strings_at t (map (item_of context scope) (with_ats (map (λ q. q.0) es))))

  -- a variable stands at its type

  word_is : (x : List ℕ) (o : Option Place) → lookup scope x ≡ o → (s : Span) (t : Ty) → is_some_type (o >>= λ v. Some v.ty) t ≡ true → is_some (named_at (variable_or o (top_meaning context.top x)) x s t) ≡ true
  word_is x None is s t h = cc
  word_is x (Some v) is s t h =
      let same = ty_same v.ty t h in
      ap (λ u. is_some (firm_at u (Some (pform.Var v.slot x)) s t)) same ∙ sym (same_some (pform.Var v.slot x) s t)

  variable_form : (f : EForm) (s : Span) (t : Ty) → is_some_type (variable_type scope f) t ≡ true → is_some (form_at context scope f s t) ≡ true
  variable_form (eform.Word x) s t h = ap (λ (k : FormAt). is_some (k s t)) (ap (form_at context scope) (sym (eform.rolls-Word x)) ∙ form_at_is context scope (E.Word x)) ∙ word_is x (lookup scope x) refl s t h
  variable_form _ s t h = cc

  pub variable_some : (e : Expr) (t : Ty) → is_some_type (variable_type scope e.form) t ≡ true → is_some (at context scope e t) ≡ true
  variable_some e t h = ap (λ (k : At). is_some (k t)) (at_is context scope e) ∙ variable_form e.form e.span t h

  argument_some : (d : ParamDef) (e : Expr) → ExprStands e → argument_fits scope d (e, sort context scope e) ≡ is_some (argument_at d (argument_of context scope (e, at context scope e)))
  argument_some d e h = by_ref d.by_ref
    where
      variable : (b : Bool) → is_some_type (variable_type scope e.form) d.ty ≡ b → b ≡ is_some (if b then at context scope e d.ty else None)
      variable true is = sym (variable_some e d.ty is)
      variable false is = refl

      by_ref : (b : Bool) → (if b then is_some_type (variable_type scope e.form) d.ty else (sort context scope e).at d.ty) ≡ is_some (if not b || is_some_type (variable_type scope e.form) d.ty then at context scope e d.ty else None)
      by_ref true = variable (is_some_type (variable_type scope e.form) d.ty) refl
      by_ref false = h d.ty

  arguments_some : (ds : List ParamDef) (es : List Stood) → arguments_fit scope ds (with_sorts (map (λ q. q.0) es)) ≡ is_some (arguments_at ds (map (argument_of context scope) (with_ats (map (λ q. q.0) es))))
  arguments_some [] [] = refl
  arguments_some [] (e ∷ es) = refl
  arguments_some (d ∷ ds) [] = refl
  arguments_some (d ∷ ds) (e ∷ es) =
      (λ i. argument_some d e.0 e.1 i && arguments_some ds es i)
      ∙ one (argument_at d (argument_of context scope (e.0, at context scope e.0))) (λ p. arguments_at ds (map (argument_of context scope) (with_ats (map (λ q. q.0) es))) >>= λ ps. Some (p ∷ ps)) (is_some (arguments_at ds (map (argument_of context scope) (with_ats (map (λ q. q.0) es))))) (λ p. last (arguments_at ds (map (argument_of context scope) (with_ats (map (λ q. q.0) es)))) (λ ps. p ∷ ps))

  result_some : (f : FunId) (g : Signature) (r : Option Ty) (m : Option (List PExpr)) (s : Span) (t : Ty) → (firm_of r (is_some m)).at t ≡ is_some (call_at (m >>= λ ps. Some (record { result = r; form = pform.Call f ps })) s t)
  result_some f g None None s t = refl
  result_some f g None (Some ps) s t = refl
  result_some f g (Some r) None s t = refl
  result_some f g (Some r) (Some ps) s t = firm_some r (pform.Call f ps) s t

  callable_some : (f : FunId) (o : Option Signature) (es : List Stood) (s : Span) (t : Ty) → (call_sort scope o (with_sorts (map (λ q. q.0) es))).at t ≡ is_some (call_at (called (callable f o) (map (argument_of context scope) (with_ats (map (λ q. q.0) es)))) s t)
  callable_some f None es s t = refl
  callable_some f (Some g) es s t = go (is_harness g.kind)
    where
      go : (b : Bool) → (if b then wrong else firm_of g.result (arguments_fit scope g.params (with_sorts (map (λ q. q.0) es)))).at t ≡ is_some (call_at (called (if b then None else Some (record { id = f; signature = g })) (map (argument_of context scope) (with_ats (map (λ q. q.0) es)))) s t)
      go true = refl
      go false = ap (λ b. (firm_of g.result b).at t) (arguments_some g.params es) ∙ result_some f g g.result (arguments_at g.params (map (argument_of context scope) (with_ats (map (λ q. q.0) es)))) s t

  call_some : (m : Meaning) (es : List Stood) (s : Span) (t : Ty) → (call_sort scope (signature_meant context.top m) (with_sorts (map (λ q. q.0) es))).at t ≡ is_some (call_at (called (callee_meant context.top m) (map (argument_of context scope) (with_ats (map (λ q. q.0) es)))) s t)
  call_some (AFunction f) es s t = callable_some f (slice_get context.top.funs f.index) es s t
  call_some (AVariable v) es s t = refl
  call_some (AStruct r) es s t = refl
  call_some (AConstant c) es s t = refl
  call_some Nothing es s t = refl

  settings_some : (d : StructDef) (xs : List StoodField) → list_all (λ (f : NewField × Sort). any_at f.1.at (field_of d f.0.name >>= λ i. slice_get d.fields i >>= λ (y : FieldDef). Some y.ty)) (fields_sorts (map (λ q. q.0) xs)) ≡ is_some (settings_at d (map (setting_of context scope) (fields_ats (map (λ q. q.0) xs))))
  settings_some d [] = refl
  settings_some d (x ∷ xs) =
      (λ i. setting_some d x.0.name (field_sort context scope x.0).at (field_at context scope x.0) x.1 i && settings_some d xs i)
      ∙ one (setting_at d (setting_of context scope (x.0, field_at context scope x.0))) (λ p. settings_at d (map (setting_of context scope) (fields_ats (map (λ q. q.0) xs))) >>= λ ps. Some (p ∷ ps)) (is_some (settings_at d (map (setting_of context scope) (fields_ats (map (λ q. q.0) xs))))) (λ p. last (settings_at d (map (setting_of context scope) (fields_ats (map (λ q. q.0) xs)))) (λ ps. p ∷ ps))

  names_same : (xs : List NewField) → map (λ (f : NewField × Sort). f.0.name) (fields_sorts xs) ≡ map (λ (e : Setting). e.name) (map (setting_of context scope) (fields_ats xs))
  names_same [] = refl
  names_same (x ∷ xs) = ap (λ rest. x.name ∷ rest) (names_same xs)

  new_in : (r : StructId) (o : Option StructDef) (d : StructDef) → o ≡ Some d → (xs : List StoodField) (s : Span) (t : Ty) → ((list_all (λ (f : NewField × Sort). any_at f.1.at (o >>= λ (d : StructDef). field_of d f.0.name >>= λ i. slice_get d.fields i >>= λ (y : FieldDef). Some y.ty)) (fields_sorts (map (λ q. q.0) xs)) && all_distinct (map (λ (f : NewField × Sort). f.0.name) (fields_sorts (map (λ q. q.0) xs)))) && fits (reference_to r) t) ≡ is_some (o >>= λ (d : StructDef). firm_at (reference_to r) (record_form r d (map (setting_of context scope) (fields_ats (map (λ q. q.0) xs)))) s t)
  new_in r None d is xs s t = cc
  new_in r (Some e) d is xs s t =
      (λ i. (settings_some e xs i && all_distinct (names_same (map (λ q. q.0) xs) i)) && fits (reference_to r) t)
      ∙ record_some r s t (all_distinct (map (λ (e : Setting). e.name) (map (setting_of context scope) (fields_ats (map (λ q. q.0) xs))))) (settings_at e (map (setting_of context scope) (fields_ats (map (λ q. q.0) xs))))

  new_some : (o : Option StructId) → ((r : StructId) → o ≡ Some r → (d : StructDef) × (slice_get context.top.structs r.index ≡ Some d)) → (xs : List StoodField) (s : Span) (t : Ty) → (new_sort context.top o (fields_sorts (map (λ q. q.0) xs))).at t ≡ is_some (record_at context.top o (map (setting_of context scope) (fields_ats (map (λ q. q.0) xs))) s t)
  new_some None h xs s t = refl
  new_some (Some r) h xs s t = let d = h r refl in new_in r (slice_get context.top.structs r.index) d.0 d.1 xs s t

  braces_some : (o : Option Ty) (es : List Stood) (s : Span) (t : Ty) → braces_at (sorts (with_sorts (map (λ q. q.0) es))) t o ≡ is_some ((o >>= λ u. if nat_le 1 (length (with_ats (map (λ q. q.0) es))) && nat_le (length (with_ats (map (λ q. q.0) es))) (count_of t) then Some u else None) >>= λ u. all_at u (map (at_of context scope) (with_ats (map (λ q. q.0) es))) >>= λ ps. Some (typed s t (pform.Braces ps)))
  braces_some None es s t = refl
  braces_some (Some u) es s t = (λ i. nat_le 1 (same i) && (nat_le (same i) (count_of t) && all_some u es i)) ∙ go (nat_le 1 (length (with_ats (map (λ q. q.0) es)))) (nat_le (length (with_ats (map (λ q. q.0) es))) (count_of t)) (λ v. all_at v (map (at_of context scope) (with_ats (map (λ q. q.0) es))))
    where
      same : length (sorts (with_sorts (map (λ q. q.0) es))) ≡ length (with_ats (map (λ q. q.0) es))
      same = length-map (with_sorts (map (λ q. q.0) es)) (λ e. e.1) ∙ length-map (map (λ q. q.0) es) (λ e. (e, sort context scope e)) ∙ sym (length-map (map (λ q. q.0) es) (λ e. (e, at context scope e)))

      go : (b c : Bool) (k : Ty → Option (List PExpr)) → (b && (c && is_some (k u))) ≡ is_some ((if b && c then Some u else None) >>= λ v. k v >>= λ ps. Some (typed s t (pform.Braces ps)))
      go false c k = refl
      go true false k = refl
      go true true k = last (k u) (λ ps. typed s t (pform.Braces ps))

  abbrev standing : E.EForm-F ((f : EForm) × FormStands f) Stood StoodField → E.EForm-F EForm Expr NewField
  standing y = map-EForm ((f : EForm) × FormStands f) Stood StoodField EForm Expr NewField (λ q. q.0) (λ q. q.0) (λ q. q.0) y

  pub stands : (e : Expr) → ExprStands e
  stands = expr_law FormStands ExprStands FieldStands form_layer
      (λ e h t. ap (λ (z : Sort). z.at t) (sort_is context scope e) ∙ h e.span t ∙ ap (λ (k : At). is_some (k t)) (sym (at_is context scope e)))
      (λ x h t. ap (λ (z : Sort). z.at t) (field_sort_is x) ∙ h t ∙ ap (λ (k : At). is_some (k t)) (sym (field_at_is context scope x)))
    where
      go : (y : E.EForm-F ((f : EForm) × FormStands f) Stood StoodField) (s : Span) (t : Ty)
          → (eform_sort context scope (map-EForm EForm Expr NewField (EForm × Sort) (Expr × Sort) (NewField × Sort) (λ f. (f, form_sort context scope f)) (λ e. (e, sort context scope e)) (λ x. (x, field_sort context scope x)) (standing y))).at t
          ≡ is_some (eform_at context scope (map-EForm EForm Expr NewField (EForm × FormAt) (Expr × At) (NewField × At) (λ f. (f, form_at context scope f)) (λ e. (e, at context scope e)) (λ x. (x, field_at context scope x)) (standing y)) s t)
      go (E.Number n) s t = number_some n s t (in_range context.bounds n) (nat_lt n 2) refl
      go E.True s t = firm_some bit pform.True s t
      go E.False s t = firm_some bit pform.False s t
      go E.Null s t = only_some (is_reference t) (typed s t pform.Null)
      go (E.Word x) s t = named_some (meaning_of context.top scope x) x s t
      go (E.Hole n) s t = only_some (width_fits context.bounds n && hole_takes t) (typed s t (pform.Hole n))
      go (E.Pattern g es) s t = strings_some s t es
      go (E.Paren e) s t = e.1 t ∙ last (at context scope e.0 t) (λ p. typed s t (pform.Paren p))
      go (E.Call x es) s t = call_some (meaning_of context.top scope x) es s t
      go (E.New x xs) s t = new_some (struct_meant (meaning_of context.top scope x)) (struct_there context.top scope x) xs s t
      go (E.Braces es) s t = braces_some (element_of t) es s t
      go (E.Member e x) s t = any_member_some context.top (own context scope e.0) x (sort context scope e.0).at (at context scope e.0) s t e.1
      go (E.Index e i) s t = index_some (own context scope e.0) (sort context scope e.0).at ((sort context scope i.0).at int) (at context scope e.0) (at context scope i.0) s t e.1 (i.1 int)
      go (E.Slice e i n) s t = slice_some (own context scope e.0) (constant_number context scope n.0) (sort context scope e.0).at ((sort context scope i.0).at int) (at context scope e.0) (at context scope i.0) s t e.1 (i.1 int)
      go (E.Unary m e) s t = unary_some (unary_of m) (sort context scope e.0) (at context scope e.0) s t e.1
      go (E.Binary m a b) s t = binary_some (sort context scope a.0) (sort context scope b.0) (at context scope a.0) (at context scope b.0) a.1 b.1 s t (operator_of m)
      go (E.Cond c a b) s t = (λ i. c.1 bit i && (a.1 t i && b.1 t i)) ∙ cond_some s t (at context scope c.0 bit) (at context scope a.0 t) (at context scope b.0 t)

      form_layer : (y : E.EForm-F ((f : EForm) × FormStands f) Stood StoodField) → FormStands (roll-EForm (standing y))
      form_layer y s t = ap (λ (z : Sort). z.at t) (form_sort_is context scope (standing y)) ∙ go y s t ∙ ap (λ (k : FormAt). is_some (k s t)) (sym (form_at_is context scope (standing y)))

-- what is dropped, and what is not there

is_none : (o : Option PExpr) → is_some o ≡ false → o ≡ None
is_none None h = refl
is_none (Some p) h = cc

module _ (context : Context) (scope : List Variable) where
  -- the strings that are kept are those that become something
  pub kept_string : (t : Ty) (e : Expr) → keeps (sort context scope e) t ≡ is_some (string_at t (item_of context scope (e, at context scope e)))
  kept_string t e = string_some context scope t e (stands context scope e)

  pub dropped_none : (t : Ty) (e : Expr) → keeps (sort context scope e) t ≡ false → string_at t (item_of context scope (e, at context scope e)) ≡ None
  dropped_none t e h = is_none _ (sym (kept_string t e) ∙ h)
