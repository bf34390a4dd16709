-- What an expression means is what it becomes.
use Rattle.std.proofs.Common.{◌≡◌, ◌≢◌, ℕ, zero, suc, ◌≤◌, Bool, true, false, List, [], ◌∷◌, length, Option, Some, refl, sym, ap, subst, ◌∙◌, arith}
use Rattle.std.specs.Prelude.{◌&&◌, ◌||◌, not, map, nat_lt, if◌then◌else◌, slice_get, IsTrue}
use Rattle.std.specs.List.{list_any}
use Rattle.std.specs.Str.{bytes_eq}
use Rattle.std.proofs.lemmas.List.{length-map}
use Rattle.std.proofs.lemmas.Bool.{le-leb}
use Rattle.std.proofs.lemmas.Slice.Eq.{bytes_eq-Decides}
use Rattle.sk_base.specs.declared.span.Span.{Span}
use Rattle.sk_tree.specs.declared.expr.Expr.{Expr}
use Rattle.sk_tree.specs.declared.expr.EForm.{EForm}
use Rattle.sk_tree.specs.declared.expr.EForm.TheVariants as eform
use Rattle.sk_tree.specs.declared.expr.EForm.TheOpen as E
use Rattle.sk_tree.specs.declared.expr.EForm.TheViews.{roll-EForm}
use Rattle.sk_tree.specs.declared.expr.NewField.{NewField}
use Rattle.sk_prog.specs.declared.ty.Ty.{Ty}
use Rattle.sk_prog.specs.declared.ty.Ty.TheVariants as ty
use Rattle.sk_prog.specs.declared.ty.Elem.TheVariants as elem
use Rattle.sk_prog.specs.declared.ids.FunId.{FunId}
use Rattle.sk_prog.specs.declared.expr.UnOp.{UnOp}
use Rattle.sk_prog.specs.declared.expr.UnOp.TheVariants as unary
use Rattle.sk_prog.specs.declared.expr.PExpr.{PExpr}
use Rattle.sk_prog.specs.declared.expr.PEForm.{PEForm}
use Rattle.sk_prog.specs.declared.expr.PEForm.TheVariants as pform
use Rattle.sk_prog.specs.declared.expr.PField.{PField}
use Rattle.sk_prog.specs.declared.expr.PEForm.TheOpen as P
use Rattle.sk_prog.specs.declared.expr.PEForm.TheViews.{roll-PEForm}
use Rattle.sk_prog.specs.declared.expr.PEForm.TheFolds.{map-PEForm, rec-roll-PField}
use Rattle.sk_prog.specs.declared.prog.FieldDef.{FieldDef}
use Rattle.sk_prog.specs.declared.prog.StructDef.{StructDef}
use Rattle.sk_prog.specs.declared.prog.ParamDef.{ParamDef}
use Rattle.sk_types_rules.specs.declared.rules.Own.{Own}
use Rattle.sk_types_rules.specs.declared.rules.Own.TheVariants.{Wrong, Loose, Firm}
use Rattle.sk_types_rules.specs.declared.rules.Class.{Class}
use Rattle.sk_types_rules.specs.declared.rules.Class.TheVariants.{Plus, Arithmetic, Order, Equality, Bitwise, Shift, Logic}
use Rattle.sk_types_rules.specs.declared.scope.Variable.{Variable}
use Rattle.sk_types_rules.specs.Rules.{◌>>=◌, only_if, int, bit, fit_of, is_bits, element_of, count_of, unary_of, class_of, operand, loose_takes, result_of, flipped, number_takes, number_stands}
use Rattle.sk_types_rules.specs.Scope.{Nearest, Signature, Top, Context, AVariable, variable_or, top_meaning, next_place, place_of, meaning_of, all_distinct}
use Rattle.sk_types_rules.specs.Constants.{constant_number}
use Rattle.sk_types_rules.specs.Sorts.{struct_meant, variable_type, is_some_type, reference_to, reference_meant, may_keep, keeps, kept, sort, own}
use Rattle.sk_types_rules.specs.Types.{ExprRule, EFormRule, FieldRule, Wanted, MeansOperation, MeansBinary, MeansUnary, EachMeans, MayBeRef, ArgumentsMean, FieldsMean, IsMore, IsCallee, IsField, eform_means, expr_means, field_means, Means, is_bare}
use Rattle.sk_types_rules.proofs.Nearest.{nearest_lookup}
use Rattle.sk_types_rules.proofs.Layers.{FormMeans, FieldMeans, rule, form_means_are, means_parts}
use Rattle.sk_types_laws.specs.Envs.{AreDistinct}
use Rattle.sk_types_laws.specs.declared.found.Wants.{Wants}
use Rattle.sk_types_laws.specs.Elaborate.{At, FormAt, typed, coerced, firm_at, named_at, all_at, element_wanted, string_at, with_string, strings_at, pattern_at, may_pass, arguments_at, Setting, field_found, setting_at, settings_at, callee_meant, called, call_at, record_at, member_at, index_at, slice_at, flip_wants, unary_wants, unary_at, operands_want, shift_wants, binary_wants, item_of, argument_of, setting_of, at_of, form_at, at, field_at}
use Rattle.sk_types_laws.proofs.Ats.{both_true, both, ty_self, fit_same, some_same, pexpr_law, form_at_is, at_is, field_at_is}
use Rattle.sk_types_laws.proofs.Stands.{dropped_none}
use Rattle.sk_types_laws.proofs.Bare.{placed, bare_at}

-- Literals

cannot : {A : Type 0} → false ≡ true → A
cannot e = cc

number_is : (n : ℕ) (s : Span) (t : Ty) → number_stands n t ≡ true → (b : Bool) → nat_lt n 2 ≡ b → (if b then only_if (number_stands n t) (typed s t (pform.Number n)) else firm_at int (Some (pform.Number n)) s t) ≡ Some (typed s t (pform.Number n))
number_is n s t h true e = rw h refl
number_is n s (ty.One elem.Int) h false e = refl
number_is n s (ty.One elem.Bit) h false e = cannot (sym (ap (λ b. b || (b && false)) e) ∙ h)
number_is n s (ty.One (elem.Reference r)) h false e = cannot (sym (ap (λ b. b && false) e) ∙ h)
number_is n s (ty.Array a k) h false e = cannot (sym (ap (λ b. b && number_takes n (ty.One a)) e) ∙ h)
number_is n s (ty.Grid a k m) h false e = cannot (sym (ap (λ b. b && false) e) ∙ h)

own_firm : (u : Ty) (f : PEForm) (s : Span) → firm_at u (Some f) s u ≡ Some (typed s u f)
own_firm u f s = ap (λ k. coerced k u (typed s u f)) (fit_same u)

only_is : {A : Type 0} (b : Bool) (x : A) → b ≡ true → only_if b x ≡ Some x
only_is b x h = rw h refl

-- Names of fields

differs : (x y : List ℕ) → bytes_eq x y ≡ false → x ≢ y
differs x y is e = let same = (bytes_eq-Decides x y).1 e in cc

equal_self : (x : List ℕ) → bytes_eq x x ≡ true
equal_self x = (bytes_eq-Decides x x).1 refl

none_more : (ys : List FieldDef) (x : List ℕ) (t : Ty) → (list_any (bytes_eq x) (map (λ (y : FieldDef). y.name) ys) ≡ false → (i : ℕ) → slice_get ys i ≡ Some (record { name = x; ty = t }) → ⊥) → (y : FieldDef) (b : Bool) → bytes_eq x y.name ≡ b → (i : ℕ) → slice_get (y ∷ ys) i ≡ Some (record { name = x; ty = t }) → (b || list_any (bytes_eq x) (map (λ (y : FieldDef). y.name) ys)) ≡ false → ⊥
none_more ys x t rest y true is i e h = cc
none_more ys x t rest y false is zero e h = let same : y ≡ record { name = x; ty = t } = cc in differs x y.name is (sym (ap (λ (y : FieldDef). y.name) same))
none_more ys x t rest y false is (suc i) e h = rest h i e

none_named : (xs : List FieldDef) (x : List ℕ) (t : Ty) → list_any (bytes_eq x) (map (λ (y : FieldDef). y.name) xs) ≡ false → (i : ℕ) → slice_get xs i ≡ Some (record { name = x; ty = t }) → ⊥
none_named [] x t h i e = cc
none_named (y ∷ ys) x t h i e = none_more ys x t (none_named ys x t) y (bytes_eq x y.name) refl i e h

distinct_parts : (b c : Bool) → (not b && c) ≡ true → (b ≡ false) × (c ≡ true)
distinct_parts true c h = cc
distinct_parts false c h = (refl, h)

place_more : (ys : List FieldDef) (x : List ℕ) (t : Ty) → ((i : ℕ) → slice_get ys i ≡ Some (record { name = x; ty = t }) → place_of (map (λ (y : FieldDef). y.name) ys) x ≡ Some i) → (y : FieldDef) → list_any (bytes_eq y.name) (map (λ (y : FieldDef). y.name) ys) ≡ false → (i : ℕ) → slice_get (y ∷ ys) i ≡ Some (record { name = x; ty = t }) → place_of (map (λ (y : FieldDef). y.name) (y ∷ ys)) x ≡ Some i
place_more ys x t rest y h zero e =
    let same : y ≡ record { name = x; ty = t } = cc in
    let is : bytes_eq y.name x ≡ true = ap (λ z. bytes_eq z x) (ap (λ (y : FieldDef). y.name) same) ∙ equal_self x in
    rw is refl
place_more ys x t rest y h (suc i) e = later (bytes_eq y.name x) refl
  where
    later : (b : Bool) → bytes_eq y.name x ≡ b → (if b then Some 0 else next_place (place_of (map (λ (y : FieldDef). y.name) ys) x)) ≡ Some (suc i)
    later true is =
        let same = (bytes_eq-Decides y.name x).0 is in
        absurd (none_named ys y.name t h i (e ∙ ap (λ z. Some (record { name = z; ty = t })) (sym same)))
    later false is = ap next_place (rest i e)

place_is : (xs : List FieldDef) (x : List ℕ) (t : Ty) → all_distinct (map (λ (y : FieldDef). y.name) xs) ≡ true → (i : ℕ) → slice_get xs i ≡ Some (record { name = x; ty = t }) → place_of (map (λ (y : FieldDef). y.name) xs) x ≡ Some i
place_is [] x t d i e = cc
place_is (y ∷ ys) x t d i e = let h = distinct_parts (list_any (bytes_eq y.name) (map (λ (y : FieldDef). y.name) ys)) (all_distinct (map (λ (y : FieldDef). y.name) ys)) d in place_more ys x t (place_is ys x t h.1) y h.0 i e

field_is : (top : Top) → AreDistinct top → (r : ℕ) (d : StructDef) → slice_get top.structs r ≡ Some d → (i : ℕ) (x : List ℕ) (t : Ty) → IsField d i x t → field_found d x ≡ Some (record { field = i; ty = t })
field_is top good r d there i x t f = rw (place_is d.fields x t (good r d there) i f.there, f.there) refl

-- Operators

wanted_operands : (k : Class) (o : Own) (u : Ty) → Wanted o (loose_takes k u) u → operands_want k o (result_of k u) ≡ Some (record { left = u; right = u; result = result_of k u })
wanted_operands k Wrong u w = absurd w
wanted_operands k (Firm v) u w = ap (λ v. Some (record { left = v; right = v; result = result_of k v })) w
wanted_operands k Loose u w = go k w
  where
    go : (k : Class) → IsTrue (loose_takes k u) → operands_want k Loose (result_of k u) ≡ Some (record { left = u; right = u; result = result_of k u })
    go Plus w = only_is _ _ w
    go Bitwise w = only_is _ _ w
    go Arithmetic w = cc
    go Order w = cc
    go Equality w = cc
    go Shift w = cc
    go Logic w = cc

-- what a binary operator wants, by its rule
pub record Operands (k : Class) (x y : Own) (t : Ty) (a b : Option Ty) : Type 0 where
  pub wants : Wants
  pub wanted : binary_wants k x y t ≡ Some wants
  pub left : a ≡ Some wants.left
  pub right : b ≡ Some wants.right
  pub result : wants.result ≡ t

operands_of : (k : Class) (x y : Own) (u : Ty) (a b : Option Ty) (t : Ty) → MeansOperation k x y u a b (Some t) → (operands_want k (operand k x y) t ≡ Some (record { left = u; right = u; result = result_of k u })) × (result_of k u ≡ t)
operands_of k x y u a b t m =
    let is : result_of k u ≡ t = some_same _ _ (sym m.result) in
    (subst (λ t. operands_want k (operand k x y) t ≡ Some (record { left = u; right = u; result = result_of k u })) is (wanted_operands k (operand k x y) u m.wanted), is)

binary_is : (k : Class) (x y : Own) (u : Ty) (a b : Option Ty) (t : Ty) → MeansBinary k x y u a b (Some t) → Operands k x y t a b
binary_is Plus x y u a b t m = let o = operands_of Plus x y u a b t m in record { wants = record { left = u; right = u; result = result_of Plus u }; wanted = o.0; left = m.left; right = m.right; result = o.1 }
binary_is Arithmetic x y u a b t m = let o = operands_of Arithmetic x y u a b t m in record { wants = record { left = u; right = u; result = result_of Arithmetic u }; wanted = o.0; left = m.left; right = m.right; result = o.1 }
binary_is Order x y u a b t m = let o = operands_of Order x y u a b t m in record { wants = record { left = u; right = u; result = result_of Order u }; wanted = o.0; left = m.left; right = m.right; result = o.1 }
binary_is Equality x y u a b t m = let o = operands_of Equality x y u a b t m in record { wants = record { left = u; right = u; result = result_of Equality u }; wanted = o.0; left = m.left; right = m.right; result = o.1 }
binary_is Bitwise x y u a b t m = let o = operands_of Bitwise x y u a b t m in record { wants = record { left = u; right = u; result = result_of Bitwise u }; wanted = o.0; left = m.left; right = m.right; result = o.1 }
binary_is Shift x y u a b t m = record { wants = record { left = u; right = int; result = u }; wanted = ap shift_wants m.shifted; left = m.left; right = m.right; result = some_same _ _ (sym m.result) }
binary_is Logic x y u a b t m = record { wants = record { left = bit; right = bit; result = bit }; wanted = refl; left = m.left; right = m.right; result = some_same _ _ (sym m.result) }

flip_is : (o : Own) (u : Ty) → Wanted o (is_bits u) u → flip_wants o u ≡ Some u
flip_is Wrong u w = absurd w
flip_is Loose u w = only_is _ _ w
flip_is (Firm v) u w = ap Some w

unary_is : (o : UnOp) (x : Own) (u : Ty) → MeansUnary o x u → unary_wants o x u ≡ Some u
unary_is unary.Not x u m = ap Some (sym m)
unary_is unary.Neg x u m = ap Some (sym m)
unary_is unary.Flip x u m = flip_is (flipped x) u m

module _ (context : Context) (scope : List Variable) (good : AreDistinct context.top) where
  abbrev at_tree : Expr → At
  at_tree = at context scope

  abbrev own_tree : Expr → Own
  own_tree = own context scope

  -- what a form means is what its expression becomes
  abbrev FormIs : PEForm → Type 0
  FormIs f = (u : Ty) (e : Expr) → FormMeans context scope f (Some u) e → at_tree e u ≡ Some (typed e.span u f)

  abbrev ExprIs : PExpr → Type 0
  ExprIs p = (e : Expr) (u : Ty) → Means context scope p e → p.ty ≡ Some u → at_tree e u ≡ Some p

  abbrev FieldIs : PField → Type 0
  FieldIs q = (r : ℕ) (d : StructDef) → slice_get context.top.structs r ≡ Some d → (x : NewField) → FieldMeans context scope q d x → setting_at d (setting_of context scope (x, field_at context scope x)) ≡ Some q

  abbrev with_ats : List Expr → List (Expr × At)
  with_ats es = map (λ e. (e, at_tree e)) es

  abbrev Made : Type 0
  Made = (p : PExpr) × ExprIs p

  abbrev MadeField : Type 0
  MadeField = (q : PField) × FieldIs q

  abbrev meaning : P.PEForm-F ((f : PEForm) × FormIs f) Made MadeField → P.PEForm-F PEForm PExpr PField
  meaning y = map-PEForm ((f : PEForm) × FormIs f) Made MadeField PEForm PExpr PField (λ q. q.0) (λ q. q.0) (λ q. q.0) y

  of_rule : (l : P.PEForm-F PEForm PExpr PField) (f : PEForm) → roll-PEForm l ≡ f → ((u : Ty) (e : Expr) → rule context scope l (Some u) e → at_tree e u ≡ Some (typed e.span u f)) → FormIs (roll-PEForm l)
  of_rule l f is k u e m = k u e (subst (λ (M : EFormRule). M (Some u) e) (form_means_are context scope l) m) ∙ ap (λ f. Some (typed e.span u f)) (sym is)

  -- the layer of a tree's form
  at_layer : (e : Expr) (u : Ty) (f : EForm) (l : E.EForm-F EForm Expr NewField) (p : PExpr) → e.form ≡ f → f ≡ roll-EForm l → placed context scope l e.span u ≡ Some p → at_tree e u ≡ Some p
  at_layer e u f l p is to h =
      ap (λ (k : At). k u) (at_is context scope e)
      ∙ ap (λ f. form_at context scope f e.span u) (is ∙ to)
      ∙ ap (λ (k : FormAt). k e.span u) (form_at_is context scope l) ∙ h

  -- Lists

  all_is : (t : Ty) (qs : List Made) (es : List Expr) → EachMeans (λ p. p) (Means context scope) t (map (λ q. q.0) qs) es → all_at t (map (at_of context scope) (map (λ e. (e, at_tree e)) es)) ≡ Some (map (λ q. q.0) qs)
  all_is t [] [] m = refl
  all_is t (q ∷ qs) (e ∷ es) m = rw (q.1 e t m.0 m.1, all_is t qs es m.2) refl
  all_is t [] (e ∷ es) m = absurd m
  all_is t (q ∷ qs) [] m = absurd m

  as_many : (t : Ty) (qs : List Made) (es : List Expr) → EachMeans (λ p. p) (Means context scope) t (map (λ q. q.0) qs) es → length es ≡ length (map (λ (q : Made). q.0) qs)
  as_many t [] [] m = refl
  as_many t (q ∷ qs) (e ∷ es) m = ap suc (as_many t qs es m.2)
  as_many t [] (e ∷ es) m = absurd m
  as_many t (q ∷ qs) [] m = absurd m

  string_first : (t : Ty) (e : Expr) → keeps (sort context scope e) t ≡ true → (q : Made) → Means context scope q.0 e → q.0.ty ≡ Some t → string_at t (item_of context scope (e, at_tree e)) ≡ Some q.0
  string_first t e is q m type = rw ((both_true (may_keep (own_tree e) t) ((sort context scope e).at t) is).0) (q.1 e t m type)

  strings_more : (t : Ty) (es : List Expr) → ((qs : List Made) → EachMeans (λ p. p) (Means context scope) t (map (λ q. q.0) qs) (kept context scope t es) → strings_at t (map (item_of context scope) (map (λ e. (e, at_tree e)) es)) ≡ map (λ q. q.0) qs) → (e : Expr) (b : Bool) → keeps (sort context scope e) t ≡ b → (qs : List Made) → EachMeans (λ p. p) (Means context scope) t (map (λ q. q.0) qs) (if b then e ∷ kept context scope t es else kept context scope t es) → with_string (string_at t (item_of context scope (e, at_tree e))) (strings_at t (map (item_of context scope) (map (λ e. (e, at_tree e)) es))) ≡ map (λ q. q.0) qs
  strings_more t es rest e false is qs m = rw (dropped_none context scope t e is) (rest qs m)
  strings_more t es rest e true is [] m = absurd m
  strings_more t es rest e true is (q ∷ qs) m = rw (string_first t e is q m.0 m.1, rest qs m.2) refl

  strings_are : (t : Ty) (es : List Expr) (qs : List Made) → EachMeans (λ p. p) (Means context scope) t (map (λ q. q.0) qs) (kept context scope t es) → strings_at t (map (item_of context scope) (map (λ e. (e, at_tree e)) es)) ≡ map (λ q. q.0) qs
  strings_are t [] [] m = refl
  strings_are t [] (q ∷ qs) m = absurd m
  strings_are t (e ∷ es) qs m = strings_more t es (strings_are t es) e (keeps (sort context scope e) t) refl qs m

  pub may_pass_is : (d : ParamDef) (f : EForm) → MayBeRef d.by_ref scope d.ty f → may_pass d (variable_type scope f) ≡ true
  may_pass_is d f m = go d.by_ref m
    where
      go : (b : Bool) → MayBeRef b scope d.ty f → (not b || is_some_type (variable_type scope f) d.ty) ≡ true
      go false m = refl
      go true m = ap (λ o. is_some_type o d.ty) m ∙ ty_self d.ty

  arguments_are : (ds : List ParamDef) (qs : List Made) (es : List Expr) → ArgumentsMean (λ p. p) (Means context scope) scope ds (map (λ q. q.0) qs) es → arguments_at ds (map (argument_of context scope) (map (λ e. (e, at_tree e)) es)) ≡ Some (map (λ q. q.0) qs)
  arguments_are [] [] [] m = refl
  arguments_are (d ∷ ds) (q ∷ qs) (e ∷ es) m = rw (may_pass_is d e.form m.2, q.1 e d.ty m.0 m.1, arguments_are ds qs es m.3) refl
  arguments_are [] [] (e ∷ es) m = absurd m
  arguments_are [] (q ∷ qs) [] m = absurd m
  arguments_are [] (q ∷ qs) (e ∷ es) m = absurd m
  arguments_are (d ∷ ds) [] [] m = absurd m
  arguments_are (d ∷ ds) [] (e ∷ es) m = absurd m
  arguments_are (d ∷ ds) (q ∷ qs) [] m = absurd m

  settings_are : (r : ℕ) (d : StructDef) → slice_get context.top.structs r ≡ Some d → (qs : List MadeField) (xs : List NewField) → FieldsMean (FieldMeans context scope) d (map (λ q. q.0) qs) xs → settings_at d (map (setting_of context scope) (map (λ x. (x, field_at context scope x)) xs)) ≡ Some (map (λ q. q.0) qs)
  settings_are r d there [] [] m = refl
  settings_are r d there (q ∷ qs) (x ∷ xs) m = rw (q.1 r d there x m.0, settings_are r d there qs xs m.1) refl
  settings_are r d there [] (x ∷ xs) m = absurd m
  settings_are r d there (q ∷ qs) [] m = absurd m

  setting_names : (xs : List NewField) → map (λ (e : Setting). e.name) (map (setting_of context scope) (map (λ x. (x, field_at context scope x)) xs)) ≡ map (λ (x : NewField). x.name) xs
  setting_names [] = refl
  setting_names (x ∷ xs) = ap (λ rest. x.name ∷ rest) (setting_names xs)

  pattern_is : (ps : List PExpr) (s : Span) (t : Ty) → IsMore ps → pattern_at ps s t ≡ Some (typed s t (pform.Pattern ps))
  pattern_is [] s t m = absurd m
  pattern_is (p ∷ ps) s t m = refl

  more_than_none : (ps : List PExpr) → IsMore ps → 1 ≤ length ps
  more_than_none [] m = absurd m
  more_than_none (p ∷ ps) m = omega arith

  element_is : (t u : Ty) (n : ℕ) → element_of t ≡ Some u → 1 ≤ n → n ≤ count_of t → element_wanted t n ≡ Some u
  element_is t u n e h k = rw (e, le-leb 1 n h, le-leb n (count_of t) k) refl

  meaning_here : (x : List ℕ) (slot : ℕ) (t : Ty) → Nearest scope x slot t → meaning_of context.top scope x ≡ AVariable (record { slot = slot; ty = t })
  meaning_here x slot t n = ap (λ o. variable_or o (top_meaning context.top x)) (nearest_lookup scope x slot t n)

  pub callee_is : (x : List ℕ) (f : FunId) (g : Signature) → IsCallee context.top scope x f g → callee_meant context.top (meaning_of context.top scope x) ≡ Some (record { id = f; signature = g })
  callee_is x f g c = rw (c.meaning, c.there, c.callable) refl

  -- A call is what it means, also one without a type.
  pub called_is : (x : List ℕ) (f : FunId) (g : Signature) (qs : List Made) (es : List Expr) → IsCallee context.top scope x f g → ArgumentsMean (λ p. p) (Means context scope) scope g.params (map (λ q. q.0) qs) es → called (callee_meant context.top (meaning_of context.top scope x)) (map (argument_of context scope) (map (λ e. (e, at_tree e)) es)) ≡ Some (record { result = g.result; form = pform.Call f (map (λ q. q.0) qs) })
  called_is x f g qs es c m = rw (callee_is x f g c, arguments_are g.params qs es m) refl

  coerced_is : (p : PExpr) (e : Expr) (u t : Ty) (q : PExpr) → ExprIs p → Means context scope p e → IsTrue (is_bare e) → own_tree e ≡ Firm u → p.ty ≡ Some u → coerced (fit_of u t) t p ≡ Some q → at_tree e t ≡ Some q
  coerced_is p e u t q h m bare own type c = bare_at context scope e bare u own t ∙ ap (λ o. o >>= coerced (fit_of u t) t) (h e u m type) ∙ c

  pub complete : (p : PExpr) → ExprIs p
  complete = pexpr_law FormIs ExprIs FieldIs form_layer expr_layer field_layer
    where
      expr_layer : (p : PExpr) → FormIs p.form → ExprIs p
      expr_layer p h e u m type =
          let r = means_parts context scope p e m in
          h u e (subst (λ t. FormMeans context scope p.form t e) type r.1) ∙ (λ i. Some (record { span = sym r.0 i; ty = sym type i; form = p.form }))

      field_means_is : (q : PField) → FieldMeans context scope q ≡ (λ d x. (t : Ty) × IsField d q.field x.name t × Means context scope q.value x.value × (q.value.ty ≡ Some t))
      field_means_is q = rec-roll-PField EFormRule ExprRule FieldRule (eform_means context scope) (expr_means context scope) (field_means context scope) (λ X Y Z u v w f k n x. refl) (record { field = q.field; value = q.value })

      field_layer : (q : PField) → ExprIs q.value → FieldIs q
      field_layer q h r d there x m =
          let a = subst (λ (M : FieldRule). M d x) (field_means_is q) m in
          let f = field_is context.top good r d there q.field x.name a.0 a.1 in
          let v = ap (λ (k : At). k a.0) (field_at_is context scope x) ∙ h x.value a.0 a.2 a.3 in
          rw (f, v) refl

      form_layer : (y : P.PEForm-F ((f : PEForm) × FormIs f) Made MadeField) → FormIs (roll-PEForm (meaning y))
      form_layer (P.Number n) = of_rule (P.Number n) (pform.Number n) (pform.rolls-Number n) (λ u e r. at_layer e u _ (E.Number n) _ r.0 (sym (eform.rolls-Number n)) (rw (r.1) (number_is n e.span u r.2 (nat_lt n 2) refl)))
      form_layer P.True = of_rule P.True pform.True pform.rolls-True (λ u e r. at_layer e u _ E.True _ r.0 (sym eform.rolls-True) (subst (λ t. firm_at bit (Some pform.True) e.span t ≡ Some (typed e.span t pform.True)) (sym (some_same _ _ r.1)) (own_firm bit pform.True e.span)))
      form_layer P.False = of_rule P.False pform.False pform.rolls-False (λ u e r. at_layer e u _ E.False _ r.0 (sym eform.rolls-False) (subst (λ t. firm_at bit (Some pform.False) e.span t ≡ Some (typed e.span t pform.False)) (sym (some_same _ _ r.1)) (own_firm bit pform.False e.span)))
      form_layer P.Null = of_rule P.Null pform.Null pform.rolls-Null (λ u e r. at_layer e u _ E.Null _ r.0 (sym eform.rolls-Null) (only_is _ _ r.1))
      form_layer (P.Var slot x) = of_rule (P.Var slot x) (pform.Var slot x) (pform.rolls-Var slot x) (λ u e r.
          let is : u ≡ r.1 = some_same _ _ r.2 in
          at_layer e u _ (E.Word x) _ r.0 (sym (eform.rolls-Word x)) (subst (λ t. named_at (meaning_of context.top scope x) x e.span t ≡ Some (typed e.span t (pform.Var slot x))) (sym is) (rw (meaning_here x slot r.1 r.3) (own_firm r.1 (pform.Var slot x) e.span))))
      form_layer (P.Const c) = of_rule (P.Const c) (pform.Const c) (pform.rolls-Const c) (λ u e r. at_layer e u _ (E.Word r.0) _ r.1 (sym (eform.rolls-Word r.0)) (subst (λ t. named_at (meaning_of context.top scope r.0) r.0 e.span t ≡ Some (typed e.span t (pform.Const c))) (sym (some_same _ _ r.3)) (rw (r.2) (own_firm int (pform.Const c) e.span))))
      form_layer (P.Hole n) = of_rule (P.Hole n) (pform.Hole n) (pform.rolls-Hole n) (λ u e r. at_layer e u _ (E.Hole n) _ r.0 (sym (eform.rolls-Hole n)) (only_is _ _ (both _ _ r.1 r.2)))
      form_layer (P.Pattern qs) = of_rule (P.Pattern (map (λ q. q.0) qs)) (pform.Pattern (map (λ q. q.0) qs)) (pform.rolls-Pattern (map (λ q. q.0) qs)) (λ u e r.
          let is : u ≡ r.3 = some_same _ _ r.4 in
          let m = subst (λ t. EachMeans (λ p. p) (Means context scope) t (map (λ q. q.0) qs) (kept context scope t r.1)) (sym is) r.6 in
          at_layer e u _ (E.Pattern r.0 r.1) _ r.2 (sym (eform.rolls-Pattern r.0 r.1)) (ap (λ ps. pattern_at ps e.span u) (strings_are u r.1 qs m) ∙ pattern_is (map (λ q. q.0) qs) e.span u r.5))
      form_layer (P.Paren (a, ia)) = of_rule (P.Paren a) (pform.Paren a) (pform.rolls-Paren a) (λ u e r.
          let is : u ≡ r.3 = some_same _ _ r.5 in
          at_layer e u _ (E.Paren r.0) _ r.1 (sym (eform.rolls-Paren r.0)) (rw (ia r.0 u r.2 (r.4 ∙ ap Some (sym is))) refl))
      form_layer (P.Call g qs) = of_rule (P.Call g (map (λ q. q.0) qs)) (pform.Call g (map (λ q. q.0) qs)) (pform.rolls-Call g (map (λ q. q.0) qs)) (λ u e r.
          at_layer e u _ (E.Call r.0 r.1) _ r.2 (sym (eform.rolls-Call r.0 r.1)) (ap (λ o. call_at o e.span u) (called_is r.0 g r.3 qs r.1 r.4 r.5) ∙ ap (λ o. call_at (Some (record { result = o; form = pform.Call g (map (λ q. q.0) qs) })) e.span u) (sym r.6) ∙ own_firm u (pform.Call g (map (λ q. q.0) qs)) e.span))
      form_layer (P.New k qs) = of_rule (P.New k (map (λ q. q.0) qs)) (pform.New k (map (λ q. q.0) qs)) (pform.rolls-New k (map (λ q. q.0) qs)) (λ u e r.
          let names : all_distinct (map (λ (e : Setting). e.name) (map (setting_of context scope) (map (λ x. (x, field_at context scope x)) r.1))) ≡ true = ap all_distinct (setting_names r.1) ∙ r.6 in
          at_layer e u _ (E.New r.0 r.1) _ r.2 (sym (eform.rolls-New r.0 r.1)) (subst (λ t. record_at context.top (struct_meant (meaning_of context.top scope r.0)) (map (setting_of context scope) (map (λ x. (x, field_at context scope x)) r.1)) e.span t ≡ Some (typed e.span t (pform.New k (map (λ q. q.0) qs)))) (sym (some_same _ _ r.7)) (rw (r.4.meaning, r.4.there, names, settings_are k.index r.3 r.4.there qs r.1 r.5) (own_firm (reference_to k) (pform.New k (map (λ q. q.0) qs)) e.span))))
      form_layer (P.Braces qs) = of_rule (P.Braces (map (λ q. q.0) qs)) (pform.Braces (map (λ q. q.0) qs)) (pform.rolls-Braces (map (λ q. q.0) qs)) (λ u e r.
          let is : u ≡ r.5 = some_same _ _ r.8 in
          let many : length (with_ats r.0) ≡ length (map (λ (q : Made). q.0) qs) = length-map r.0 (λ e. (e, at_tree e)) ∙ as_many r.3 qs r.0 r.4 in
          let wanted : element_wanted u (length (with_ats r.0)) ≡ Some r.3 = ap (element_wanted u) many ∙ element_is u r.3 (length (map (λ (q : Made). q.0) qs)) (ap element_of is ∙ r.6) (more_than_none (map (λ q. q.0) qs) r.2) (subst (λ t. length (map (λ (q : Made). q.0) qs) ≤ count_of t) (sym is) r.7) in
          at_layer e u _ (E.Braces r.0) _ r.1 (sym (eform.rolls-Braces r.0)) (rw (wanted, all_is r.3 qs r.0 r.4) refl))
      form_layer (P.Member (a, ia) k i) = of_rule (P.Member a k i) (pform.Member a k i) (pform.rolls-Member a k i) (λ u e r.
          at_layer e u _ (E.Member r.0 r.1) _ r.2 (sym (eform.rolls-Member r.0 r.1)) (subst (λ t. member_at context.top (reference_meant (own_tree r.0)) (at_tree r.0) r.1 e.span t ≡ Some (typed e.span t (pform.Member a k i))) (sym (some_same _ _ r.10)) (rw (r.4, r.7, field_is context.top good k.index r.6 r.7 i r.1 r.8 r.9, ia r.0 (reference_to k) r.3 r.5) (own_firm r.8 (pform.Member a k i) e.span))))
      form_layer (P.Index (a, ia) (j, ij)) = of_rule (P.Index a j) (pform.Index a j) (pform.rolls-Index a j) (λ u e r.
          at_layer e u _ (E.Index r.0 r.1) _ r.2 (sym (eform.rolls-Index r.0 r.1)) (subst (λ t. index_at (own_tree r.0) (at_tree r.0) (at_tree r.1) e.span t ≡ Some (typed e.span t (pform.Index a j))) (sym (some_same _ _ r.11)) (rw (r.6, r.10, ia r.0 r.5 r.3 r.7, ij r.1 int r.4 r.8) (own_firm r.9 (pform.Index a j) e.span))))
      form_layer (P.Slice (a, ia) (j, ij) n) = of_rule (P.Slice a j n) (pform.Slice a j n) (pform.rolls-Slice a j n) (λ u e r.
          at_layer e u _ (E.Slice r.0 r.1 r.2) _ r.3 (sym (eform.rolls-Slice r.0 r.1 r.2)) (subst (λ t. slice_at (own_tree r.0) (constant_number context scope r.2) (at_tree r.0) (at_tree r.1) e.span t ≡ Some (typed e.span t (pform.Slice a j n))) (sym (some_same _ _ r.13)) (rw (r.7, r.10, r.12, ia r.0 r.6 r.4 r.8, ij r.1 int r.5 r.9) (own_firm r.11 (pform.Slice a j n) e.span))))
      form_layer (P.Unary o (a, ia)) = of_rule (P.Unary o a) (pform.Unary o a) (pform.rolls-Unary o a) (λ u e r.
          let is : u ≡ r.5 = some_same _ _ r.8 in
          at_layer e u _ (E.Unary r.0 r.1) _ r.2 (sym (eform.rolls-Unary r.0 r.1)) (subst (λ t. unary_at (unary_of r.0) (own_tree r.1) (at_tree r.1) e.span t ≡ Some (typed e.span t (pform.Unary o a))) (sym is) (rw (r.3, unary_is o (own_tree r.1) r.5 r.6, ia r.1 r.5 r.4 r.7) (own_firm r.5 (pform.Unary o a) e.span))))
      form_layer (P.Binary o (a, ia) (b, ib)) = of_rule (P.Binary o a b) (pform.Binary o a b) (pform.rolls-Binary o a b) (λ u e r.
          let w = binary_is (class_of o) (own_tree r.1) (own_tree r.2) r.7 a.ty b.ty u r.8 in
          let result = subst (λ t. firm_at w.wants.result (Some (pform.Binary o a b)) e.span t ≡ Some (typed e.span t (pform.Binary o a b))) w.result (own_firm w.wants.result (pform.Binary o a b) e.span) in
          at_layer e u _ (E.Binary r.0 r.1 r.2) _ r.3 (sym (eform.rolls-Binary r.0 r.1 r.2)) (rw (r.4, w.wanted, ia r.1 w.wants.left r.5 w.left, ib r.2 w.wants.right r.6 w.right) result))
      form_layer (P.Cond (c, ic) (a, ia) (b, ib)) = of_rule (P.Cond c a b) (pform.Cond c a b) (pform.rolls-Cond c a b) (λ u e r.
          let is : u ≡ r.8 = some_same _ _ r.11 in
          at_layer e u _ (E.Cond r.0 r.1 r.2) _ r.3 (sym (eform.rolls-Cond r.0 r.1 r.2)) (rw (ic r.0 bit r.4 r.7, ia r.1 u r.5 (r.9 ∙ ap Some (sym is)), ib r.2 u r.6 (r.10 ∙ ap Some (sym is))) refl))
      form_layer (P.ToInt (a, ia)) = of_rule (P.ToInt a) (pform.ToInt a) (pform.rolls-ToInt a) (λ u e r.
          let is : u ≡ int = some_same _ _ r.2.result in
          let span = (means_parts context scope a e r.0).0 in
          coerced_is a e bit u (typed e.span u (pform.ToInt a)) ia r.0 r.1 r.2.own r.2.operand (subst (λ t. coerced (fit_of bit t) t a ≡ Some (typed e.span t (pform.ToInt a))) (sym is) (ap (λ s. Some (typed s int (pform.ToInt a))) span)))
      form_layer (P.Pad (a, ia)) = of_rule (P.Pad a) (pform.Pad a) (pform.rolls-Pad a) (λ u e r.
          let w = r.2 in
          let is : u ≡ w.to = some_same _ _ w.result in
          let span = (means_parts context scope a e r.0).0 in
          coerced_is a e w.from u (typed e.span u (pform.Pad a)) ia r.0 r.1 w.own w.operand (subst (λ t. coerced (fit_of w.from t) t a ≡ Some (typed e.span t (pform.Pad a))) (sym is) (rw (w.fit) (ap (λ s. Some (typed s w.to (pform.Pad a))) span))))
