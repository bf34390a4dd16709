-- What an expression means has numbers of what is there, where its type has them.
use Rattle.std.proofs.Common.{◌≡◌, ℕ, ◌≤◌, Bool, true, false, List, [], ◌∷◌, length, Option, Some, refl, sym, ap, subst, ◌∙◌, arith}
use Rattle.std.specs.Prelude.{◌&&◌, map, slice_get, if◌then◌else◌}
use Rattle.std.specs.List.{list_all}
use Rattle.std.proofs.lemmas.Bool.{lt-ltb}
use Rattle.std.proofs.lemmas.List.Folds.{list_all-map}
use Rattle.std.proofs.lemmas.Option.{slice_get_within}
use Rattle.sk_base.specs.declared.bounds.Bounds.{Bounds}
use Rattle.sk_tree.specs.declared.expr.Expr.{Expr}
use Rattle.sk_tree.specs.declared.expr.EForm.{EForm}
use Rattle.sk_tree.specs.declared.expr.EForm.TheVariants as eform
use Rattle.sk_tree.specs.declared.expr.EForm.TheOpen as E
use Rattle.sk_tree.specs.declared.expr.EForm.TheViews.{roll-EForm}
use Rattle.sk_tree.specs.declared.expr.EForm.TheFolds.{map-EForm, fold-EForm, fold-NewField, fold-roll-EForm, fold-roll-Expr, fold-roll-NewField}
use Rattle.sk_tree.specs.declared.expr.NewField.{NewField}
use Rattle.sk_tree.specs.Names.{eform_names, expr_names, is_yes as tree_yes}
use Rattle.sk_prog.specs.Names.{is_yes}
use Rattle.sk_prog.specs.declared.ty.Ty.{Ty}
use Rattle.sk_prog.specs.declared.ty.Ty.TheVariants as ty
use Rattle.sk_prog.specs.declared.ty.Elem.TheVariants as elem
use Rattle.sk_prog.specs.declared.ids.StructId.{StructId}
use Rattle.sk_prog.specs.declared.expr.PExpr.{PExpr}
use Rattle.sk_prog.specs.declared.expr.PEForm.{PEForm}
use Rattle.sk_prog.specs.declared.expr.PField.{PField}
use Rattle.sk_prog.specs.declared.expr.PEForm.TheOpen as P
use Rattle.sk_prog.specs.declared.expr.PEForm.TheViews.{roll-PEForm}
use Rattle.sk_prog.specs.declared.expr.PEForm.TheFolds.{map-PEForm, fold-PEForm, fold-PField, fold-roll-PEForm, fold-roll-PExpr, fold-roll-PField, rec-roll-PField}
use Rattle.sk_prog.specs.declared.prog.StructDef.{StructDef}
use Rattle.sk_prog.specs.declared.prog.ParamDef.{ParamDef}
use Rattle.sk_prog.specs.declared.prog.Prog.{Prog}
use Rattle.sk_prog.specs.Fits.{is_name, has_field, ty_fits, any_ty_fits, eform_fits, layer_fits, pfield_fits, expr_fits}
use Rattle.sk_types_rules.specs.declared.rules.Own.{Own}
use Rattle.sk_types_rules.specs.declared.rules.Own.TheVariants.{Wrong, Loose, Firm}
use Rattle.sk_types_rules.specs.declared.rules.Class.{Class}
use Rattle.sk_types_rules.specs.declared.rules.Class.TheVariants.{Plus, Arithmetic, Order, Equality, Bitwise, Shift, Logic}
use Rattle.sk_types_rules.specs.declared.scope.Variable.{Variable}
use Rattle.sk_types_rules.specs.Rules.{class_of, operand, loose_takes}
use Rattle.sk_types_rules.specs.Scope.{Known, Context}
use Rattle.sk_types_rules.specs.Sorts.{keeps, kept, sort, own}
use Rattle.sk_types_rules.specs.Types.{ExprRule, EFormRule, FieldRule, Wanted, MeansOperation, MeansBinary, EachMeans, ArgumentsMean, FieldsMean, IsField, eform_means, expr_means, field_means, Means}
use Rattle.sk_types_rules.proofs.Layers.{FormMeans, FieldMeans, rule, form_means_are, means_parts}
use Rattle.sk_types_laws.proofs.Ats.{both_true, both, pexpr_law}
use Rattle.sk_types_fit_laws.proofs.Found.{top, get_within, const_there, fun_there, field_there}
use Rattle.sk_types_fit_laws.proofs.Owns.{TopFits, own_fits, param_fit, variable_fit, operand_fits, shifted_fits, element_fits, field_type_fits, signature_is, owns_fit, own_there}

-- Names of trees

abbrev pub named : Expr → Bool
named = expr_names is_name

abbrev pub form_named : EForm → Bool
form_named = fold-EForm Bool Bool Bool (eform_names is_name) (λ x. x.form) (λ x. is_name x.name && x.value)

abbrev pub field_named : NewField → Bool
field_named = fold-NewField Bool Bool Bool (eform_names is_name) (λ x. x.form) (λ x. is_name x.name && x.value)

pub named_is : (e : Expr) → named e ≡ form_named e.form
named_is e = fold-roll-Expr Bool Bool Bool (eform_names is_name) (λ x. x.form) (λ x. is_name x.name && x.value) (record { span = e.span; form = e.form })

field_named_is : (x : NewField) → field_named x ≡ (is_name x.name && named x.value)
field_named_is x = fold-roll-NewField Bool Bool Bool (eform_names is_name) (λ x. x.form) (λ x. is_name x.name && x.value) (record { name = x.name; value = x.value })

pub names_in : (e : Expr) (f : EForm) (l : E.EForm-F EForm Expr NewField) → e.form ≡ f → roll-EForm l ≡ f → named e ≡ true → eform_names is_name (map-EForm EForm Expr NewField Bool Bool Bool form_named named field_named l) ≡ true
names_in e f l is to h =
    sym (fold-roll-EForm Bool Bool Bool (eform_names is_name) (λ x. x.form) (λ x. is_name x.name && x.value) l)
    ∙ ap form_named (to ∙ sym is) ∙ sym (named_is e) ∙ h

pub all_named : (es : List Expr) → list_all tree_yes (map named es) ≡ true → list_all named es ≡ true
all_named es h = sym (list_all-map tree_yes named es) ∙ h

all_set : (xs : List NewField) → list_all tree_yes (map field_named xs) ≡ true → list_all field_named xs ≡ true
all_set xs h = sym (list_all-map tree_yes field_named xs) ∙ h

-- Layers of programs

module _ (prog : Prog) (slots : ℕ) where
  abbrev pub form_good : PEForm → Bool
  form_good = fold-PEForm Bool Bool (StructId → Bool) (eform_fits prog slots) (layer_fits prog slots) (pfield_fits prog slots)

  abbrev pub field_good : PField → StructId → Bool
  field_good = fold-PField Bool Bool (StructId → Bool) (eform_fits prog slots) (layer_fits prog slots) (pfield_fits prog slots)

  pub form_good_is : (l : P.PEForm-F PEForm PExpr PField) → form_good (roll-PEForm l) ≡ eform_fits prog slots (map-PEForm PEForm PExpr PField Bool Bool (StructId → Bool) form_good (expr_fits prog slots) field_good l)
  form_good_is l = fold-roll-PEForm Bool Bool (StructId → Bool) (eform_fits prog slots) (layer_fits prog slots) (pfield_fits prog slots) l

  pub expr_good_is : (p : PExpr) → expr_fits prog slots p ≡ (any_ty_fits prog p.ty && form_good p.form)
  expr_good_is p = fold-roll-PExpr Bool Bool (StructId → Bool) (eform_fits prog slots) (layer_fits prog slots) (pfield_fits prog slots) (record { span = p.span; ty = p.ty; form = p.form })

  pub field_good_is : (q : PField) → field_good q ≡ (λ s. has_field prog s q.field && expr_fits prog slots q.value)
  field_good_is q = fold-roll-PField Bool Bool (StructId → Bool) (eform_fits prog slots) (layer_fits prog slots) (pfield_fits prog slots) (record { field = q.field; value = q.value })

module _ (prog : Prog) where
  -- Operands

  loose_ty : (k : Class) (u : Ty) → loose_takes k u ≡ true → ty_fits prog u ≡ true
  loose_ty Plus (ty.One elem.Int) h = refl
  loose_ty Plus (ty.One elem.Bit) h = refl
  loose_ty Plus (ty.One (elem.Reference s)) h = cc
  loose_ty Plus (ty.Array elem.Bit n) h = refl
  loose_ty Plus (ty.Array elem.Int n) h = refl
  loose_ty Plus (ty.Array (elem.Reference s) n) h = cc
  loose_ty Plus (ty.Grid a n m) h = cc
  loose_ty Bitwise (ty.One elem.Int) h = refl
  loose_ty Bitwise (ty.One elem.Bit) h = refl
  loose_ty Bitwise (ty.One (elem.Reference s)) h = cc
  loose_ty Bitwise (ty.Array elem.Bit n) h = refl
  loose_ty Bitwise (ty.Array elem.Int n) h = refl
  loose_ty Bitwise (ty.Array (elem.Reference s) n) h = cc
  loose_ty Bitwise (ty.Grid a n m) h = cc
  loose_ty Arithmetic u h = cc
  loose_ty Order u h = cc
  loose_ty Equality u h = cc
  loose_ty Shift u h = cc
  loose_ty Logic u h = cc

  wanted_fits : (k : Class) (o : Own) (u : Ty) → Wanted o (loose_takes k u) u → own_fits prog o ≡ true → ty_fits prog u ≡ true
  wanted_fits k Wrong u w h = absurd w
  wanted_fits k Loose u w h = loose_ty k u w
  wanted_fits k (Firm v) u w h = ap (ty_fits prog) (sym w) ∙ h

  abbrev Both : Option Ty → Option Ty → Type 0
  Both a b = (any_ty_fits prog a ≡ true) × (any_ty_fits prog b ≡ true)

  operation_fits : (k : Class) (x y : Own) (u : Ty) (a b t : Option Ty) → MeansOperation k x y u a b t → own_fits prog x ≡ true → own_fits prog y ≡ true → Both a b
  operation_fits k x y u a b t m h j =
      let w = wanted_fits k (operand k x y) u m.wanted (operand_fits prog k x y h j) in
      (ap (any_ty_fits prog) m.left ∙ w, ap (any_ty_fits prog) m.right ∙ w)

  operands_fit : (k : Class) (x y : Own) (u : Ty) (a b t : Option Ty) → MeansBinary k x y u a b t → own_fits prog x ≡ true → own_fits prog y ≡ true → Both a b
  operands_fit Plus x y u a b t m h j = operation_fits Plus x y u a b t m h j
  operands_fit Arithmetic x y u a b t m h j = operation_fits Arithmetic x y u a b t m h j
  operands_fit Order x y u a b t m h j = operation_fits Order x y u a b t m h j
  operands_fit Equality x y u a b t m h j = operation_fits Equality x y u a b t m h j
  operands_fit Bitwise x y u a b t m h j = operation_fits Bitwise x y u a b t m h j
  operands_fit Shift x y u a b t m h j =
      let w = subst (λ o. own_fits prog o ≡ true) m.shifted (shifted_fits prog x h) in
      (ap (any_ty_fits prog) m.left ∙ w, ap (any_ty_fits prog) m.right)
  operands_fit Logic x y u a b t m h j = (ap (any_ty_fits prog) m.left, ap (any_ty_fits prog) m.right)

  module _ (good : TopFits prog) (bounds : Bounds) (known : List Known) (scope : List Variable) (vars : list_all (variable_fit prog) scope ≡ true) (slots : ℕ) (within : length scope ≤ slots) where
    abbrev context : Context
    context = record { bounds = bounds; top = top prog; known = known }

    there : (e : Expr) (t : Ty) → own context scope e ≡ Firm t → ty_fits prog t ≡ true
    there e t h = own_there prog good context refl scope vars e t h

    abbrev form_ok : PEForm → Bool
    form_ok = form_good prog slots

    abbrev expr_ok : PExpr → Bool
    expr_ok = expr_fits prog slots

    abbrev field_ok : PField → StructId → Bool
    field_ok = field_good prog slots

    abbrev FormFits : PEForm → Type 0
    FormFits f = (t : Option Ty) (e : Expr) → FormMeans context scope f t e → any_ty_fits prog t ≡ true → named e ≡ true → form_ok f ≡ true

    abbrev ExprFits : PExpr → Type 0
    ExprFits p = (e : Expr) → Means context scope p e → any_ty_fits prog p.ty ≡ true → named e ≡ true → expr_ok p ≡ true

    abbrev FieldFits : PField → Type 0
    FieldFits q = (r : StructId) (d : StructDef) → slice_get prog.structs r.index ≡ Some d → (x : NewField) → FieldMeans context scope q d x → named x.value ≡ true → field_ok q r ≡ true

    abbrev Fitted : Type 0
    Fitted = (p : PExpr) × ExprFits p

    abbrev FittedField : Type 0
    FittedField = (q : PField) × FieldFits q

    abbrev meaning : P.PEForm-F ((f : PEForm) × FormFits f) Fitted FittedField → P.PEForm-F PEForm PExpr PField
    meaning y = map-PEForm ((f : PEForm) × FormFits f) Fitted FittedField PEForm PExpr PField (λ q. q.0) (λ q. q.0) (λ q. q.0) y

    of_rule : (l : P.PEForm-F PEForm PExpr PField) → ((t : Option Ty) (e : Expr) → rule context scope l t e → any_ty_fits prog t ≡ true → named e ≡ true → eform_fits prog slots (map-PEForm PEForm PExpr PField Bool Bool (StructId → Bool) form_ok expr_ok field_ok l) ≡ true) → FormFits (roll-PEForm l)
    of_rule l k t e m h n = form_good_is prog slots l ∙ k t e (subst (λ (M : EFormRule). M t e) (form_means_are context scope l) m) h n

    -- Lists

    each_fit : (t : Ty) (qs : List Fitted) (es : List Expr) → EachMeans (λ p. p) (Means context scope) t (map (λ q. q.0) qs) es → ty_fits prog t ≡ true → list_all named es ≡ true → list_all is_yes (map expr_ok (map (λ (q : Fitted). q.0) qs)) ≡ true
    each_fit t [] [] m h n = refl
    each_fit t (q ∷ qs) (e ∷ es) m h n =
        let k = both_true (named e) (list_all named es) n in
        both _ _ (q.1 e m.0 (ap (any_ty_fits prog) m.1 ∙ h) k.0) (each_fit t qs es m.2 h k.1)
    each_fit t [] (e ∷ es) m h n = absurd m
    each_fit t (q ∷ qs) [] m h n = absurd m

    kept_more : (t : Ty) (e : Expr) (es : List Expr) (b : Bool) → named e ≡ true → list_all named (kept context scope t es) ≡ true → list_all named (if b then e ∷ kept context scope t es else kept context scope t es) ≡ true
    kept_more t e es true h rest = both _ _ h rest
    kept_more t e es false h rest = rest

    kept_named : (t : Ty) (es : List Expr) → list_all named es ≡ true → list_all named (kept context scope t es) ≡ true
    kept_named t [] h = refl
    kept_named t (e ∷ es) h = let k = both_true (named e) (list_all named es) h in kept_more t e es (keeps (sort context scope e) t) k.0 (kept_named t es k.1)

    arguments_fit : (ds : List ParamDef) (qs : List Fitted) (es : List Expr) → ArgumentsMean (λ p. p) (Means context scope) scope ds (map (λ q. q.0) qs) es → list_all (param_fit prog) ds ≡ true → list_all named es ≡ true → list_all is_yes (map expr_ok (map (λ (q : Fitted). q.0) qs)) ≡ true
    arguments_fit [] [] [] m h n = refl
    arguments_fit (d ∷ ds) (q ∷ qs) (e ∷ es) m h n =
        let j = both_true (param_fit prog d) (list_all (param_fit prog) ds) h in
        let k = both_true (named e) (list_all named es) n in
        both _ _ (q.1 e m.0 (ap (any_ty_fits prog) m.1 ∙ j.0) k.0) (arguments_fit ds qs es m.3 j.1 k.1)
    arguments_fit [] [] (e ∷ es) m h n = absurd m
    arguments_fit [] (q ∷ qs) [] m h n = absurd m
    arguments_fit [] (q ∷ qs) (e ∷ es) m h n = absurd m
    arguments_fit (d ∷ ds) [] [] m h n = absurd m
    arguments_fit (d ∷ ds) [] (e ∷ es) m h n = absurd m
    arguments_fit (d ∷ ds) (q ∷ qs) [] m h n = absurd m

    fields_fit : (r : StructId) (d : StructDef) → slice_get prog.structs r.index ≡ Some d → (qs : List FittedField) (xs : List NewField) → FieldsMean (FieldMeans context scope) d (map (λ q. q.0) qs) xs → list_all field_named xs ≡ true → list_all (λ (f : StructId → Bool). f r) (map field_ok (map (λ (q : FittedField). q.0) qs)) ≡ true
    fields_fit r d is [] [] m n = refl
    fields_fit r d is (q ∷ qs) (x ∷ xs) m n =
        let k = both_true (field_named x) (list_all field_named xs) n in
        let v = both_true (is_name x.name) (named x.value) (sym (field_named_is x) ∙ k.0) in
        both _ _ (q.1 r d is x m.0 v.1) (fields_fit r d is qs xs m.1 k.1)
    fields_fit r d is [] (x ∷ xs) m n = absurd m
    fields_fit r d is (q ∷ qs) [] m n = absurd m

    -- an expression that means something at a type that fits
    pub fit : (p : PExpr) → ExprFits p
    fit = pexpr_law FormFits ExprFits FieldFits form_layer expr_layer field_layer
      where
        expr_layer : (p : PExpr) → FormFits p.form → ExprFits p
        expr_layer p h e m t n =
            let r = means_parts context scope p e m in
            expr_good_is prog slots p ∙ both _ _ t (h p.ty e r.1 t n)

        field_means_is : (q : PField) → FieldMeans context scope q ≡ (λ d x. (t : Ty) × IsField d q.field x.name t × Means context scope q.value x.value × (q.value.ty ≡ Some t))
        field_means_is q = rec-roll-PField EFormRule ExprRule FieldRule (eform_means context scope) (expr_means context scope) (field_means context scope) (λ X Y Z u v w f k n x. refl) (record { field = q.field; value = q.value })

        field_layer : (q : PField) → ExprFits q.value → FieldFits q
        field_layer q h r d is x m n =
            let a = subst (λ (M : FieldRule). M d x) (field_means_is q) m in
            ap (λ (f : StructId → Bool). f r) (field_good_is prog slots q)
            ∙ both _ _ (field_there prog r d q.field _ is a.1.there) (h x.value a.2 (ap (any_ty_fits prog) a.3 ∙ field_type_fits prog good r d q.field _ is a.1.there) n)

        form_layer : (y : P.PEForm-F ((f : PEForm) × FormFits f) Fitted FittedField) → FormFits (roll-PEForm (meaning y))
        form_layer (P.Number i) = of_rule (P.Number i) (λ t e r h n. refl)
        form_layer P.True = of_rule P.True (λ t e r h n. refl)
        form_layer P.False = of_rule P.False (λ t e r h n. refl)
        form_layer P.Null = of_rule P.Null (λ t e r h n. refl)
        form_layer (P.Var slot x) = of_rule (P.Var slot x) (λ t e r h n.
            let i = slice_get_within scope slot _ r.3.there in
            both _ _ (lt-ltb slot slots (omega (arith, i, within))) (names_in e _ (E.Word x) r.0 (eform.rolls-Word x) n))
        form_layer (P.Const c) = of_rule (P.Const c) (λ t e r h n. const_there prog scope r.0 c r.2)
        form_layer (P.Hole i) = of_rule (P.Hole i) (λ t e r h n. refl)
        form_layer (P.Pattern qs) = of_rule (P.Pattern (map (λ q. q.0) qs)) (λ t e r h n.
            let es = all_named r.1 (names_in e _ (E.Pattern r.0 r.1) r.2 (eform.rolls-Pattern r.0 r.1) n) in
            each_fit r.3 qs (kept context scope r.3 r.1) r.6 (ap (any_ty_fits prog) (sym r.4) ∙ h) (kept_named r.3 r.1 es))
        form_layer (P.Paren (a, ia)) = of_rule (P.Paren a) (λ t e r h n.
            ia r.0 r.2 (ap (any_ty_fits prog) (r.4 ∙ sym r.5) ∙ h) (names_in e _ (E.Paren r.0) r.1 (eform.rolls-Paren r.0) n))
        form_layer (P.Call g qs) = of_rule (P.Call g (map (λ q. q.0) qs)) (λ t e r h n.
            let s = both_true _ _ (signature_is prog good g.index r.3 r.4.there) in
            let k = both_true _ _ (names_in e _ (E.Call r.0 r.1) r.2 (eform.rolls-Call r.0 r.1) n) in
            both _ _ (fun_there prog g r.3 r.4.there) (arguments_fit r.3.params qs r.1 r.5 s.1 (all_named r.1 k.1)))
        form_layer (P.New s qs) = of_rule (P.New s (map (λ q. q.0) qs)) (λ t e r h n.
            let k = both_true _ _ (names_in e _ (E.New r.0 r.1) r.2 (eform.rolls-New r.0 r.1) n) in
            both _ _ (get_within prog.structs s.index r.3 r.4.there) (fields_fit s r.3 r.4.there qs r.1 r.5 (all_set r.1 k.1)))
        form_layer (P.Braces qs) = of_rule (P.Braces (map (λ q. q.0) qs)) (λ t e r h n.
            let es = all_named r.0 (names_in e _ (E.Braces r.0) r.1 (eform.rolls-Braces r.0) n) in
            each_fit r.3 qs r.0 r.4 (element_fits prog r.5 r.3 r.6 (ap (any_ty_fits prog) (sym r.8) ∙ h)) es)
        form_layer (P.Member (a, ia) s i) = of_rule (P.Member a s i) (λ t e r h n.
            let k = both_true _ _ (names_in e _ (E.Member r.0 r.1) r.2 (eform.rolls-Member r.0 r.1) n) in
            both _ _ (ia r.0 r.3 (ap (any_ty_fits prog) r.5 ∙ get_within prog.structs s.index r.6 r.7) k.0) (field_there prog s r.6 i _ r.7 r.9.there))
        form_layer (P.Index (a, ia) (i, ii)) = of_rule (P.Index a i) (λ t e r h n.
            let k = both_true _ _ (names_in e _ (E.Index r.0 r.1) r.2 (eform.rolls-Index r.0 r.1) n) in
            both _ _ (ia r.0 r.3 (ap (any_ty_fits prog) r.7 ∙ there r.0 r.5 r.6) k.0) (ii r.1 r.4 (ap (any_ty_fits prog) r.8) k.1))
        form_layer (P.Slice (a, ia) (i, ii) m) = of_rule (P.Slice a i m) (λ t e r h n.
            let k = both_true _ _ (names_in e _ (E.Slice r.0 r.1 r.2) r.3 (eform.rolls-Slice r.0 r.1 r.2) n) in
            let j = both_true _ _ k.1 in
            both _ _ (ia r.0 r.4 (ap (any_ty_fits prog) r.8 ∙ there r.0 r.6 r.7) k.0) (ii r.1 r.5 (ap (any_ty_fits prog) r.9) j.0))
        form_layer (P.Unary o (a, ia)) = of_rule (P.Unary o a) (λ t e r h n.
            ia r.1 r.4 (ap (any_ty_fits prog) (r.7 ∙ sym r.8) ∙ h) (names_in e _ (E.Unary r.0 r.1) r.2 (eform.rolls-Unary r.0 r.1) n))
        form_layer (P.Binary o (a, ia) (b, ib)) = of_rule (P.Binary o a b) (λ t e r h n.
            let k = both_true _ _ (names_in e _ (E.Binary r.0 r.1 r.2) r.3 (eform.rolls-Binary r.0 r.1 r.2) n) in
            let w = operands_fit (class_of o) (own context scope r.1) (own context scope r.2) r.7 a.ty b.ty t r.8 (owns_fit prog good context refl scope vars r.1) (owns_fit prog good context refl scope vars r.2) in
            both _ _ (ia r.1 r.5 w.0 k.0) (ib r.2 r.6 w.1 k.1))
        form_layer (P.Cond (c, ic) (a, ia) (b, ib)) = of_rule (P.Cond c a b) (λ t e r h n.
            let k = both_true _ _ (names_in e _ (E.Cond r.0 r.1 r.2) r.3 (eform.rolls-Cond r.0 r.1 r.2) n) in
            let j = both_true _ _ k.1 in
            both _ _ (ic r.0 r.4 (ap (any_ty_fits prog) r.7) k.0) (both _ _ (ia r.1 r.5 (ap (any_ty_fits prog) (r.9 ∙ sym r.11) ∙ h) j.0) (ib r.2 r.6 (ap (any_ty_fits prog) (r.10 ∙ sym r.11) ∙ h) j.1)))
        form_layer (P.ToInt (a, ia)) = of_rule (P.ToInt a) (λ t e r h n. ia e r.0 (ap (any_ty_fits prog) r.2.operand) n)
        form_layer (P.Pad (a, ia)) = of_rule (P.Pad a) (λ t e r h n. ia e r.0 (ap (any_ty_fits prog) r.2.operand ∙ there e r.2.from r.2.own) n)
