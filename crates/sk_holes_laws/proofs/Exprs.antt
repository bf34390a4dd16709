-- A filled expression keeps the rules: it means a tree of its own, at the type that it had.
use Rattle.std.proofs.Common.{◌≡◌, ◌≤◌, ◌<◌, ℕ, zero, suc, ◌+◌, ◌-◌, Bool, true, false, ◌&&◌, List, [], ◌∷◌, ◌++◌, map, length, Option, Some, None, inl, inr, refl, sym, ap, subst, ◌∙◌, arith}
use Rattle.std.specs.Prelude.{slice_get, if◌then◌else◌, nat_le, is_some, replicate}
use Rattle.std.proofs.lemmas.Bool.{and_parts}
use Rattle.std.proofs.lemmas.List.{length-map}
use Rattle.sk_base.specs.declared.span.Span.{Span}
use Rattle.sk_base.specs.declared.name.Name.{Name}
use Rattle.sk_base.specs.declared.bounds.Bounds.{Bounds}
use Rattle.sk_tree.specs.declared.token.Mark.{Mark}
use Rattle.sk_tree.specs.declared.expr.Expr.{Expr}
use Rattle.sk_tree.specs.declared.expr.NewField.{NewField}
use Rattle.sk_tree.specs.declared.expr.EForm.{EForm}
use Rattle.sk_tree.specs.declared.expr.EForm.TheVariants as tform
use Rattle.sk_tree.specs.declared.expr.EForm.TheOpen as E
use Rattle.sk_tree.specs.declared.expr.EForm.TheViews as T
use Rattle.sk_tree.specs.declared.expr.EForm.TheFolds.{map-EForm}
use Rattle.sk_tree.specs.Placed.{Place, binds, are_yes, all_placed, level_of, eform_place, place_of, expr_placed}
use Rattle.sk_prog.specs.declared.ids.StructId.{StructId}
use Rattle.sk_prog.specs.declared.ids.FunId.{FunId}
use Rattle.sk_prog.specs.declared.ids.ConstId.{ConstId}
use Rattle.sk_prog.specs.declared.ty.Ty.{Ty}
use Rattle.sk_prog.specs.declared.ty.Ty.TheVariants as ty
use Rattle.sk_prog.specs.declared.ty.Elem.TheVariants as elem
use Rattle.sk_prog.specs.declared.expr.UnOp.{UnOp}
use Rattle.sk_prog.specs.declared.expr.BinOp.{BinOp}
use Rattle.sk_prog.specs.declared.expr.PExpr.{PExpr}
use Rattle.sk_prog.specs.declared.expr.PField.{PField}
use Rattle.sk_prog.specs.declared.expr.PEForm.{PEForm}
use Rattle.sk_prog.specs.declared.expr.PEForm.TheVariants as eform
use Rattle.sk_prog.specs.declared.expr.PEForm.TheOpen as P
use Rattle.sk_prog.specs.declared.expr.PEForm.TheViews as V
use Rattle.sk_prog.specs.declared.expr.PEForm.TheFolds.{map-PEForm, fold-PEForm, fold-PField, rec-roll-PField}
use Rattle.sk_prog.specs.declared.prog.StructDef.{StructDef}
use Rattle.sk_prog.specs.declared.prog.ParamDef.{ParamDef}
use Rattle.sk_types_rules.specs.declared.rules.Own.{Own}
use Rattle.sk_types_rules.specs.declared.rules.Own.TheVariants.{Loose, Firm}
use Rattle.sk_types_rules.specs.declared.scope.Variable.{Variable}
use Rattle.sk_types_rules.specs.declared.scope.Place.{Place as Slot}
use Rattle.sk_types_rules.specs.Rules.{◌>>=◌, int, bit, element_of, count_of, operator_of, unary_of, unary_own, class_of, operation_own}
use Rattle.sk_types_rules.specs.Scope.{lookup, all_distinct, Signature, Known, Context, meaning_of, variable_or, top_meaning}
use Rattle.sk_types_rules.specs.Constants.{constant_number}
use Rattle.sk_types_rules.specs.Sorts.{Sort, named, eform_sort, sort, own, any_binary, any_unary, variable_type, target_type, eform_target, member_of, reference_meant, reference_to, array_meant, slice_of, new_sort, struct_meant}
use Rattle.sk_types_rules.specs.Types.{EFormRule, ExprRule, FieldRule, EachMeans, ArgumentsMean, FieldsMean, MayBeRef, IsMore, IsCallee, IsField, MeansBinary, eform_means, expr_means, field_means, Means, eform_bare, is_bare}
use Rattle.sk_types_rules.proofs.Layers.{FormMeans, FieldMeans, rule, form_means_are, means_parts, means_from}
use Rattle.sk_types_rules.proofs.SortLaws.{form_sort, field_sort, form_sort_is, sort_is, target_word}
use Rattle.sk_types_rules.proofs.Nearest.{nearest_lookup}
use Rattle.sk_types_laws.specs.Envs.{AreDistinct}
use Rattle.sk_types_laws.specs.Owns.{own_type, callee_result}
use Rattle.sk_types_laws.proofs.Ats.{bind_some, if_some}
use Rattle.sk_types_laws.proofs.OwnLaws.{firm_own, binary_own, unary_own_is, call_own}
use Rattle.sk_types_laws.proofs.Bare.{form_bare, form_bare_is, is_bare_is}
use Rattle.sk_types_laws.proofs.Stands.{stands}
use Rattle.sk_types_laws.proofs.Complete.{complete, callee_is}
use Rattle.sk_model.specs.declared.expanded.Site.{Site}
use Rattle.sk_model.specs.Parts.{Part, counts, in_turn, pick, value, joined}
use Rattle.sk_model.specs.Sites.{site, hole_sites, eform_sites, expr_sites}
use Rattle.sk_model.specs.Stands.{Standing, beside, in_row, only, hole_count, by_value, with_calls, eform_standing, expr_standing}
use Rattle.sk_model.specs.Stands as A
use Rattle.sk_model.specs.Fill.{Opened, is_tight, spanned, chosen, no_string, hole_part, renamed, eform_part, expr_step, field_step, expr_part}
use Rattle.sk_model.proofs.Layers.{layer_field, expr_layer}
use Rattle.sk_model.proofs.Induction.{Each, ExprCases, expr_ind}
use Rattle.sk_holes_laws.specs.Owns.{Stays}
use Rattle.sk_holes_laws.specs.Holes.{Below, HasElements, IsFilled}
use Rattle.sk_holes_laws.specs.Strings.{IsString}
use Rattle.sk_holes_laws.specs.Sizes.{Sized, AnySized, SizedScope}
use Rattle.sk_holes_laws.specs.Filling.{context_with, Setting, Every, Ready}
use Rattle.sk_holes_laws.proofs.Operands.{choice_stays, firm_stays}
use Rattle.sk_holes_laws.proofs.Meant.{own_fits}
use Rattle.sk_holes_laws.proofs.Places.{Layer, places, place_at, set_placed, set_at, opened, AllPlaced, Closer, bound, binds_closer, targets_of, target_at, no_target}
use Rattle.sk_holes_laws.proofs.Holes.{holes_fill}
use Rattle.sk_holes_laws.proofs.Strings.{strings_fill, kept_are_strings}
use Rattle.sk_holes_laws.proofs.Sized.{OwnSized, element_sized, own_sized}
use Rattle.sk_holes_laws.proofs.Rows.{Counted, CountedPart, below_append, every_append, none_counted, both_counted, both_ready, row_counted, row_ready, turn_length, counts_made}
use Rattle.sk_holes_laws.proofs.Carried.{constant_meant, struct_meant_again, function_meant, constant_stays}
use Rattle.sk_holes_laws.proofs.Classes.{StaysAt, binary_stays, unary_stays, class_sized}

abbrev PLayer : Type 0
PLayer = P.PEForm-F PEForm PExpr PField

abbrev pub every_of : {A : Type 0} (Q : A → Type 0) (xs : List A) → Each Q xs → Every Q xs
every_of Q [] h = tt
every_of Q (x ∷ xs) h = (h.0, every_of Q xs h.1)

string_again : (x y : Own) (t : Ty) → Stays Loose x t → Stays x y t → Stays Loose y t
string_again x y t h (inr q) = inr q
string_again x y t (inl p) (inl q) = inl (q ∙ p)
string_again x y t (inr p) (inl q) = inr (q ∙ p)

has_elements : (t : Ty) → Sized t → HasElements t
has_elements (ty.One a) h = tt
has_elements (ty.Array a n) h = h
has_elements (ty.Grid a n m) h = h.1

-- how many sites a hole has

length-replicate : (n : ℕ) (x : Site) → length (replicate n x) ≡ n
length-replicate zero x = refl
length-replicate (suc n) x = ap suc (length-replicate n x)

module _ (bounds : Bounds) (values : List ℕ) (number : ℕ → ℕ) where
  hole_counted : (w : Option ℕ) (t : Option Ty) (s : Span) → Counted (hole_sites bounds w t s) (A.own (hole_count t)) (hole_part values number t s).count
  hole_counted w None s = record { sites = refl; standing = refl }
  hole_counted w (Some (ty.One elem.Bit)) s = record { sites = refl; standing = refl }
  hole_counted w (Some (ty.One elem.Int)) s = record { sites = refl; standing = refl }
  hole_counted w (Some (ty.One (elem.Reference d))) s = record { sites = refl; standing = refl }
  hole_counted w (Some (ty.Array elem.Bit n)) s = record { sites = length-replicate n (site 2 s); standing = refl }
  hole_counted w (Some (ty.Array elem.Int n)) s = record { sites = refl; standing = refl }
  hole_counted w (Some (ty.Array (elem.Reference d) n)) s = record { sites = refl; standing = refl }
  hole_counted w (Some (ty.Grid a n m)) s = record { sites = refl; standing = refl }

  hole_span : (t : Option Ty) (s : Span) (i : ℕ) → ((hole_part values number t s).at i).span ≡ s
  hole_span None s i = refl
  hole_span (Some (ty.One a)) s i = refl
  hole_span (Some (ty.Array elem.Bit n)) s i = refl
  hole_span (Some (ty.Array elem.Int n)) s i = refl
  hole_span (Some (ty.Array (elem.Reference d) n)) s i = refl
  hole_span (Some (ty.Grid a n m)) s i = refl

module _ (bounds : Bounds) (structs : List StructDef) (consts : List (List ℕ)) (funs again : List Signature) (known all : List Known) (standing : ℕ → Type 0) (number : ℕ → ℕ) (setting : Setting bounds structs consts funs again known all standing number) (values : List ℕ) (scope : List Variable) (variables : SizedScope scope) where
  abbrev pub first : Context
  first = context_with bounds structs consts funs known

  abbrev pub second : Context
  second = context_with bounds structs consts again all

  -- Layers

  abbrev pairs : Context → Layer → E.EForm-F (EForm × Sort) (Expr × Sort) (NewField × Sort)
  pairs context l = map-EForm EForm Expr NewField (EForm × Sort) (Expr × Sort) (NewField × Sort) (λ f. (f, form_sort context scope f)) (λ e. (e, sort context scope e)) (λ x. (x, field_sort context scope x)) l

  abbrev layer_own : Context → Layer → Own
  layer_own context l = (eform_sort context scope (pairs context l)).own

  own_of : (context : Context) (e : Expr) (l : Layer) → e.form ≡ T.roll-EForm l → own context scope e ≡ layer_own context l
  own_of context e l is = ap (λ (z : Sort). z.own) (sort_is context scope e ∙ ap (form_sort context scope) is ∙ form_sort_is context scope l)

  abbrev no_field : NewField → Unit {0}
  no_field x = tt

  abbrev layer_bare : Layer → Bool
  layer_bare l = eform_bare (map-EForm EForm Expr NewField Bool Bool (Unit {0}) form_bare is_bare no_field l)

  bare_of : (e : Expr) (l : Layer) → e.form ≡ T.roll-EForm l → is_bare e ≡ layer_bare l
  bare_of e l is = is_bare_is e ∙ ap form_bare is ∙ form_bare_is l

  first_sized : (e : Expr) (u : Ty) → own first scope e ≡ Firm u → Sized u
  first_sized e u h = subst OwnSized h (own_sized first scope setting.fields setting.signatures variables e)

  -- what stands at a type means something there
  at_stands : (e : Expr) (p : PExpr) (t : Ty) → Means second scope p e → p.ty ≡ Some t → (sort second scope e).at t ≡ true
  at_stands e p t m h = stands second scope e t ∙ ap is_some (complete second scope setting.distinct p e t m h)

  -- What is made of an expression

  abbrev RefKept : Expr → Expr → Type 0
  RefKept e d = (t : Ty) → variable_type scope e.form ≡ Some t → variable_type scope d.form ≡ Some t

  abbrev TargetKept : Expr → Expr → Type 0
  TargetKept e d = (u : Ty) → target_type first scope e ≡ Some u → target_type second scope d ≡ Some u

  no_ref : (e d : Expr) → variable_type scope e.form ≡ None → RefKept e d
  no_ref e d none t h = let z : None ≡ Some t = sym none ∙ h in cc

  not_target : (e d : Expr) (k : Layer) → e.form ≡ T.roll-EForm k → eform_target first scope (targets_of first scope k) ≡ None → TargetKept e d
  not_target e d k is none u h = absurd (no_target first scope e k u is none h)

  -- an expression that is filled means a tree, of the type that it had
  pub record Filled (p : PExpr) (e : Expr) (q : PExpr) : Type 0 where
    pub tree : Expr
    pub means : Means second scope q tree
    pub span : q.span ≡ p.span
    pub type : q.ty ≡ p.ty
    pub owns : StaysAt (own first scope e) (own second scope tree) p.ty
    pub bare : (u : Ty) → own first scope e ≡ Firm u → is_bare tree ≡ is_bare e
    pub ref : RefKept e tree
    pub target : TargetKept e tree
    pub place : Closer (place_of e) (place_of tree)

  -- what a filling makes of an expression with these sites
  pub record Fills (p : PExpr) (S : List Site) (T : Part Standing) (F : Part PExpr) : Type 0 where
    pub counted : Counted S T F.count
    pub fills : (e : Expr) (i : ℕ) → Means first scope p e → expr_placed e ≡ true → AnySized p.ty → Ready values standing S T i → Filled p e (F.at i)

  abbrev pub ExprFills : PExpr → Type 0
  ExprFills p = Fills p (expr_sites bounds p) (expr_standing values p) (expr_part values number p)

  abbrev field_sites : PField → List Site
  field_sites = fold-PField (Option Ty → Span → List Site) (List Site) (List Site) (eform_sites bounds) (λ e. e.form e.ty e.span) (λ x. x.value)

  abbrev field_standing : PField → Part Standing
  field_standing = fold-PField (Option Ty → Part Standing) (Part Standing) (Part Standing) (eform_standing values) (λ e. e.form e.ty) (λ x. x.value)

  abbrev field_part : PField → Part PField
  field_part = fold-PField (Opened values number) (Part PExpr) (Part PField) (eform_part values number) (expr_step values number) (field_step values number)

  record FieldFilled (d : StructDef) (n : NewField) (q : PField) : Type 0 where
    tree : NewField
    means : FieldMeans second scope q d tree
    name : tree.name ≡ n.name
    placed : set_placed tree ≡ true

  record FieldsFill (x : PField) (S : List Site) (T : Part Standing) (F : Part PField) : Type 0 where
    counted : Counted S T F.count
    fills : (s : ℕ) (d : StructDef) → slice_get structs s ≡ Some d → (n : NewField) (i : ℕ) → FieldMeans first scope x d n → set_placed n ≡ true → Ready values standing S T i → FieldFilled d n (F.at i)

  abbrev FieldFills : PField → Type 0
  FieldFills x = FieldsFill x (field_sites x) (field_standing x) (field_part x)

  abbrev form_sites_of : PEForm → Option Ty → Span → List Site
  form_sites_of = fold-PEForm (Option Ty → Span → List Site) (List Site) (List Site) (eform_sites bounds) (λ e. e.form e.ty e.span) (λ x. x.value)

  abbrev form_standing_of : PEForm → Option Ty → Part Standing
  form_standing_of = fold-PEForm (Option Ty → Part Standing) (Part Standing) (Part Standing) (eform_standing values) (λ e. e.form e.ty) (λ x. x.value)

  abbrev form_part_of : PEForm → Opened values number
  form_part_of = fold-PEForm (Opened values number) (Part PExpr) (Part PField) (eform_part values number) (expr_step values number) (field_step values number)

  abbrev layer_sites : PLayer → Option Ty → Span → List Site
  layer_sites x t s = eform_sites bounds (map-PEForm PEForm PExpr PField (Option Ty → Span → List Site) (List Site) (List Site) form_sites_of (expr_sites bounds) field_sites x) t s

  abbrev layer_standing : PLayer → Option Ty → Part Standing
  layer_standing x t = eform_standing values (map-PEForm PEForm PExpr PField (Option Ty → Part Standing) (Part Standing) (Part Standing) form_standing_of (expr_standing values) field_standing x) t

  abbrev layer_part : PLayer → Option Ty → Span → Part PExpr
  layer_part x t s = eform_part values number (map-PEForm PEForm PExpr PField (Opened values number) (Part PExpr) (Part PField) form_part_of (expr_part values number) field_part x) t s

  abbrev typed : Span → Option Ty → PEForm → PExpr
  typed s t f = record { span = s; ty = t; form = f }

  abbrev Made : PLayer → PEForm → Span → Option Ty → Type 0
  Made x f s t = (e : Expr) (i : ℕ) → s ≡ e.span → rule first scope x t e → expr_placed e ≡ true → AnySized t → Ready values standing (layer_sites x t s) (layer_standing x t) i → Filled (typed s t f) e ((layer_part x t s).at i)

  -- an expression, by what its form says
  by_form : (x : PLayer) (f : PEForm) → V.roll-PEForm x ≡ f → (s : Span) (t : Option Ty) → Counted (layer_sites x t s) (layer_standing x t) (layer_part x t s).count → Made x f s t → ExprFills (typed s t f)
  by_form x f is s t c h =
      subst (λ (S : List Site). Fills (typed s t f) S (expr_standing values (typed s t f)) (expr_part values number (typed s t f))) (sym (expr_layer (Option Ty → Span → List Site) (List Site) (List Site) (eform_sites bounds) (λ e. e.form e.ty e.span) (λ x. x.value) x f is s t))
      (subst (λ (S : Part Standing). Fills (typed s t f) (layer_sites x t s) S (expr_part values number (typed s t f))) (sym (expr_layer (Option Ty → Part Standing) (Part Standing) (Part Standing) (eform_standing values) (λ e. e.form e.ty) (λ x. x.value) x f is s t))
      (subst (λ (S : Part PExpr). Fills (typed s t f) (layer_sites x t s) (layer_standing x t) S) (sym (expr_layer (Opened values number) (Part PExpr) (Part PField) (eform_part values number) (expr_step values number) (field_step values number) x f is s t))
      (record {
        counted = c;
        fills = λ e i m placed sized ready.
            let parts = means_parts first scope (typed s t f) e m in
            h e i parts.0 (subst (λ (M : EFormRule). M t e) (form_means_are first scope x) (subst (λ g. FormMeans first scope g t e) (sym is) parts.1)) placed sized ready;
      })))

  -- what is made of a layer, where the tree is of layers k and then j
  remade : (f g : PEForm) (l : PLayer) → V.roll-PEForm l ≡ g → (s : Span) (t : Option Ty) (e : Expr) (k j : Layer) (d : EForm) → e.form ≡ T.roll-EForm k → T.roll-EForm j ≡ d
      → rule second scope l t (record { span = s; form = d })
      → StaysAt (layer_own first k) (layer_own second j) t
      → layer_bare j ≡ layer_bare k
      → RefKept e (record { span = s; form = d })
      → TargetKept e (record { span = s; form = d })
      → Closer (eform_place (places k)) (eform_place (places j))
      → Filled (typed s t f) e (typed s t g)
  remade f g l is s t e k j d ek dj r o b ref target place =
      let tree : Expr = record { span = s; form = d } in
      record {
        tree = tree;
        means = means_from second scope (typed s t g) tree refl (subst (λ z. FormMeans second scope z t tree) is (subst (λ (M : EFormRule). M t tree) (sym (form_means_are second scope l)) r));
        span = refl;
        type = refl;
        owns = λ u h. subst (λ z. Stays z (own second scope tree) u) (sym (own_of first e k ek)) (subst (λ z. Stays (layer_own first k) z u) (sym (own_of second tree j (sym dj))) (o u h));
        bare = λ u h. bare_of tree j (sym dj) ∙ b ∙ sym (bare_of e k ek);
        ref = ref;
        target = target;
        place = subst (λ z. Closer z (place_of tree)) (sym (place_at e k ek)) (subst (λ z. Closer (eform_place (places k)) z) (sym (place_at tree j (sym dj))) place);
      }

  -- of a form that is no word and no target
  closed : (f g : PEForm) (l : PLayer) → V.roll-PEForm l ≡ g → (s : Span) (t : Option Ty) (e : Expr) (k j : Layer) (d : EForm) → e.form ≡ T.roll-EForm k → T.roll-EForm j ≡ d
      → rule second scope l t (record { span = s; form = d })
      → StaysAt (layer_own first k) (layer_own second j) t
      → layer_bare j ≡ layer_bare k
      → variable_type scope e.form ≡ None
      → eform_target first scope (targets_of first scope k) ≡ None
      → Closer (eform_place (places k)) (eform_place (places j))
      → Filled (typed s t f) e (typed s t g)
  closed f g l is s t e k j d ek dj r o b none off place = remade f g l is s t e k j d ek dj r o b (no_ref e (record { span = s; form = d }) none) (not_target e (record { span = s; form = d }) k ek off) place

  as_it_was : (a : Place) → a.placed ≡ true → Closer a a
  as_it_was a h = let n : ℕ = a.level in record { placed = h; level = omega arith }

  -- a form without parts, which stays
  leaf : (f : PEForm) (l : PLayer) → V.roll-PEForm l ≡ f → (s : Span) (t : Option Ty) (e : Expr) (k : Layer) (d : EForm) → e.form ≡ d → T.roll-EForm k ≡ d → expr_placed e ≡ true
      → rule second scope l t (record { span = s; form = d }) → layer_own second k ≡ layer_own first k
      → TargetKept e (record { span = s; form = d })
      → Filled (typed s t f) e (typed s t f)
  leaf f l is s t e k d ed kd placed r o target =
      let ek : e.form ≡ T.roll-EForm k = ed ∙ sym kd in
      remade f f l is s t e k k d ek kd r (λ u h. inl o) refl (λ u h. ap (variable_type scope) (sym ed) ∙ h) target (as_it_was (eform_place (places k)) (opened e k ek placed))

  level_same : (n : ℕ) → n ≤ n
  level_same n = omega arith

  nearer : (k : ℕ) (a b : Bool) → b ≡ true → Closer (record { level = k; placed = a }) (record { level = k; placed = b })
  nearer k a b h = record { placed = h; level = level_same k }

  -- Words

  named_as : (context : Context) (x : List ℕ) (v : Slot) → lookup scope x ≡ Some v → (named (meaning_of context.top scope x)).own ≡ Firm v.ty
  named_as context x v h = ap (λ o. (named (variable_or o (top_meaning context.top x))).own) h

  word_target : (e : Expr) (s : Span) (x : List ℕ) → e.form ≡ tform.Word x → TargetKept e (record { span = s; form = tform.Word x })
  word_target e s x is u h = target_word second scope (record { span = s; form = tform.Word x }) x refl ∙ sym (target_word first scope e x is) ∙ h

  var_fills : (s : Span) (t : Option Ty) (slot : ℕ) (x : Name) → Made (P.Var slot x) (eform.Var slot x) s t
  var_fills s t slot x e i span h placed sized ready =
      let found = nearest_lookup scope x slot h.1 h.3 in
      leaf (eform.Var slot x) (P.Var slot x) (V.rolls-Var slot x) s t e (E.Word x) (tform.Word x) h.0 (tform.rolls-Word x) placed (refl, h.1, h.2, h.3)
      (named_as second x _ found ∙ sym (named_as first x _ found))
      (word_target e s x h.0)

  const_fills : (s : Span) (t : Option Ty) (c : ConstId) → Made (P.Const c) (eform.Const c) s t
  const_fills s t c e i span h placed sized ready =
      let again_meant = constant_meant bounds structs consts funs again known all scope h.0 c h.2 in
      leaf (eform.Const c) (P.Const c) (V.rolls-Const c) s t e (E.Word h.0) (tform.Word h.0) h.1 (tform.rolls-Word h.0) placed (h.0, refl, again_meant, h.3)
      (ap (λ m. (named m).own) again_meant ∙ sym (ap (λ m. (named m).own) h.2))
      (word_target e s h.0 h.1)

  -- Holes and patterns

  hole_fills : (s : Span) (t : Option Ty) (w : Option ℕ) → Made (P.Hole w) (eform.Hole w) s t
  hole_fills s None w e i span h placed sized ready = absurd h.2
  hole_fills s (Some u) w e i span h placed sized ready =
      let f = holes_fill second scope values number w u s i setting.wide h.1 h.2 (has_elements u sized) ready.0 in
      let ek : e.form ≡ T.roll-EForm (E.Hole w) = h.0 ∙ sym (tform.rolls-Hole w) in
      let loose : own first scope e ≡ Loose = own_of first e (E.Hole w) ek in
      record {
        tree = f.tree;
        means = f.means;
        span = hole_span bounds values number (Some u) s i;
        type = f.type;
        owns = λ v is. let same : u ≡ v = cc in subst (λ z. Stays z (own second scope f.tree) v) (sym loose) (subst (λ z. Stays Loose (own second scope f.tree) z) same f.own);
        bare = λ v is. let z : Loose ≡ Firm v = sym loose ∙ is in cc;
        ref = no_ref e f.tree (ap (variable_type scope) h.0);
        target = not_target e f.tree (E.Hole w) ek refl;
        place = record { placed = f.placed; level = let low : (place_of e).level ≡ 1 = ap (λ (a : Place). a.level) (place_at e (E.Hole w) ek) in let one = f.level in omega (arith, low, one) };
      }

  one_string : (t : Ty) → Sized t → (p : PExpr) → ExprFills p → IsString first scope t p → (i : ℕ) → Ready values standing (expr_sites bounds p) (expr_standing values p) i → IsString second scope t ((expr_part values number p).at i)
  one_string t sized p h k i ready =
      let r = h.fills k.tree i k.means k.placed (subst AnySized (sym k.type) sized) ready in
      record {
        tree = r.tree;
        means = r.means;
        type = r.type ∙ k.type;
        own = string_again (own first scope k.tree) (own second scope r.tree) t k.own (r.owns t k.type);
        placed = (r.place).placed;
      }

  strings_again : (t : Ty) → Sized t → (ps : List PExpr) → Every ExprFills ps → ((n : ℕ) (p : PExpr) → slice_get ps n ≡ Some p → IsString first scope t p) → (v i : ℕ) → v < length ps
      → Below values i (joined (map (expr_sites bounds) ps)) → Every standing ((in_row (only v (map (expr_standing values) ps))).at i).called
      → IsString second scope t (pick no_string (map (expr_part values number) ps) v i)
  strings_again t sized [] h k v i l b c = absurd (omega (arith, l))
  strings_again t sized (p ∷ ps) h k zero i l b c =
      let two = below_append values (expr_sites bounds p) (joined (map (expr_sites bounds) ps)) i b in
      let called = every_append standing ((expr_standing values p).at i).called _ c in
      one_string t sized p h.0 (k 0 p refl) i (two.0, called.0)
  strings_again t sized (p ∷ ps) h k (suc v) i l b c =
      let two = below_append values (expr_sites bounds p) (joined (map (expr_sites bounds) ps)) i b in
      let counted = h.0.counted in
      strings_again t sized ps h.1 (λ n q is. k (suc n) q is) v (i + (expr_part values number p).count) (omega (arith, l))
      (subst (λ n. Below values (i + n) (joined (map (expr_sites bounds) ps))) counted.sites two.1)
      (subst (λ n. Every standing ((in_row (only v (map (expr_standing values) ps))).at (i + n)).called) counted.standing c)

  every_counted : (ps : List PExpr) → Every ExprFills ps → Every (CountedPart values standing (expr_sites bounds) (expr_standing values) (expr_part values number)) ps
  every_counted [] h = tt
  every_counted (p ∷ ps) h = (h.0.counted, every_counted ps h.1)

  sets_counted : (ps : List PField) → Every FieldFills ps → Every (CountedPart values standing field_sites field_standing field_part) ps
  sets_counted [] h = tt
  sets_counted (p ∷ ps) h = (h.0.counted, sets_counted ps h.1)

  pattern_counted : (t : Option Ty) (s : Span) (ps : List PExpr) → Every ExprFills ps → Counted (layer_sites (P.Pattern ps) t s) (layer_standing (P.Pattern ps) t) (layer_part (P.Pattern ps) t s).count
  pattern_counted t s ps h =
      let c = row_counted values standing (expr_sites bounds) (expr_standing values) (expr_part values number) ps (every_counted ps h) in
      record { sites = ap suc c.sites; standing = ap suc (counts_made values standing (expr_sites bounds) (expr_standing values) (expr_part values number) ps (every_counted ps h)) }

  chosen_span : (t : Option Ty) (s : Span) (p : PExpr) → (chosen t s p).span ≡ s
  chosen_span t s p = go (is_tight p)
    where
      go : (b : Bool) → (if b then spanned s p else record { span = s; ty = t; form = eform.Paren (spanned s p) }).span ≡ s
      go true = refl
      go false = refl

  pattern_fills : (s : Span) (t : Option Ty) (ps : List PExpr) → Every ExprFills ps → Made (P.Pattern ps) (eform.Pattern ps) s t
  pattern_fills s t ps hs e i span h placed sized ready =
      let u : Ty = h.3 in
      let ek : e.form ≡ T.roll-EForm (E.Pattern h.0 h.1) = h.2 ∙ sym (tform.rolls-Pattern h.0 h.1) in
      let strings = kept_are_strings first scope u h.1 ps h.6 (opened e (E.Pattern h.0 h.1) ek placed) in
      let below : value values i < length (map (expr_sites bounds) ps) = (ready.0).0 in
      let short : length (map (expr_sites bounds) ps) ≡ length ps = length-map ps (expr_sites bounds) in
      let large : Sized u = subst AnySized h.4 sized in
      let q = strings_again u large ps hs strings (value values i) (i + 1) (omega (arith, below, short)) (ready.0).1 ready.1 in
      let f = subst (λ (o : Option Ty). IsFilled second scope (chosen o s (pick no_string (map (expr_part values number) ps) (value values i) (i + 1))) u) (sym h.4) (strings_fill second scope u (pick no_string (map (expr_part values number) ps) (value values i) (i + 1)) s q) in
      let loose : own first scope e ≡ Loose = own_of first e (E.Pattern h.0 h.1) ek in
      record {
        tree = f.tree;
        means = f.means;
        span = chosen_span t s (pick no_string (map (expr_part values number) ps) (value values i) (i + 1));
        type = f.type ∙ sym h.4;
        owns = λ v is. let z : Some u ≡ Some v = sym h.4 ∙ is in let same : u ≡ v = cc in subst (λ z. Stays z (own second scope f.tree) v) (sym loose) (subst (λ z. Stays Loose (own second scope f.tree) z) same f.own);
        bare = λ v is. let z : Loose ≡ Firm v = sym loose ∙ is in cc;
        ref = no_ref e f.tree (ap (variable_type scope) h.2);
        target = not_target e f.tree (E.Pattern h.0 h.1) ek refl;
        place = record { placed = f.placed; level = let low : (place_of e).level ≡ 1 = ap (λ (a : Place). a.level) (place_at e (E.Pattern h.0 h.1) ek) in let one = f.level in omega (arith, low, one) };
      }

  -- Lists of parts

  record EachFilled (t : Ty) (qs : List PExpr) : Type 0 where
    trees : List Expr
    mean : EachMeans (λ y. y) (Means second scope) t qs trees
    placed : AllPlaced trees

  each_fills : (t : Ty) → Sized t → (ps : List PExpr) → Every ExprFills ps → (es : List Expr) → EachMeans (λ y. y) (Means first scope) t ps es → AllPlaced es → (i : ℕ)
      → Ready values standing (joined (map (expr_sites bounds) ps)) (in_row (map (expr_standing values) ps)) i → EachFilled t (in_turn (map (expr_part values number) ps) i)
  each_fills t sized [] h [] m placed i ready = record { trees = []; mean = tt; placed = refl }
  each_fills t sized [] h (e ∷ es) m placed i ready = absurd m
  each_fills t sized (p ∷ ps) h [] m placed i ready = absurd m
  each_fills t sized (p ∷ ps) h (e ∷ es) m placed i ready =
      let two = row_ready values standing (expr_sites bounds) (expr_standing values) (expr_part values number) p ps i h.0.counted ready in
      let both = and_parts (expr_placed e) (all_placed (map place_of es)) placed in
      let r = h.0.fills e i m.0 both.0 (subst AnySized (sym m.1) sized) two.0 in
      let rest = each_fills t sized ps h.1 es m.2 both.1 (i + (expr_part values number p).count) two.1 in
      record { trees = r.tree ∷ rest.trees; mean = (r.means, r.type ∙ m.1, rest.mean); placed = λ j. (r.place).placed j && rest.placed j }

  record ArgumentsFilled (ds : List ParamDef) (qs : List PExpr) : Type 0 where
    trees : List Expr
    mean : ArgumentsMean (λ y. y) (Means second scope) scope ds qs trees
    placed : AllPlaced trees

  word_of : (b : Bool) (t : Ty) (e d : Expr) → RefKept e d → MayBeRef b scope t e.form → MayBeRef b scope t d.form
  word_of false t e d k h = tt
  word_of true t e d k h = k t h

  arguments_fill : (ds : List ParamDef) → ((n : ℕ) (d : ParamDef) → slice_get ds n ≡ Some d → Sized d.ty) → (ps : List PExpr) → Every ExprFills ps → (es : List Expr) → ArgumentsMean (λ y. y) (Means first scope) scope ds ps es → AllPlaced es → (i : ℕ)
      → Ready values standing (joined (map (expr_sites bounds) ps)) (in_row (map (expr_standing values) ps)) i → ArgumentsFilled ds (in_turn (map (expr_part values number) ps) i)
  arguments_fill [] sized [] h [] m placed i ready = record { trees = []; mean = tt; placed = refl }
  arguments_fill (d ∷ ds) sized (p ∷ ps) h (e ∷ es) m placed i ready =
      let two = row_ready values standing (expr_sites bounds) (expr_standing values) (expr_part values number) p ps i h.0.counted ready in
      let both = and_parts (expr_placed e) (all_placed (map place_of es)) placed in
      let r = h.0.fills e i m.0 both.0 (subst AnySized (sym m.1) (sized 0 d refl)) two.0 in
      let rest = arguments_fill ds (λ n c is. sized (suc n) c is) ps h.1 es m.3 both.1 (i + (expr_part values number p).count) two.1 in
      record { trees = r.tree ∷ rest.trees; mean = (r.means, r.type ∙ m.1, word_of d.by_ref d.ty e r.tree r.ref m.2, rest.mean); placed = λ j. (r.place).placed j && rest.placed j }
  arguments_fill [] sized [] h (e ∷ es) m placed i ready = absurd m
  arguments_fill [] sized (p ∷ ps) h es m placed i ready = absurd m
  arguments_fill (d ∷ ds) sized [] h es m placed i ready = absurd m
  arguments_fill (d ∷ ds) sized (p ∷ ps) h [] m placed i ready = absurd m

  record SetsFilled (d : StructDef) (ns : List NewField) (qs : List PField) : Type 0 where
    trees : List NewField
    mean : FieldsMean (FieldMeans second scope) d qs trees
    names : map (λ (x : NewField). x.name) trees ≡ map (λ (x : NewField). x.name) ns
    placed : are_yes (map set_placed trees) ≡ true

  sets_fill : (s : ℕ) (d : StructDef) → slice_get structs s ≡ Some d → (ps : List PField) → Every FieldFills ps → (ns : List NewField) → FieldsMean (FieldMeans first scope) d ps ns → are_yes (map set_placed ns) ≡ true → (i : ℕ)
      → Ready values standing (joined (map field_sites ps)) (in_row (map field_standing ps)) i → SetsFilled d ns (in_turn (map field_part ps) i)
  sets_fill s d there [] h [] m placed i ready = record { trees = []; mean = tt; names = refl; placed = refl }
  sets_fill s d there [] h (n ∷ ns) m placed i ready = absurd m
  sets_fill s d there (p ∷ ps) h [] m placed i ready = absurd m
  sets_fill s d there (p ∷ ps) h (n ∷ ns) m placed i ready =
      let two = row_ready values standing field_sites field_standing field_part p ps i h.0.counted ready in
      let both = and_parts (set_placed n) (are_yes (map set_placed ns)) placed in
      let r = h.0.fills s d there n i m.0 both.0 two.0 in
      let rest = sets_fill s d there ps h.1 ns m.1 both.1 (i + (field_part p).count) two.1 in
      record { trees = r.tree ∷ rest.trees; mean = (r.means, rest.mean); names = λ j. r.name j ∷ rest.names j; placed = λ j. r.placed j && rest.placed j }

  -- Forms with parts

  paren_fills : (s : Span) (t : Option Ty) (p : PExpr) → ExprFills p → Made (P.Paren p) (eform.Paren p) s t
  paren_fills s t p hp e i span h placed sized ready =
      let ek : e.form ≡ T.roll-EForm (E.Paren h.0) = h.1 ∙ sym (tform.rolls-Paren h.0) in
      let part = opened e (E.Paren h.0) ek placed in
      let same : p.ty ≡ t = h.4 ∙ sym h.5 in
      let r = hp.fills h.0 i h.2 part (subst AnySized (sym same) sized) ready in
      let q : PExpr = (expr_part values number p).at i in
      closed (eform.Paren p) (eform.Paren q) (P.Paren q) (V.rolls-Paren q) s t e (E.Paren h.0) (E.Paren r.tree) (tform.Paren r.tree) ek (tform.rolls-Paren r.tree)
      (r.tree, refl, r.means, h.3, r.type ∙ h.4, h.5)
      (λ u is. r.owns u (same ∙ is))
      refl
      (ap (variable_type scope) h.1) refl
      (nearer 1 _ _ (r.place).placed)

  call_own_is : (context : Context) → AreDistinct context.top → (x : List ℕ) (f : FunId) (g : Signature) (es : List (Expr × Sort)) → IsCallee context.top scope x f g → (eform_sort context scope (E.Call x es)).own ≡ own_type g.result
  call_own_is context distinct x f g es is = call_own context.top scope (meaning_of context.top scope x) es ∙ ap (λ o. own_type (callee_result o)) (callee_is context scope distinct x f g is)

  call_counted : (t : Option Ty) (s : Span) (f : FunId) (ps : List PExpr) → Every ExprFills ps → Counted (layer_sites (P.Call f ps) t s) (layer_standing (P.Call f ps) t) (layer_part (P.Call f ps) t s).count
  call_counted t s f ps h =
      let c = row_counted values standing (expr_sites bounds) (expr_standing values) (expr_part values number) ps (every_counted ps h) in
      record { sites = c.sites; standing = c.standing }

  call_fills : (s : Span) (t : Option Ty) (f : FunId) (ps : List PExpr) → Every ExprFills ps → Made (P.Call f ps) (eform.Call f ps) s t
  call_fills s t f ps hs e i span h placed sized ready =
      let x : List ℕ = h.0 in
      let g : Signature = h.3 in
      let callee = h.4 in
      let here : standing f.index = (ready.1).0 in
      let ek : e.form ≡ T.roll-EForm (E.Call x h.1) = h.2 ∙ sym (tform.rolls-Call x h.1) in
      let params = (setting.signatures f.index g callee.there).params in
      let carries = setting.carries in
      let r = arguments_fill g.params params ps hs h.1 h.5 (opened e (E.Call x h.1) ek placed) i (ready.0, (ready.1).1) in
      let qs : List PExpr = in_turn (map (expr_part values number) ps) i in
      let again_callee : IsCallee second.top scope x (renamed values number f) g = record { meaning = function_meant bounds structs consts funs again known all scope standing number carries x f here callee.meaning; there = carries.there f.index g callee.there here; callable = callee.callable } in
      closed (eform.Call f ps) (eform.Call (renamed values number f) qs) (P.Call (renamed values number f) qs) (V.rolls-Call (renamed values number f) qs) s t e (E.Call x h.1) (E.Call x r.trees) (tform.Call x r.trees) ek (tform.rolls-Call x r.trees)
      (x, r.trees, refl, g, again_callee, r.mean, h.6)
      (λ u is. inl (call_own_is second setting.distinct x (renamed values number f) g _ again_callee ∙ sym (call_own_is first setting.distinct x f g _ callee)))
      refl
      (ap (variable_type scope) h.2) refl
      (nearer 1 _ _ r.placed)

  new_fills : (s : Span) (t : Option Ty) (k : StructId) (ps : List PField) → Every FieldFills ps → Made (P.New k ps) (eform.New k ps) s t
  new_fills s t k ps hs e i span h placed sized ready =
      let x : List ℕ = h.0 in
      let is_struct = h.4 in
      let ek : e.form ≡ T.roll-EForm (E.New x h.1) = h.2 ∙ sym (tform.rolls-New x h.1) in
      let r = sets_fill k.index h.3 is_struct.there ps hs h.1 h.5 (opened e (E.New x h.1) ek placed) i ready in
      let qs : List PField = in_turn (map field_part ps) i in
      let meaning = struct_meant_again bounds structs consts funs again known all scope x k is_struct.meaning in
      closed (eform.New k ps) (eform.New k qs) (P.New k qs) (V.rolls-New k qs) s t e (E.New x h.1) (E.New x r.trees) (tform.New x r.trees) ek (tform.rolls-New x r.trees)
      (x, r.trees, refl, h.3, record { meaning = meaning; there = is_struct.there }, r.mean, ap all_distinct r.names ∙ h.6, h.7)
      (λ u is. inl (ap (λ m. (new_sort second.top (struct_meant m) (map (λ x. (x, field_sort second scope x)) r.trees)).own) meaning ∙ sym (ap (λ m. (new_sort first.top (struct_meant m) (map (λ x. (x, field_sort first scope x)) h.1)).own) is_struct.meaning)))
      refl
      (ap (variable_type scope) h.2) refl
      (nearer 1 _ _ r.placed)

  more_turned : (ps : List PExpr) (i : ℕ) → IsMore ps → IsMore (in_turn (map (expr_part values number) ps) i)
  more_turned [] i h = h
  more_turned (p ∷ ps) i h = tt

  part_sized : (r u : Ty) → element_of r ≡ Some u → Sized r → Sized u
  part_sized r u is h = subst AnySized is (element_sized r h)

  braces_fills : (s : Span) (t : Option Ty) (ps : List PExpr) → Every ExprFills ps → Made (P.Braces ps) (eform.Braces ps) s t
  braces_fills s t ps hs e i span h placed sized ready =
      let ek : e.form ≡ T.roll-EForm (E.Braces h.0) = h.1 ∙ sym (tform.rolls-Braces h.0) in
      let whole : Sized h.5 = subst AnySized h.8 sized in
      let r = each_fills h.3 (part_sized h.5 h.3 h.6 whole) ps hs h.0 h.4 (opened e (E.Braces h.0) ek placed) i ready in
      let qs : List PExpr = in_turn (map (expr_part values number) ps) i in
      let few : length ps ≤ count_of h.5 = h.7 in
      let as_many : length qs ≡ length ps = turn_length values standing (expr_sites bounds) (expr_standing values) (expr_part values number) ps i in
      closed (eform.Braces ps) (eform.Braces qs) (P.Braces qs) (V.rolls-Braces qs) s t e (E.Braces h.0) (E.Braces r.trees) (tform.Braces r.trees) ek (tform.rolls-Braces r.trees)
      (r.trees, refl, more_turned ps i h.2, h.3, r.mean, h.5, h.6, subst (λ n. n ≤ count_of h.5) (sym as_many) few, h.8)
      (λ u is. inl refl)
      refl
      (ap (variable_type scope) h.1) refl
      (nearer 1 _ _ r.placed)

  -- the own type of a part that has one stays
  own_again : (x y : Own) (u : Ty) (t : Option Ty) → x ≡ Firm u → t ≡ Some u → StaysAt x y t → y ≡ Firm u
  own_again x y u t firm is h = firm_stays u y (subst (λ z. Stays z y u) firm (h u is))

  reference_sized : (k : StructId) → Sized (reference_to k)
  reference_sized k = tt

  member_fills : (s : Span) (t : Option Ty) (p : PExpr) (k : StructId) (j : ℕ) → ExprFills p → Made (P.Member p k j) (eform.Member p k j) s t
  member_fills s t p k j hp e i span h placed sized ready =
      let x : Expr = h.0 in
      let y : List ℕ = h.1 in
      let ek : e.form ≡ T.roll-EForm (E.Member x y) = h.2 ∙ sym (tform.rolls-Member x y) in
      let b = opened e (E.Member x y) ek placed in
      let r = hp.fills x i h.3 (bound 1 (place_of x) b) (subst AnySized (sym h.5) (reference_sized k)) ready in
      let o = own_again (own first scope x) (own second scope r.tree) (reference_to k) p.ty h.4 h.5 r.owns in
      let q : PExpr = (expr_part values number p).at i in
      remade (eform.Member p k j) (eform.Member q k j) (P.Member q k j) (V.rolls-Member q k j) s t e (E.Member x y) (E.Member r.tree y) (tform.Member r.tree y) ek (tform.rolls-Member r.tree y)
      (r.tree, y, refl, r.means, o, r.type ∙ h.5, h.6, h.7, h.8, h.9, h.10)
      (λ u is. inl (firm_own (member_of second.top (reference_meant (own second scope r.tree)) y) _ ∙ ap (λ o. own_type (member_of second.top (reference_meant o) y)) (o ∙ sym h.4) ∙ sym (firm_own (member_of first.top (reference_meant (own first scope x)) y) _)))
      refl
      (no_ref e (record { span = s; form = tform.Member r.tree y }) (ap (variable_type scope) h.2))
      (λ u is.
      let z = bind_some (target_type first scope x) (λ t. member_of first.top (reference_meant (Firm t)) y) u (sym (target_at first scope e (E.Member x y) ek) ∙ is) in
      target_at second scope (record { span = s; form = tform.Member r.tree y }) (E.Member r.tree y) (sym (tform.rolls-Member r.tree y))
      ∙ ap (λ o. o >>= λ t. member_of second.top (reference_meant (Firm t)) y) (r.target z.0 z.1)
      ∙ z.2)
      (nearer 1 _ _ (binds_closer 1 (place_of x) (place_of r.tree) r.place b))

  index_fills : (s : Span) (t : Option Ty) (p j : PExpr) → ExprFills p → ExprFills j → Made (P.Index p j) (eform.Index p j) s t
  index_fills s t p j hp hj e i span h placed sized ready =
      let x : Expr = h.0 in
      let y : Expr = h.1 in
      let ek : e.form ≡ T.roll-EForm (E.Index x y) = h.2 ∙ sym (tform.rolls-Index x y) in
      let two = both_ready values standing (expr_sites bounds p) (expr_sites bounds j) (expr_standing values p) (expr_standing values j) (expr_part values number p).count i hp.counted ready in
      let b = and_parts (binds 1 (place_of x)) (expr_placed y) (opened e (E.Index x y) ek placed) in
      let r = hp.fills x i h.3 (bound 1 (place_of x) b.0) (subst AnySized (sym h.7) (first_sized x h.5 h.6)) two.0 in
      let n = i + (expr_part values number p).count in
      let v = hj.fills y n h.4 b.1 (subst AnySized (sym h.8) tt) two.1 in
      let o = own_again (own first scope x) (own second scope r.tree) h.5 p.ty h.6 h.7 r.owns in
      let q : PExpr = (expr_part values number p).at i in
      let w : PExpr = (expr_part values number j).at n in
      remade (eform.Index p j) (eform.Index q w) (P.Index q w) (V.rolls-Index q w) s t e (E.Index x y) (E.Index r.tree v.tree) (tform.Index r.tree v.tree) ek (tform.rolls-Index r.tree v.tree)
      (r.tree, v.tree, refl, r.means, v.means, h.5, o, r.type ∙ h.7, v.type ∙ h.8, h.9, h.10, h.11)
      (λ u is. inl (firm_own (array_meant (own second scope r.tree)) _ ∙ ap (λ o. own_type (array_meant o)) (o ∙ sym h.6) ∙ sym (firm_own (array_meant (own first scope x)) _)))
      refl
      (no_ref e (record { span = s; form = tform.Index r.tree v.tree }) (ap (variable_type scope) h.2))
      (λ u is.
      let z = bind_some (target_type first scope x) (λ t. if (sort first scope y).at int then element_of t else None) u (sym (target_at first scope e (E.Index x y) ek) ∙ is) in
      let g = if_some ((sort first scope y).at int) (element_of z.0) u z.2 in
      target_at second scope (record { span = s; form = tform.Index r.tree v.tree }) (E.Index r.tree v.tree) (sym (tform.rolls-Index r.tree v.tree))
      ∙ ap (λ o. o >>= λ t. if (sort second scope v.tree).at int then element_of t else None) (r.target z.0 z.1)
      ∙ ap (λ c. if c then element_of z.0 else None) (at_stands v.tree w int v.means (v.type ∙ h.8))
      ∙ g.1)
      (nearer 1 _ _ (λ k. binds_closer 1 (place_of x) (place_of r.tree) r.place b.0 k && (v.place).placed k))

  slice_fills : (s : Span) (t : Option Ty) (p j : PExpr) (m : ℕ) → ExprFills p → ExprFills j → Made (P.Slice p j m) (eform.Slice p j m) s t
  slice_fills s t p j m hp hj e i span h placed sized ready =
      let x : Expr = h.0 in
      let y : Expr = h.1 in
      let z : Expr = h.2 in
      let ek : e.form ≡ T.roll-EForm (E.Slice x y z) = h.3 ∙ sym (tform.rolls-Slice x y z) in
      let two = both_ready values standing (expr_sites bounds p) (expr_sites bounds j) (expr_standing values p) (expr_standing values j) (expr_part values number p).count i hp.counted ready in
      let a = and_parts (binds 1 (place_of x) && expr_placed y) (expr_placed z) (opened e (E.Slice x y z) ek placed) in
      let b = and_parts (binds 1 (place_of x)) (expr_placed y) a.0 in
      let r = hp.fills x i h.4 (bound 1 (place_of x) b.0) (subst AnySized (sym h.8) (first_sized x h.6 h.7)) two.0 in
      let n = i + (expr_part values number p).count in
      let v = hj.fills y n h.5 b.1 (subst AnySized (sym h.9) tt) two.1 in
      let o = own_again (own first scope x) (own second scope r.tree) h.6 p.ty h.7 h.8 r.owns in
      let long = constant_stays bounds structs consts funs again known all scope setting.knows z m h.10 in
      let q : PExpr = (expr_part values number p).at i in
      let w : PExpr = (expr_part values number j).at n in
      closed (eform.Slice p j m) (eform.Slice q w m) (P.Slice q w m) (V.rolls-Slice q w m) s t e (E.Slice x y z) (E.Slice r.tree v.tree z) (tform.Slice r.tree v.tree z) ek (tform.rolls-Slice r.tree v.tree z)
      (r.tree, v.tree, z, refl, r.means, v.means, h.6, o, r.type ∙ h.8, v.type ∙ h.9, long, h.11, h.12, h.13)
      (λ u is. inl (firm_own (slice_of (own second scope r.tree) (constant_number second scope z)) _ ∙ (λ k. own_type (slice_of ((o ∙ sym h.7) k) ((long ∙ sym h.10) k))) ∙ sym (firm_own (slice_of (own first scope x) (constant_number first scope z)) _)))
      refl
      (ap (variable_type scope) h.3) refl
      (nearer 1 _ _ (λ k. binds_closer 1 (place_of x) (place_of r.tree) r.place b.0 k && (v.place).placed k && a.1 k))

  unary_own_at : (context : Context) (o : UnOp) (m : Mark) (x : Expr) → unary_of m ≡ Some o → (any_unary (unary_of m) (sort context scope x)).own ≡ unary_own o (own context scope x)
  unary_own_at context o m x is = ap (λ z. (any_unary z (sort context scope x)).own) is ∙ unary_own_is o (sort context scope x)

  unary_fills : (s : Span) (t : Option Ty) (o : UnOp) (p : PExpr) → ExprFills p → Made (P.Unary o p) (eform.Unary o p) s t
  unary_fills s t o p hp e i span h placed sized ready =
      let m : Mark = h.0 in
      let x : Expr = h.1 in
      let u : Ty = h.5 in
      let ek : e.form ≡ T.roll-EForm (E.Unary m x) = h.2 ∙ sym (tform.rolls-Unary m x) in
      let b = opened e (E.Unary m x) ek placed in
      let same : p.ty ≡ t = h.7 ∙ sym h.8 in
      let r = hp.fills x i h.4 (bound 2 (place_of x) b) (subst AnySized (sym same) sized) ready in
      let w = unary_stays o (own first scope x) (own second scope r.tree) u h.6 (r.owns u h.7) in
      let q : PExpr = (expr_part values number p).at i in
      closed (eform.Unary o p) (eform.Unary o q) (P.Unary o q) (V.rolls-Unary o q) s t e (E.Unary m x) (E.Unary m r.tree) (tform.Unary m r.tree) ek (tform.rolls-Unary m r.tree)
      (m, r.tree, refl, h.3, r.means, u, w.0, r.type ∙ h.7, h.8)
      (λ v is.
      let z : Some u ≡ Some v = sym h.8 ∙ is in
      let is_u : u ≡ v = cc in
      subst (λ a. Stays a (any_unary (unary_of m) (sort second scope r.tree)).own v) (sym (unary_own_at first o m x h.3))
      (subst (λ a. Stays (unary_own o (own first scope x)) a v) (sym (unary_own_at second o m r.tree h.3)) (subst (λ a. Stays (unary_own o (own first scope x)) (unary_own o (own second scope r.tree)) a) is_u w.1)))
      refl
      (ap (variable_type scope) h.2) refl
      (nearer 2 _ _ (binds_closer 2 (place_of x) (place_of r.tree) r.place b))

  binary_own_at : (context : Context) (o : BinOp) (m : Mark) (x y : Expr) → operator_of m ≡ Some o → (any_binary (operator_of m) (sort context scope x) (sort context scope y)).own ≡ operation_own o (own context scope x) (own context scope y)
  binary_own_at context o m x y is = ap (λ z. (any_binary z (sort context scope x) (sort context scope y)).own) is ∙ binary_own o (sort context scope x) (sort context scope y)

  binary_fills : (s : Span) (t : Option Ty) (o : BinOp) (p j : PExpr) → ExprFills p → ExprFills j → Made (P.Binary o p j) (eform.Binary o p j) s t
  binary_fills s t o p j hp hj e i span h placed sized ready =
      let m : Mark = h.0 in
      let x : Expr = h.1 in
      let y : Expr = h.2 in
      let u : Ty = h.7 in
      let k = level_of m in
      let ek : e.form ≡ T.roll-EForm (E.Binary m x y) = h.3 ∙ sym (tform.rolls-Binary m x y) in
      let two = both_ready values standing (expr_sites bounds p) (expr_sites bounds j) (expr_standing values p) (expr_standing values j) (expr_part values number p).count i hp.counted ready in
      let a = and_parts (nat_le 3 k && binds k (place_of x)) (binds (k - 1) (place_of y)) (opened e (E.Binary m x y) ek placed) in
      let b = and_parts (nat_le 3 k) (binds k (place_of x)) a.0 in
      let sizes = class_sized (class_of o) (own first scope x) (own first scope y) u p.ty j.ty t h.8 (own_sized first scope setting.fields setting.signatures variables x) (own_sized first scope setting.fields setting.signatures variables y) sized in
      let r = hp.fills x i h.5 (bound k (place_of x) b.1) sizes.0 two.0 in
      let n = i + (expr_part values number p).count in
      let v = hj.fills y n h.6 (bound (k - 1) (place_of y) a.1) sizes.1 two.1 in
      let w = binary_stays o (own first scope x) (own first scope y) (own second scope r.tree) (own second scope v.tree) u p.ty j.ty t h.8 r.owns v.owns in
      let q : PExpr = (expr_part values number p).at i in
      let l : PExpr = (expr_part values number j).at n in
      let typed_parts : MeansBinary (class_of o) (own second scope r.tree) (own second scope v.tree) u q.ty l.ty t = subst (λ (Q : Type 0). Q) (λ c. MeansBinary (class_of o) (own second scope r.tree) (own second scope v.tree) u (sym r.type c) (sym v.type c) t) w.0 in
      closed (eform.Binary o p j) (eform.Binary o q l) (P.Binary o q l) (V.rolls-Binary o q l) s t e (E.Binary m x y) (E.Binary m r.tree v.tree) (tform.Binary m r.tree v.tree) ek (tform.rolls-Binary m r.tree v.tree)
      (m, r.tree, v.tree, refl, h.4, r.means, v.means, u, typed_parts)
      (λ c is.
      subst (λ a. Stays a (any_binary (operator_of m) (sort second scope r.tree) (sort second scope v.tree)).own c) (sym (binary_own_at first o m x y h.4))
      (subst (λ a. Stays (operation_own o (own first scope x) (own first scope y)) a c) (sym (binary_own_at second o m r.tree v.tree h.4)) (w.1 c is)))
      refl
      (ap (variable_type scope) h.3) refl
      (nearer k _ _ (λ c. b.0 c && binds_closer k (place_of x) (place_of r.tree) r.place b.1 c && binds_closer (k - 1) (place_of y) (place_of v.tree) v.place a.1 c))

  cond_fills : (s : Span) (t : Option Ty) (c p j : PExpr) → ExprFills c → ExprFills p → ExprFills j → Made (P.Cond c p j) (eform.Cond c p j) s t
  cond_fills s t c p j hc hp hj e i span h placed sized ready =
      let z : Expr = h.0 in
      let x : Expr = h.1 in
      let y : Expr = h.2 in
      let u : Ty = h.8 in
      let ek : e.form ≡ T.roll-EForm (E.Cond z x y) = h.3 ∙ sym (tform.rolls-Cond z x y) in
      let one = both_ready values standing (expr_sites bounds c) (expr_sites bounds p ++ expr_sites bounds j) (expr_standing values c) (beside (expr_standing values p) (expr_standing values j)) (expr_part values number c).count i hc.counted ready in
      let n = i + (expr_part values number c).count in
      let two = both_ready values standing (expr_sites bounds p) (expr_sites bounds j) (expr_standing values p) (expr_standing values j) (expr_part values number p).count n hp.counted one.1 in
      let a = and_parts (binds 12 (place_of z) && expr_placed x) (binds 13 (place_of y)) (opened e (E.Cond z x y) ek placed) in
      let b = and_parts (binds 12 (place_of z)) (expr_placed x) a.0 in
      let left : p.ty ≡ t = h.9 ∙ sym h.11 in
      let right : j.ty ≡ t = h.10 ∙ sym h.11 in
      let k = hc.fills z i h.4 (bound 12 (place_of z) b.0) (subst AnySized (sym h.7) tt) one.0 in
      let r = hp.fills x n h.5 b.1 (subst AnySized (sym left) sized) two.0 in
      let l = n + (expr_part values number p).count in
      let v = hj.fills y l h.6 (bound 13 (place_of y) a.1) (subst AnySized (sym right) sized) two.1 in
      let f : PExpr = (expr_part values number c).at i in
      let q : PExpr = (expr_part values number p).at n in
      let w : PExpr = (expr_part values number j).at l in
      closed (eform.Cond c p j) (eform.Cond f q w) (P.Cond f q w) (V.rolls-Cond f q w) s t e (E.Cond z x y) (E.Cond k.tree r.tree v.tree) (tform.Cond k.tree r.tree v.tree) ek (tform.rolls-Cond k.tree r.tree v.tree)
      (k.tree, r.tree, v.tree, refl, k.means, r.means, v.means, k.type ∙ h.7, u, r.type ∙ h.9, v.type ∙ h.10, h.11)
      (λ d is.
      choice_stays (own first scope x) (own first scope y) (own second scope r.tree) (own second scope v.tree) d
      (own_fits first scope setting.distinct d x p h.5 (left ∙ is)) (own_fits first scope setting.distinct d y j h.6 (right ∙ is))
      (r.owns d (left ∙ is)) (v.owns d (right ∙ is)))
      refl
      (ap (variable_type scope) h.3) refl
      (nearer 13 _ _ (λ d. binds_closer 12 (place_of z) (place_of k.tree) k.place b.0 d && (r.place).placed d && binds_closer 13 (place_of y) (place_of v.tree) v.place a.1 d))

  -- Coercions

  coerced : (s : Span) (t : Option Ty) (f g : PEForm) (l : PLayer) → V.roll-PEForm l ≡ g → (p : PExpr) (e : Expr) (q : PExpr) → s ≡ e.span → Means first scope p e → (r : Filled p e q) → rule second scope l t r.tree → own second scope r.tree ≡ own first scope e → Filled (typed s t f) e (typed s t g)
  coerced s t f g l is p e q span m r h o =
      let same : s ≡ r.tree.span = span ∙ sym (means_parts first scope p e m).0 ∙ sym r.span ∙ (means_parts second scope q r.tree r.means).0 in
      record {
        tree = r.tree;
        means = means_from second scope (typed s t g) r.tree same (subst (λ z. FormMeans second scope z t r.tree) is (subst (λ (M : EFormRule). M t r.tree) (sym (form_means_are second scope l)) h));
        span = refl;
        type = refl;
        owns = λ u h. inl o;
        bare = r.bare;
        ref = r.ref;
        target = r.target;
        place = r.place;
      }

  to_int_fills : (s : Span) (t : Option Ty) (p : PExpr) → ExprFills p → Made (P.ToInt p) (eform.ToInt p) s t
  to_int_fills s t p hp e i span h placed sized ready =
      let w = h.2 in
      let r = hp.fills e i h.0 placed (subst AnySized (sym w.operand) tt) ready in
      let o = own_again (own first scope e) (own second scope r.tree) bit p.ty w.own w.operand r.owns in
      let q : PExpr = (expr_part values number p).at i in
      coerced s t (eform.ToInt p) (eform.ToInt q) (P.ToInt q) (V.rolls-ToInt q) p e q span h.0 r
      (r.means, r.bare bit w.own ∙ h.1, record { own = o; operand = r.type ∙ w.operand; result = w.result })
      (o ∙ sym w.own)

  pad_fills : (s : Span) (t : Option Ty) (p : PExpr) → ExprFills p → Made (P.Pad p) (eform.Pad p) s t
  pad_fills s t p hp e i span h placed sized ready =
      let w = h.2 in
      let r = hp.fills e i h.0 placed (subst AnySized (sym w.operand) (first_sized e w.from w.own)) ready in
      let o = own_again (own first scope e) (own second scope r.tree) w.from p.ty w.own w.operand r.owns in
      let q : PExpr = (expr_part values number p).at i in
      coerced s t (eform.Pad p) (eform.Pad q) (P.Pad q) (V.rolls-Pad q) p e q span h.0 r
      (r.means, r.bare w.from w.own ∙ h.1, record { from = w.from; to = w.to; own = o; operand = r.type ∙ w.operand; result = w.result; fit = w.fit })
      (o ∙ sym w.own)

  -- Fields

  field_means_is : (context : Context) (q : PField) → FieldMeans context scope q ≡ (λ d x. (t : Ty) × IsField d q.field x.name t × Means context scope q.value x.value × (q.value.ty ≡ Some t))
  field_means_is context q = rec-roll-PField EFormRule ExprRule FieldRule (eform_means context scope) (expr_means context scope) (field_means context scope) (λ X Y Z u v w f k n x. refl) (record { field = q.field; value = q.value })

  field_fills : (k : ℕ) (p : PExpr) → ExprFills p → FieldFills (record { field = k; value = p })
  field_fills k p hp =
      let x : PField = record { field = k; value = p } in
      subst (λ (S : List Site). FieldsFill x S (field_standing x) (field_part x)) (sym (layer_field (Option Ty → Span → List Site) (List Site) (List Site) (eform_sites bounds) (λ e. e.form e.ty e.span) (λ x. x.value) k p))
      (subst (λ (S : Part Standing). FieldsFill x (expr_sites bounds p) S (field_part x)) (sym (layer_field (Option Ty → Part Standing) (Part Standing) (Part Standing) (eform_standing values) (λ e. e.form e.ty) (λ x. x.value) k p))
      (subst (λ (S : Part PField). FieldsFill x (expr_sites bounds p) (expr_standing values p) S) (sym (layer_field (Opened values number) (Part PExpr) (Part PField) (eform_part values number) (expr_step values number) (field_step values number) k p))
      (record {
        counted = record { sites = hp.counted.sites; standing = hp.counted.standing };
        fills = λ s d there n i m placed ready.
            let g = subst (λ (M : FieldRule). M d n) (field_means_is first (record { field = k; value = p })) m in
            let large = setting.fields s d there k _ (g.1).there in
            let r = hp.fills n.value i g.2 (sym (set_at n) ∙ placed) (subst AnySized (sym g.3) large) ready in
            let tree : NewField = record { name = n.name; value = r.tree } in
            let q : PField = record { field = k; value = (expr_part values number p).at i } in
            record {
              tree = tree;
              means = subst (λ (M : FieldRule). M d tree) (sym (field_means_is second q)) (g.0, g.1, r.means, r.type ∙ g.3);
              name = refl;
              placed = set_at tree ∙ (r.place).placed;
            };
      })))

  -- All forms

  same_counted : (p : PExpr) → ExprFills p → Counted (expr_sites bounds p) (expr_standing values p) (expr_part values number p).count
  same_counted p h = h.counted

  two_counted : (p j : PExpr) → ExprFills p → ExprFills j → Counted (expr_sites bounds p ++ expr_sites bounds j) (beside (expr_standing values p) (expr_standing values j)) ((expr_part values number p).count + (expr_part values number j).count)
  two_counted p j hp hj = both_counted (expr_sites bounds p) (expr_sites bounds j) (expr_standing values p) (expr_standing values j) (expr_part values number p).count (expr_part values number j).count hp.counted hj.counted

  three_counted : (c p j : PExpr) → ExprFills c → ExprFills p → ExprFills j → Counted (expr_sites bounds c ++ (expr_sites bounds p ++ expr_sites bounds j)) (beside (expr_standing values c) (beside (expr_standing values p) (expr_standing values j))) ((expr_part values number c).count + ((expr_part values number p).count + (expr_part values number j).count))
  three_counted c p j hc hp hj = both_counted (expr_sites bounds c) (expr_sites bounds p ++ expr_sites bounds j) (expr_standing values c) (beside (expr_standing values p) (expr_standing values j)) (expr_part values number c).count ((expr_part values number p).count + (expr_part values number j).count) hc.counted (two_counted p j hp hj)

  rows_counted : (ps : List PExpr) → Every ExprFills ps → Counted (joined (map (expr_sites bounds) ps)) (in_row (map (expr_standing values) ps)) (counts (map (expr_part values number) ps))
  rows_counted ps h = row_counted values standing (expr_sites bounds) (expr_standing values) (expr_part values number) ps (every_counted ps h)

  set_rows_counted : (ps : List PField) → Every FieldFills ps → Counted (joined (map field_sites ps)) (in_row (map field_standing ps)) (counts (map field_part ps))
  set_rows_counted ps h = row_counted values standing field_sites field_standing field_part ps (sets_counted ps h)

  expr_cases : ExprCases ExprFills FieldFills
  expr_cases = record {
    field = field_fills;
    number = λ s t n. by_form (P.Number n) (eform.Number n) (V.rolls-Number n) s t none_counted (λ e i span h placed sized ready. leaf (eform.Number n) (P.Number n) (V.rolls-Number n) s t e (E.Number n) (tform.Number n) h.0 (tform.rolls-Number n) placed (refl, h.1, h.2) refl (not_target e _ (E.Number n) (h.0 ∙ sym (tform.rolls-Number n)) refl));
    truth = λ s t. by_form P.True eform.True V.rolls-True s t none_counted (λ e i span h placed sized ready. leaf eform.True P.True V.rolls-True s t e E.True tform.True h.0 tform.rolls-True placed (refl, h.1) refl (not_target e _ E.True (h.0 ∙ sym tform.rolls-True) refl));
    falsity = λ s t. by_form P.False eform.False V.rolls-False s t none_counted (λ e i span h placed sized ready. leaf eform.False P.False V.rolls-False s t e E.False tform.False h.0 tform.rolls-False placed (refl, h.1) refl (not_target e _ E.False (h.0 ∙ sym tform.rolls-False) refl));
    null = λ s t. by_form P.Null eform.Null V.rolls-Null s t none_counted (λ e i span h placed sized ready. leaf eform.Null P.Null V.rolls-Null s t e E.Null tform.Null h.0 tform.rolls-Null placed (refl, h.1) refl (not_target e _ E.Null (h.0 ∙ sym tform.rolls-Null) refl));
    var = λ s t slot x. by_form (P.Var slot x) (eform.Var slot x) (V.rolls-Var slot x) s t none_counted (var_fills s t slot x);
    const = λ s t c. by_form (P.Const c) (eform.Const c) (V.rolls-Const c) s t none_counted (const_fills s t c);
    hole = λ s t w. by_form (P.Hole w) (eform.Hole w) (V.rolls-Hole w) s t (hole_counted bounds values number w t s) (hole_fills s t w);
    pattern = λ s t ps h. let hs = every_of ExprFills ps h in by_form (P.Pattern ps) (eform.Pattern ps) (V.rolls-Pattern ps) s t (pattern_counted t s ps hs) (pattern_fills s t ps hs);
    paren = λ s t p h. by_form (P.Paren p) (eform.Paren p) (V.rolls-Paren p) s t (same_counted p h) (paren_fills s t p h);
    call = λ s t f ps h. let hs = every_of ExprFills ps h in by_form (P.Call f ps) (eform.Call f ps) (V.rolls-Call f ps) s t (call_counted t s f ps hs) (call_fills s t f ps hs);
    new = λ s t k ps h. let hs = every_of FieldFills ps h in by_form (P.New k ps) (eform.New k ps) (V.rolls-New k ps) s t (set_rows_counted ps hs) (new_fills s t k ps hs);
    braces = λ s t ps h. let hs = every_of ExprFills ps h in by_form (P.Braces ps) (eform.Braces ps) (V.rolls-Braces ps) s t (rows_counted ps hs) (braces_fills s t ps hs);
    member = λ s t p k j h. by_form (P.Member p k j) (eform.Member p k j) (V.rolls-Member p k j) s t (same_counted p h) (member_fills s t p k j h);
    index = λ s t p j h k. by_form (P.Index p j) (eform.Index p j) (V.rolls-Index p j) s t (two_counted p j h k) (index_fills s t p j h k);
    slice = λ s t p j m h k. by_form (P.Slice p j m) (eform.Slice p j m) (V.rolls-Slice p j m) s t (two_counted p j h k) (slice_fills s t p j m h k);
    unary = λ s t o p h. by_form (P.Unary o p) (eform.Unary o p) (V.rolls-Unary o p) s t (same_counted p h) (unary_fills s t o p h);
    binary = λ s t o p j h k. by_form (P.Binary o p j) (eform.Binary o p j) (V.rolls-Binary o p j) s t (two_counted p j h k) (binary_fills s t o p j h k);
    cond = λ s t c p j f h k. by_form (P.Cond c p j) (eform.Cond c p j) (V.rolls-Cond c p j) s t (three_counted c p j f h k) (cond_fills s t c p j f h k);
    to_int = λ s t p h. by_form (P.ToInt p) (eform.ToInt p) (V.rolls-ToInt p) s t (same_counted p h) (to_int_fills s t p h);
    pad = λ s t p h. by_form (P.Pad p) (eform.Pad p) (V.rolls-Pad p) s t (same_counted p h) (pad_fills s t p h);
  }

  -- a filled expression keeps the rules
  pub expr_fills : (p : PExpr) → ExprFills p
  expr_fills = expr_ind ExprFills FieldFills expr_cases
