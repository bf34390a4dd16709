-- What an expression means, its walk means among the names of the expansion: the same but for names of functions
-- that are called, and without the strings that its patterns dropped.
use Rattle.std.proofs.Common.{◌≡◌, ℕ, suc, ◌+◌, ◌≤◌, Bool, true, false, ◌&&◌, List, [], ◌∷◌, ◌++◌, map, length, Option, Some, None, refl, sym, ap, ◌∙◌, subst}
use Rattle.std.specs.Prelude.{◌-◌, if◌then◌else◌, is_some, ℤ, nat_le}
use Rattle.std.specs.List.{list_all}
use Rattle.std.proofs.lemmas.Bool.{and_parts}
use Rattle.sk_base.specs.declared.span.Span.{Span}
use Rattle.sk_base.specs.declared.bounds.Bounds.{Bounds}
use Rattle.sk_tree.specs.declared.expr.Expr.{Expr}
use Rattle.sk_tree.specs.declared.expr.NewField.{NewField}
use Rattle.sk_tree.specs.declared.expr.EForm.{EForm}
use Rattle.sk_tree.specs.declared.expr.EForm.TheVariants as eform
use Rattle.sk_tree.specs.declared.expr.EForm.TheOpen as E
use Rattle.sk_tree.specs.declared.expr.EForm.TheViews.{roll-EForm}
use Rattle.sk_tree.specs.declared.expr.EForm.TheFolds.{map-EForm, fold-EForm, fold-NewField, para-EForm, fold-roll-EForm, fold-roll-Expr, fold-roll-NewField, para-roll-EForm, para-roll-Expr, fold-Expr}
use Rattle.sk_tree.specs.Placed.{Place, level_of, binds, all_placed, are_yes, eform_place, expr_place, field_placed, place_of, expr_placed}
use Rattle.sk_prog.specs.declared.ty.Ty.{Ty}
use Rattle.sk_prog.specs.declared.ids.StructId.{StructId}
use Rattle.sk_prog.specs.declared.ids.ConstId.{ConstId}
use Rattle.sk_prog.specs.declared.expr.UnOp.{UnOp}
use Rattle.sk_prog.specs.declared.expr.BinOp.{BinOp}
use Rattle.sk_prog.specs.declared.expr.PExpr.{PExpr}
use Rattle.sk_prog.specs.declared.expr.PField.{PField}
use Rattle.sk_prog.specs.declared.expr.PEForm.{PEForm}
use Rattle.sk_prog.specs.declared.expr.PEForm.TheVariants as pform
use Rattle.sk_prog.specs.declared.expr.PEForm.TheOpen as P
use Rattle.sk_prog.specs.declared.expr.PEForm.TheViews.{roll-PEForm, roll-PExpr, roll-PField}
use Rattle.sk_prog.specs.declared.expr.PEForm.TheViews as V
use Rattle.sk_prog.specs.declared.expr.PEForm.TheFolds.{map-PEForm, fold-PEForm, fold-PField, fold-roll-PEForm, fold-roll-PExpr, fold-roll-PField, rec-roll-PField, ind-PExpr}
use Rattle.sk_prog.specs.declared.prog.StructDef.{StructDef}
use Rattle.sk_prog.specs.declared.prog.ParamDef.{ParamDef}
use Rattle.sk_prog.specs.declared.prog.Fun.{Fun}
use Rattle.sk_types_rules.specs.declared.rules.Own.TheVariants.{Firm}
use Rattle.sk_types_rules.specs.declared.scope.Variable.{Variable}
use Rattle.sk_types_rules.specs.declared.scope.Place.{Place as VarPlace}
use Rattle.sk_types_laws.specs.Owns.{own_type, callee_result}
use Rattle.sk_types_rules.specs.Rules.{◌>>=◌, int, count_of, element_of, operator_of, unary_of, unary_own, operation_own, choice, class_of}
use Rattle.sk_types_rules.specs.Scope.{lookup, Nearest, Signature, Top, Known, Context, AVariable, AStruct, AConstant, all_distinct, meaning_of, place_of as name_place, function_or, constant_or, struct_or, top_meaning, variable_or}
use Rattle.sk_types_rules.specs.Constants.{eform_number, natural, constant_number}
use Rattle.sk_types_rules.specs.Sorts.{Sort, named, eform_sort, sort, own, keeps, may_keep, kept, variable_type, any_binary, any_unary, member_of, reference_meant, array_meant, slice_of, new_sort, struct_meant, eform_target, target_type}
use Rattle.sk_types_rules.specs.Types.{EFormRule, ExprRule, FieldRule, EachMeans, ArgumentsMean, FieldsMean, MayBeRef, IsMore, IsField, IsCallee, MeansUnary, MeansBinary, eform_means, expr_means, field_means, Means, eform_bare, is_bare}
use Rattle.sk_types_rules.proofs.Nearest.{nearest_lookup}
use Rattle.sk_types_rules.proofs.Layers.{FormMeans, FieldMeans, rule, form_means_are, means_parts, means_from}
use Rattle.sk_types_rules.proofs.SortLaws.{form_sort, field_sort, form_sort_is, sort_is}
use Rattle.sk_types_laws.specs.Envs.{AreDistinct}
use Rattle.sk_types_laws.proofs.Ats.{bind_some, if_some}
use Rattle.sk_types_laws.proofs.OwnLaws.{firm_own, binary_own, unary_own_is, call_own}
use Rattle.sk_types_laws.proofs.Bare.{form_bare, form_bare_is, is_bare_is}
use Rattle.sk_types_laws.proofs.Stands.{stands}
use Rattle.sk_types_laws.proofs.Complete.{complete, callee_is}
use Rattle.sk_model.specs.Expand.{Walk, as_walk, in_order, CallWalk, fun_id, eform_walk, expr_step, field_step, walk_expr}
use Rattle.sk_expand_laws.specs.Copies.{Standing}
use Rattle.sk_expand_laws.proofs.Walks.{standing_parts}

-- The function that a call becomes: to its caller it is what the old one was.
pub record Callee (second : Top) (scope : List Variable) (g : ℕ) (old : Signature) : Type 0 where
  pub name : List ℕ
  pub now : Signature
  pub callee : IsCallee second scope name (fun_id g) now
  pub params : now.params ≡ old.params
  pub result : now.result ≡ old.result

-- what each call becomes, whose copies stand among all
abbrev pub CallsKeep : List Fun → CallWalk → Top → Top → List Variable → Type 0
CallsKeep all call first second scope = (s : Span) (f k : ℕ) (x : List ℕ) (old : Signature) → IsCallee first scope x (fun_id f) old → Standing all k (call s f k).copies → Callee second scope (call s f k).made old

-- Names of structs and of constants mean what they meant.

struct_or_again : (s c f g : Option ℕ) (r : StructId) → struct_or s (constant_or c (function_or f)) ≡ AStruct r → struct_or s (constant_or c (function_or g)) ≡ AStruct r
struct_or_again (Some i) c f g r h = h
struct_or_again None (Some i) f g r h = cc
struct_or_again None None (Some i) g r h = cc
struct_or_again None None None g r h = cc

const_or_again : (s c f g : Option ℕ) (r : ConstId) → struct_or s (constant_or c (function_or f)) ≡ AConstant r → struct_or s (constant_or c (function_or g)) ≡ AConstant r
const_or_again (Some i) c f g r h = cc
const_or_again None (Some i) f g r h = h
const_or_again None None (Some i) g r h = cc
const_or_again None None None g r h = cc

module _ (structs : List StructDef) (consts : List (List ℕ)) (funs others : List Signature) (scope : List Variable) where
  abbrev pub first : Top
  first = record { structs = structs; consts = consts; funs = funs }

  abbrev pub second : Top
  second = record { structs = structs; consts = consts; funs = others }

  abbrev struct_place : List ℕ → Option ℕ
  struct_place x = name_place (map (λ (d : StructDef). d.name) structs) x

  abbrev fun_place : List Signature → List ℕ → Option ℕ
  fun_place fs x = name_place (map (λ (s : Signature). s.name) fs) x

  pub struct_again : (x : List ℕ) (r : StructId) → meaning_of first scope x ≡ AStruct r → meaning_of second scope x ≡ AStruct r
  struct_again x r = go (lookup scope x)
    where
      go : (o : Option VarPlace) → variable_or o (top_meaning first x) ≡ AStruct r → variable_or o (top_meaning second x) ≡ AStruct r
      go None h = struct_or_again (struct_place x) (name_place consts x) (fun_place funs x) (fun_place others x) r h
      go (Some v) h = cc

  pub const_again : (x : List ℕ) (r : ConstId) → meaning_of first scope x ≡ AConstant r → meaning_of second scope x ≡ AConstant r
  const_again x r = go (lookup scope x)
    where
      go : (o : Option VarPlace) → variable_or o (top_meaning first x) ≡ AConstant r → variable_or o (top_meaning second x) ≡ AConstant r
      go None h = const_or_again (struct_place x) (name_place consts x) (fun_place funs x) (fun_place others x) r h
      go (Some v) h = cc

abbrev pub Layer : Type 0
Layer = E.EForm-F EForm Expr NewField

abbrev pub PLayer : Type 0
PLayer = P.PEForm-F PEForm PExpr PField

-- Places by layers

abbrev form_place : EForm → Place
form_place = fold-EForm Place Place Bool eform_place expr_place field_placed

abbrev set_placed : NewField → Bool
set_placed = fold-NewField Place Place Bool eform_place expr_place field_placed

abbrev places : Layer → E.EForm-F Place Place Bool
places l = map-EForm EForm Expr NewField Place Place Bool form_place place_of set_placed l

pub place_at : (e : Expr) (l : Layer) → e.form ≡ roll-EForm l → place_of e ≡ eform_place (places l)
place_at e l is =
    fold-roll-Expr Place Place Bool eform_place expr_place field_placed (record { span = e.span; form = e.form })
    ∙ ap form_place is
    ∙ fold-roll-EForm Place Place Bool eform_place expr_place field_placed l

set_at : (n : NewField) → set_placed n ≡ expr_placed n.value
set_at n = fold-roll-NewField Place Place Bool eform_place expr_place field_placed (record { name = n.name; value = n.value })

abbrev no_field : NewField → Unit {0}
no_field x = tt

bare_of : (e : Expr) (l : Layer) → e.form ≡ roll-EForm l → is_bare e ≡ eform_bare (map-EForm EForm Expr NewField Bool Bool (Unit {0}) form_bare is_bare no_field l)
bare_of e l is = is_bare_is e ∙ ap form_bare is ∙ form_bare_is l

pub order_length : {A : Type 0} (ws : List (Walk A)) (k : ℕ) → length (in_order ws k).made ≡ length ws
order_length [] k = refl
order_length (w ∷ ws) k = ap suc (order_length ws (k + length (w k).copies))

module _ (bounds : Bounds) (structs : List StructDef) (consts : List (List ℕ)) (funs others : List Signature) (known : List Known) (scope : List Variable) (all : List Fun) (call : CallWalk) (good : AreDistinct (second structs consts funs others scope)) (calls : CallsKeep all call (first structs consts funs others scope) (second structs consts funs others scope) scope) where
  abbrev old : Top
  old = record { structs = structs; consts = consts; funs = funs }

  abbrev new : Top
  new = record { structs = structs; consts = consts; funs = others }

  abbrev pub one : Context
  one = record { bounds = bounds; top = old; known = known }

  abbrev pub two : Context
  two = record { bounds = bounds; top = new; known = known }

  meaning_here : (context : Context) (x : List ℕ) (slot : ℕ) (t : Ty) → Nearest scope x slot t → meaning_of context.top scope x ≡ AVariable (record { slot = slot; ty = t })
  meaning_here context x slot t n = ap (λ o. variable_or o (top_meaning context.top x)) (nearest_lookup scope x slot t n)

  -- Numbers of constants are those that they were.

  same_eform : (l : E.EForm-F (Option ℤ) (Option ℤ) (Unit {0})) → eform_number two scope l ≡ eform_number one scope l
  same_eform (E.Number n) = refl
  same_eform (E.Word x) = refl
  same_eform _ = refl

  pub same_number : (e : Expr) → constant_number two scope e ≡ constant_number one scope e
  same_number e = λ i. fold-Expr (Option ℤ) (Option ℤ) (Unit {0}) (λ l. same_eform l i) (λ x. x.form) (λ x. tt) e >>= natural bounds

  -- Walks

  abbrev form_walks : PEForm → Span → Walk PEForm
  form_walks = fold-PEForm (Span → Walk PEForm) (Walk PExpr) (Walk PField) (eform_walk bounds call) (expr_step bounds call) (field_step bounds call)

  abbrev field_walks : PField → Walk PField
  field_walks = fold-PField (Span → Walk PEForm) (Walk PExpr) (Walk PField) (eform_walk bounds call) (expr_step bounds call) (field_step bounds call)

  abbrev pub walks : PExpr → Walk PExpr
  walks = walk_expr bounds call

  -- an expression d is for the expansion what e was
  pub record IsAgain (e d : Expr) : Type 0 where
    pub span : d.span ≡ e.span
    pub owns : own two scope d ≡ own one scope e
    pub bare : is_bare d ≡ is_bare e
    pub word : variable_type scope d.form ≡ variable_type scope e.form
    pub placed : expr_placed e ≡ true → expr_placed d ≡ true
    pub level : (place_of d).level ≡ (place_of e).level
    pub target : (u : Ty) → target_type one scope e ≡ Some u → target_type two scope d ≡ Some u
    pub low : (u : Ty) → target_type one scope e ≡ Some u → (place_of e).level ≡ 1

  -- what is found for an expression whose walk is p
  pub record Again (p : PExpr) (t : Option Ty) (e : Expr) : Type 0 where
    pub tree : Expr
    pub means : Means two scope p tree
    pub type : p.ty ≡ t
    pub again : IsAgain e tree

  record FormIs (f : PEForm) (t : Option Ty) (e : Expr) : Type 0 where
    tree : Expr
    means : FormMeans two scope f t tree
    again : IsAgain e tree

  abbrev FormAgain : PEForm → Type 0
  FormAgain f = (s : Span) (t : Option Ty) (e : Expr) (k : ℕ) → FormMeans one scope f t e → Standing all k (form_walks f s k).copies → FormIs (form_walks f s k).made t e

  abbrev pub ExprAgain : PExpr → Type 0
  ExprAgain p = (e : Expr) (k : ℕ) → Means one scope p e → Standing all k (walks p k).copies → Again (walks p k).made p.ty e

  record SetIs (q : PField) (d : StructDef) (n : NewField) : Type 0 where
    tree : NewField
    means : FieldMeans two scope q d tree
    name : tree.name ≡ n.name
    placed : expr_placed n.value ≡ true → expr_placed tree.value ≡ true

  abbrev FieldAgain : PField → Type 0
  FieldAgain q = (d : StructDef) (n : NewField) (k : ℕ) → FieldMeans one scope q d n → Standing all k (field_walks q k).copies → SetIs (field_walks q k).made d n

  abbrev Such : Type 0
  Such = (f : PEForm) × FormAgain f

  abbrev Such' : Type 0
  Such' = (e : PExpr) × ExprAgain e

  abbrev Such'' : Type 0
  Such'' = (f : PField) × FieldAgain f

  abbrev down : P.PEForm-F Such Such' Such'' → PLayer
  down = map-PEForm Such Such' Such'' PEForm PExpr PField (λ q. q.0) (λ q. q.0) (λ q. q.0)

  abbrev firsts : List Such' → List PExpr
  firsts qs = map (λ (q : Such'). q.0) qs

  abbrev sets : List Such'' → List PField
  sets qs = map (λ (q : Such''). q.0) qs

  -- Own types and targets by layers

  abbrev pairs : Context → Layer → E.EForm-F (EForm × Sort) (Expr × Sort) (NewField × Sort)
  pairs context l = map-EForm EForm Expr NewField (EForm × Sort) (Expr × Sort) (NewField × Sort) (λ f. (f, form_sort context scope f)) (λ e. (e, sort context scope e)) (λ x. (x, field_sort context scope x)) l

  own_of : (context : Context) (e : Expr) (l : Layer) → e.form ≡ roll-EForm l → own context scope e ≡ (eform_sort context scope (pairs context l)).own
  own_of context e l is = ap (λ (z : Sort). z.own) (sort_is context scope e ∙ ap (form_sort context scope) is ∙ form_sort_is context scope l)

  abbrev form_target : Context → EForm → Option Ty
  form_target context = para-EForm (Option Ty) (Option Ty) (Unit {0}) (eform_target context scope) (λ x. x.form.1) (λ x. tt)

  abbrev targets : Context → Layer → E.EForm-F (EForm × Option Ty) (Expr × Option Ty) (NewField × Unit {0})
  targets context l = map-EForm EForm Expr NewField (EForm × Option Ty) (Expr × Option Ty) (NewField × Unit {0}) (λ f. (f, form_target context f)) (λ e. (e, target_type context scope e)) (λ x. (x, tt)) l

  target_of : (context : Context) (e : Expr) (l : Layer) → e.form ≡ roll-EForm l → target_type context scope e ≡ eform_target context scope (targets context l)
  target_of context e l is =
      para-roll-Expr (Option Ty) (Option Ty) (Unit {0}) (eform_target context scope) (λ x. x.form.1) (λ x. tt) (record { span = e.span; form = e.form })
      ∙ ap (form_target context) is
      ∙ para-roll-EForm (Option Ty) (Option Ty) (Unit {0}) (eform_target context scope) (λ x. x.form.1) (λ x. tt) l

  -- of two trees built of these layers, the second is what the first was
  record LayerAgain (k j : Layer) : Type 0 where
    owns : (eform_sort two scope (pairs two j)).own ≡ (eform_sort one scope (pairs one k)).own
    bare : eform_bare (map-EForm EForm Expr NewField Bool Bool (Unit {0}) form_bare is_bare no_field j) ≡ eform_bare (map-EForm EForm Expr NewField Bool Bool (Unit {0}) form_bare is_bare no_field k)
    placed : (eform_place (places k)).placed ≡ true → (eform_place (places j)).placed ≡ true
    level : (eform_place (places j)).level ≡ (eform_place (places k)).level
    target : (u : Ty) → eform_target one scope (targets one k) ≡ Some u → eform_target two scope (targets two j) ≡ Some u
    low : (u : Ty) → eform_target one scope (targets one k) ≡ Some u → (eform_place (places k)).level ≡ 1

  abbrev node : Expr → EForm → Expr
  node e f = record { span = e.span; form = f }

  -- what is found, where e is built of the layer k, and the tree of j
  remade : (l : PLayer) (f : PEForm) → roll-PEForm l ≡ f → (t : Option Ty) (e : Expr) (g : EForm) (k j : Layer) → e.form ≡ roll-EForm k → roll-EForm j ≡ g → rule two scope l t (node e g) → LayerAgain k j → variable_type scope g ≡ variable_type scope e.form → FormIs f t e
  remade l f is t e g k j ek gj r h word =
      let d = node e g in
      record {
        tree = d;
        means = subst (λ h. FormMeans two scope h t d) is (subst (λ (M : EFormRule). M t d) (sym (form_means_are two scope l)) r);
        again = record {
          span = refl;
          owns = own_of two d j (sym gj) ∙ h.owns ∙ sym (own_of one e k ek);
          bare = bare_of d j (sym gj) ∙ h.bare ∙ sym (bare_of e k ek);
          word = word;
          placed = λ p. ap (λ (z : Place). z.placed) (place_at d j (sym gj)) ∙ h.placed (ap (λ (z : Place). z.placed) (sym (place_at e k ek)) ∙ p);
          level = ap (λ (z : Place). z.level) (place_at d j (sym gj)) ∙ h.level ∙ ap (λ (z : Place). z.level) (sym (place_at e k ek));
          target = λ u p. target_of two d j (sym gj) ∙ h.target u (sym (target_of one e k ek) ∙ p);
          low = λ u p. ap (λ (z : Place). z.level) (place_at e k ek) ∙ h.low u (sym (target_of one e k ek) ∙ p);
        };
      }

  -- a coercion, which has no form of its own
  coerced : (l : PLayer) (f : PEForm) → roll-PEForm l ≡ f → (t : Option Ty) (e d : Expr) → rule two scope l t d → IsAgain e d → FormIs f t e
  coerced l f is t e d r h = record { tree = d; means = subst (λ h. FormMeans two scope h t d) is (subst (λ (M : EFormRule). M t d) (sym (form_means_are two scope l)) r); again = h }

  -- Lists of parts

  abbrev pub AllAgain : List Expr → List Expr → Type 0
  AllAgain [] [] = Unit {0}
  AllAgain (e ∷ es) (d ∷ ds) = IsAgain e d × AllAgain es ds
  AllAgain [] (d ∷ ds) = ⊥
  AllAgain (e ∷ es) [] = ⊥

  record EachAgain (ps : List PExpr) (t : Ty) (es : List Expr) : Type 0 where
    trees : List Expr
    means : EachMeans (λ y. y) (Means two scope) t ps trees
    again : AllAgain es trees

  all_again_placed : (es ds : List Expr) → AllAgain es ds → all_placed (map place_of es) ≡ true → all_placed (map place_of ds) ≡ true
  all_again_placed [] [] h p = refl
  all_again_placed (e ∷ es) (d ∷ ds) h p =
      let a = and_parts (expr_placed e) (all_placed (map place_of es)) p in
      (λ i. h.0.placed a.0 i && all_again_placed es ds h.1 a.1 i)
  all_again_placed [] (d ∷ ds) h p = absurd h
  all_again_placed (e ∷ es) [] h p = absurd h

  each_again : (qs : List Such') (t : Ty) (es : List Expr) (k : ℕ) → EachMeans (λ y. y) (Means one scope) t (firsts qs) es → Standing all k (in_order (map walks (firsts qs)) k).copies → EachAgain (in_order (map walks (firsts qs)) k).made t es
  each_again [] t [] k m c = record { trees = []; means = tt; again = tt }
  each_again [] t (e ∷ es) k m c = absurd m
  each_again (q ∷ qs) t [] k m c = absurd m
  each_again (q ∷ qs) t (e ∷ es) k m c =
      let w = walks q.0 k in
      let n = k + length w.copies in
      let s = standing_parts all k w.copies (in_order (map walks (firsts qs)) n).copies c in
      let x = q.1 e k m.0 s.0 in
      let r = each_again qs t es n m.2 s.1 in
      record { trees = x.tree ∷ r.trees; means = (x.means, x.type ∙ m.1, r.means); again = (x.again, r.again) }

  abbrev AreKept : Ty → List Expr → Type 0
  AreKept t es = list_all (λ e. keeps (sort one scope e) t) es ≡ true

  kept_all : (t : Ty) (es : List Expr) → AreKept t (kept one scope t es)
  kept_all t [] = refl
  kept_all t (e ∷ es) = go (keeps (sort one scope e) t) refl (kept_all t es)
    where
      go : (b : Bool) → keeps (sort one scope e) t ≡ b → AreKept t (kept one scope t es) → AreKept t (if b then e ∷ kept one scope t es else kept one scope t es)
      go true is rest = (λ i. is i && rest i)
      go false is rest = rest

  kept_placed : (t : Ty) (es : List Expr) → all_placed (map place_of es) ≡ true → all_placed (map place_of (kept one scope t es)) ≡ true
  kept_placed t [] h = refl
  kept_placed t (e ∷ es) h =
      let a = and_parts (expr_placed e) (all_placed (map place_of es)) h in
      go (keeps (sort one scope e) t) a.0 (kept_placed t es a.1)
    where
      go : (b : Bool) → expr_placed e ≡ true → all_placed (map place_of (kept one scope t es)) ≡ true → all_placed (map place_of (if b then e ∷ kept one scope t es else kept one scope t es)) ≡ true
      go true is rest = (λ i. is i && rest i)
      go false is rest = rest

  pub stands_at : (t : Ty) (p : PExpr) (d : Expr) → Means two scope p d → p.ty ≡ Some t → (sort two scope d).at t ≡ true
  stands_at t p d m is = stands two scope d t ∙ ap is_some (complete two scope good p d t m is)

  keeps_again : (t : Ty) (p : PExpr) (e d : Expr) → keeps (sort one scope e) t ≡ true → own two scope d ≡ own one scope e → Means two scope p d → p.ty ≡ Some t → keeps (sort two scope d) t ≡ true
  keeps_again t p e d k o m is =
      let a = and_parts (may_keep (own one scope e) t) ((sort one scope e).at t) k in
      let b = stands_at t p d m is in
      (λ i. (ap (λ w. may_keep w t) o ∙ a.0) i && b i)

  kept_again : (t : Ty) (ps : List PExpr) (es ds : List Expr) → AreKept t es → AllAgain es ds → EachMeans (λ y. y) (Means two scope) t ps ds → kept two scope t ds ≡ ds
  kept_again t [] [] [] k o m = refl
  kept_again t (p ∷ ps) (e ∷ es) (d ∷ ds) k o m =
      let a = and_parts (keeps (sort one scope e) t) (list_all (λ e. keeps (sort one scope e) t) es) k in
      ap (λ b. if b then d ∷ kept two scope t ds else kept two scope t ds) (keeps_again t p e d a.0 o.0.owns m.0 m.1) ∙ ap (λ z. d ∷ z) (kept_again t ps es ds a.1 o.1 m.2)
  kept_again t [] (e ∷ es) (d ∷ ds) k o m = absurd m
  kept_again t (p ∷ ps) es [] k o m = absurd m
  kept_again t ps [] (d ∷ ds) k o m = absurd o
  kept_again t ps (e ∷ es) [] k o m = absurd o

  more_again : (qs : List Such') (k : ℕ) → IsMore (firsts qs) → IsMore (in_order (map walks (firsts qs)) k).made
  more_again [] k m = m
  more_again (q ∷ qs) k m = tt

  map_length : (qs : List Such') → length (map walks (firsts qs)) ≡ length (firsts qs)
  map_length [] = refl
  map_length (q ∷ qs) = ap suc (map_length qs)

  ref_again : (b : Bool) (t : Ty) (f g : EForm) → variable_type scope g ≡ variable_type scope f → MayBeRef b scope t f → MayBeRef b scope t g
  ref_again false t f g h m = tt
  ref_again true t f g h m = h ∙ m

  record ArgsAgain (ds : List ParamDef) (ps : List PExpr) (es : List Expr) : Type 0 where
    trees : List Expr
    means : ArgumentsMean (λ y. y) (Means two scope) scope ds ps trees
    again : AllAgain es trees

  args_again : (ds : List ParamDef) (qs : List Such') (es : List Expr) (k : ℕ) → ArgumentsMean (λ y. y) (Means one scope) scope ds (firsts qs) es → Standing all k (in_order (map walks (firsts qs)) k).copies → ArgsAgain ds (in_order (map walks (firsts qs)) k).made es
  args_again [] [] [] k m c = record { trees = []; means = tt; again = tt }
  args_again (d ∷ ds) (q ∷ qs) (e ∷ es) k m c =
      let w = walks q.0 k in
      let n = k + length w.copies in
      let s = standing_parts all k w.copies (in_order (map walks (firsts qs)) n).copies c in
      let x = q.1 e k m.0 s.0 in
      let r = args_again ds qs es n m.3 s.1 in
      record { trees = x.tree ∷ r.trees; means = (x.means, x.type ∙ m.1, ref_again d.by_ref d.ty e.form x.tree.form x.again.word m.2, r.means); again = (x.again, r.again) }
  args_again [] [] (e ∷ es) k m c = absurd m
  args_again [] (q ∷ qs) es k m c = absurd m
  args_again (d ∷ ds) [] es k m c = absurd m
  args_again (d ∷ ds) (q ∷ qs) [] k m c = absurd m

  record SetsAgain (d : StructDef) (ps : List PField) (ns : List NewField) : Type 0 where
    trees : List NewField
    means : FieldsMean (FieldMeans two scope) d ps trees
    names : map (λ (x : NewField). x.name) trees ≡ map (λ (n : NewField). n.name) ns
    placed : are_yes (map set_placed ns) ≡ true → are_yes (map set_placed trees) ≡ true

  sets_again : (d : StructDef) (qs : List Such'') (ns : List NewField) (k : ℕ) → FieldsMean (FieldMeans one scope) d (sets qs) ns → Standing all k (in_order (map field_walks (sets qs)) k).copies → SetsAgain d (in_order (map field_walks (sets qs)) k).made ns
  sets_again d [] [] k m c = record { trees = []; means = tt; names = refl; placed = λ h. refl }
  sets_again d [] (n ∷ ns) k m c = absurd m
  sets_again d (q ∷ qs) [] k m c = absurd m
  sets_again d (q ∷ qs) (n ∷ ns) k m c =
      let w = field_walks q.0 k in
      let j = k + length w.copies in
      let s = standing_parts all k w.copies (in_order (map field_walks (sets qs)) j).copies c in
      let x = q.1 d n k m.0 s.0 in
      let r = sets_again d qs ns j m.1 s.1 in
      record {
        trees = x.tree ∷ r.trees;
        means = (x.means, r.means);
        names = λ i. x.name i ∷ r.names i;
        placed = λ h.
            let a = and_parts (set_placed n) (are_yes (map set_placed ns)) h in
            (λ i. (set_at x.tree ∙ x.placed (sym (set_at n) ∙ a.0)) i && r.placed a.1 i);
      }

  -- Forms

  any_binary_again : (o : Option BinOp) (x y c d : Expr) → own two scope c ≡ own one scope x → own two scope d ≡ own one scope y → (any_binary o (sort two scope c) (sort two scope d)).own ≡ (any_binary o (sort one scope x) (sort one scope y)).own
  any_binary_again None x y c d a b = refl
  any_binary_again (Some o) x y c d a b = binary_own o (sort two scope c) (sort two scope d) ∙ (λ i. operation_own o (a i) (b i)) ∙ sym (binary_own o (sort one scope x) (sort one scope y))

  any_unary_again : (o : Option UnOp) (x c : Expr) → own two scope c ≡ own one scope x → (any_unary o (sort two scope c)).own ≡ (any_unary o (sort one scope x)).own
  any_unary_again None x c a = refl
  any_unary_again (Some o) x c a = unary_own_is o (sort two scope c) ∙ ap (unary_own o) a ∙ sym (unary_own_is o (sort one scope x))

  -- the place of a part that is what it was
  part_binds : (k : ℕ) (e d : Expr) → IsAgain e d → binds k (place_of e) ≡ true → binds k (place_of d) ≡ true
  part_binds k e d h p =
      let a = and_parts (expr_placed e) (nat_le (place_of e).level k) p in
      (λ i. h.placed a.0 i && (ap (λ n. nat_le n k) h.level ∙ a.1) i)

  -- a form without parts, which stays
  leaf : (l : PLayer) (f : PEForm) → roll-PEForm l ≡ f → (t : Option Ty) (e : Expr) (g : EForm) (k : Layer) → e.form ≡ g → roll-EForm k ≡ g → rule two scope l t (node e g) → LayerAgain k k → FormIs f t e
  leaf l f is t e g k ek gk r h = remade l f is t e g k k (ek ∙ sym gk) gk r h (ap (variable_type scope) (sym ek))

  module _ (s : Span) where
    abbrev walk_of : P.PEForm-F Such Such' Such'' → Walk PEForm
    walk_of y = eform_walk bounds call (map-PEForm PEForm PExpr PField (Span → Walk PEForm) (Walk PExpr) (Walk PField) form_walks walks field_walks (down y)) s

    abbrev LayerIs : P.PEForm-F Such Such' Such'' → Type 0
    LayerIs y = (t : Option Ty) (e : Expr) (k : ℕ) → rule one scope (down y) t e → Standing all k (walk_of y k).copies → FormIs (walk_of y k).made t e

    layer : (y : P.PEForm-F Such Such' Such'') → LayerIs y
    layer (P.Number n) t e k h c = leaf (P.Number n) (pform.Number n) (V.rolls-Number n) t e (eform.Number n) (E.Number n) h.0 (eform.rolls-Number n) (refl, h.1, h.2) (record { owns = refl; bare = refl; placed = λ p. p; level = refl; target = λ u p. cc; low = λ u p. cc })
    layer P.True t e k h c = leaf P.True pform.True V.rolls-True t e eform.True E.True h.0 eform.rolls-True (refl, h.1) (record { owns = refl; bare = refl; placed = λ p. p; level = refl; target = λ u p. cc; low = λ u p. cc })
    layer P.False t e k h c = leaf P.False pform.False V.rolls-False t e eform.False E.False h.0 eform.rolls-False (refl, h.1) (record { owns = refl; bare = refl; placed = λ p. p; level = refl; target = λ u p. cc; low = λ u p. cc })
    layer P.Null t e k h c = leaf P.Null pform.Null V.rolls-Null t e eform.Null E.Null h.0 eform.rolls-Null (refl, h.1) (record { owns = refl; bare = refl; placed = λ p. p; level = refl; target = λ u p. cc; low = λ u p. cc })
    layer (P.Var slot x) t e k h c =
        let m = meaning_here one x slot h.1 h.3 in
        let n = meaning_here two x slot h.1 h.3 in
        leaf (P.Var slot x) (pform.Var slot x) (V.rolls-Var slot x) t e (eform.Word x) (E.Word x) h.0 (eform.rolls-Word x) (refl, h.1, h.2, h.3) (record { owns = ap (λ z. (named z).own) n ∙ sym (ap (λ z. (named z).own) m); bare = refl; placed = λ p. p; level = refl; target = λ u p. p; low = λ u p. refl })
    layer (P.Const r) t e k h c =
        let m = const_again structs consts funs others scope h.0 r h.2 in
        leaf (P.Const r) (pform.Const r) (V.rolls-Const r) t e (eform.Word h.0) (E.Word h.0) h.1 (eform.rolls-Word h.0) (h.0, refl, m, h.3) (record { owns = ap (λ z. (named z).own) m ∙ sym (ap (λ z. (named z).own) h.2); bare = refl; placed = λ p. p; level = refl; target = λ u p. p; low = λ u p. refl })
    layer (P.Hole n) t e k h c = leaf (P.Hole n) (pform.Hole n) (V.rolls-Hole n) t e (eform.Hole n) (E.Hole n) h.0 (eform.rolls-Hole n) (refl, h.1, h.2) (record { owns = refl; bare = refl; placed = λ p. p; level = refl; target = λ u p. cc; low = λ u p. cc })
    layer (P.Pattern qs) t e k h c =
        let r = each_again qs h.3 (kept one scope h.3 h.1) k h.6 c in
        let ps = (in_order (map walks (firsts qs)) k).made in
        let ks = kept_again h.3 ps (kept one scope h.3 h.1) r.trees (kept_all h.3 h.1) r.again r.means in
        remade (P.Pattern ps) (pform.Pattern ps) (V.rolls-Pattern ps) t e (eform.Pattern h.0 r.trees) (E.Pattern h.0 h.1) (E.Pattern h.0 r.trees) (h.2 ∙ sym (eform.rolls-Pattern h.0 h.1)) (eform.rolls-Pattern h.0 r.trees)
        (h.0, r.trees, refl, h.3, h.4, more_again qs k h.5, subst (λ es. EachMeans (λ y. y) (Means two scope) h.3 ps es) (sym ks) r.means)
        (record { owns = refl; bare = refl; placed = λ p. all_again_placed (kept one scope h.3 h.1) r.trees r.again (kept_placed h.3 h.1 p); level = refl; target = λ u p. cc; low = λ u p. cc })
        (ap (variable_type scope) (sym h.2))
    layer (P.Paren q) t e k h c =
        let r = q.1 h.0 k h.2 c in
        let p = (walks q.0 k).made in
        remade (P.Paren p) (pform.Paren p) (V.rolls-Paren p) t e (eform.Paren r.tree) (E.Paren h.0) (E.Paren r.tree) (h.1 ∙ sym (eform.rolls-Paren h.0)) (eform.rolls-Paren r.tree)
        (r.tree, refl, r.means, h.3, r.type ∙ h.4, h.5)
        (record { owns = r.again.owns; bare = refl; placed = r.again.placed; level = refl; target = λ u p. cc; low = λ u p. cc })
        (ap (variable_type scope) (sym h.1))
    layer (P.Call g qs) t e k h c =
        let w = call s g.index k in
        let n = k + length w.copies in
        let ps = (in_order (map walks (firsts qs)) n).made in
        let st = standing_parts all k w.copies (in_order (map walks (firsts qs)) n).copies c in
        let f = calls s g.index k h.0 h.3 h.4 st.0 in
        let r = args_again h.3.params qs h.1 n h.5 st.1 in
        remade (P.Call (fun_id w.made) ps) (pform.Call (fun_id w.made) ps) (V.rolls-Call (fun_id w.made) ps) t e (eform.Call f.name r.trees) (E.Call h.0 h.1) (E.Call f.name r.trees) (h.2 ∙ sym (eform.rolls-Call h.0 h.1)) (eform.rolls-Call f.name r.trees)
        (f.name, r.trees, refl, f.now, f.callee, subst (λ ds. ArgumentsMean (λ y. y) (Means two scope) scope ds ps r.trees) (sym f.params) r.means, h.6 ∙ sym f.result)
        (record {
          owns =
              call_own new scope (meaning_of new scope f.name) (map (λ e. (e, sort two scope e)) r.trees)
              ∙ ap (λ o. own_type (callee_result o)) (callee_is two scope good f.name (fun_id w.made) f.now f.callee)
              ∙ ap own_type f.result
              ∙ sym (call_own old scope (meaning_of old scope h.0) (map (λ e. (e, sort one scope e)) h.1) ∙ ap (λ o. own_type (callee_result o)) (callee_is one scope good h.0 g h.3 h.4));
          bare = refl;
          placed = all_again_placed h.1 r.trees r.again;
          level = refl;
          target = λ u p. cc;
          low = λ u p. cc;
        })
        (ap (variable_type scope) (sym h.2))
    layer (P.New d qs) t e k h c =
        let ps = (in_order (map field_walks (sets qs)) k).made in
        let r = sets_again h.3 qs h.1 k h.5 c in
        let m = struct_again structs consts funs others scope h.0 d h.4.meaning in
        remade (P.New d ps) (pform.New d ps) (V.rolls-New d ps) t e (eform.New h.0 r.trees) (E.New h.0 h.1) (E.New h.0 r.trees) (h.2 ∙ sym (eform.rolls-New h.0 h.1)) (eform.rolls-New h.0 r.trees)
        (h.0, r.trees, refl, h.3, record { meaning = m; there = h.4.there }, r.means, ap all_distinct r.names ∙ h.6, h.7)
        (record {
          owns = ap (λ z. (new_sort new (struct_meant z) (map (λ x. (x, field_sort two scope x)) r.trees)).own) m ∙ sym (ap (λ z. (new_sort old (struct_meant z) (map (λ x. (x, field_sort one scope x)) h.1)).own) h.4.meaning);
          bare = refl;
          placed = r.placed;
          level = refl;
          target = λ u p. cc;
          low = λ u p. cc;
        })
        (ap (variable_type scope) (sym h.2))
    layer (P.Braces qs) t e k h c =
        let ps = (in_order (map walks (firsts qs)) k).made in
        let r = each_again qs h.3 h.0 k h.4 c in
        let many : length ps ≡ length (firsts qs) = order_length (map walks (firsts qs)) k ∙ map_length qs in
        remade (P.Braces ps) (pform.Braces ps) (V.rolls-Braces ps) t e (eform.Braces r.trees) (E.Braces h.0) (E.Braces r.trees) (h.1 ∙ sym (eform.rolls-Braces h.0)) (eform.rolls-Braces r.trees)
        (r.trees, refl, more_again qs k h.2, h.3, r.means, h.5, h.6, subst (λ n. n ≤ count_of h.5) (sym many) h.7, h.8)
        (record { owns = refl; bare = refl; placed = all_again_placed h.0 r.trees r.again; level = refl; target = λ u p. cc; low = λ u p. cc })
        (ap (variable_type scope) (sym h.1))
    layer (P.Member q d i) t e k h c =
        let r = q.1 h.0 k h.3 c in
        let p = (walks q.0 k).made in
        remade (P.Member p d i) (pform.Member p d i) (V.rolls-Member p d i) t e (eform.Member r.tree h.1) (E.Member h.0 h.1) (E.Member r.tree h.1) (h.2 ∙ sym (eform.rolls-Member h.0 h.1)) (eform.rolls-Member r.tree h.1)
        (r.tree, h.1, refl, r.means, r.again.owns ∙ h.4, r.type ∙ h.5, h.6, h.7, h.8, h.9, h.10)
        (record {
          owns = firm_own (member_of new (reference_meant (own two scope r.tree)) h.1) _ ∙ ap (λ o. own_type (member_of new (reference_meant o) h.1)) r.again.owns ∙ sym (firm_own (member_of old (reference_meant (own one scope h.0)) h.1) _);
          bare = refl;
          placed = part_binds 1 h.0 r.tree r.again;
          level = refl;
          target = λ u p.
              let b = bind_some (target_type one scope h.0) (λ t. member_of old (reference_meant (Firm t)) h.1) u p in
              ap (λ o. o >>= λ t. member_of new (reference_meant (Firm t)) h.1) (r.again.target b.0 b.1) ∙ b.2;
          low = λ u p. refl;
        })
        (ap (variable_type scope) (sym h.2))
    layer (P.Index q j) t e k h c =
        let w = walks q.0 k in
        let n = k + length w.copies in
        let st = standing_parts all k w.copies (walks j.0 n).copies c in
        let r = q.1 h.0 k h.3 st.0 in
        let z = j.1 h.1 n h.4 st.1 in
        let p = w.made in
        let i = (walks j.0 n).made in
        remade (P.Index p i) (pform.Index p i) (V.rolls-Index p i) t e (eform.Index r.tree z.tree) (E.Index h.0 h.1) (E.Index r.tree z.tree) (h.2 ∙ sym (eform.rolls-Index h.0 h.1)) (eform.rolls-Index r.tree z.tree)
        (r.tree, z.tree, refl, r.means, z.means, h.5, r.again.owns ∙ h.6, r.type ∙ h.7, z.type ∙ h.8, h.9, h.10, h.11)
        (record {
          owns = firm_own (array_meant (own two scope r.tree)) _ ∙ ap (λ o. own_type (array_meant o)) r.again.owns ∙ sym (firm_own (array_meant (own one scope h.0)) _);
          bare = refl;
          placed = λ p. let a = and_parts (binds 1 (place_of h.0)) (expr_placed h.1) p in (λ i. part_binds 1 h.0 r.tree r.again a.0 i && z.again.placed a.1 i);
          level = refl;
          target = λ u p.
              let b = bind_some (target_type one scope h.0) (λ t. if (sort one scope h.1).at int then element_of t else None) u p in
              let a = if_some ((sort one scope h.1).at int) (element_of b.0) u b.2 in
              ap (λ o. o >>= λ t. if (sort two scope z.tree).at int then element_of t else None) (r.again.target b.0 b.1)
              ∙ ap (λ y. if y then element_of b.0 else None) (stands_at int i z.tree z.means (z.type ∙ h.8))
              ∙ a.1;
          low = λ u p. refl;
        })
        (ap (variable_type scope) (sym h.2))
    layer (P.Slice q j m) t e k h c =
        let w = walks q.0 k in
        let n = k + length w.copies in
        let st = standing_parts all k w.copies (walks j.0 n).copies c in
        let r = q.1 h.0 k h.4 st.0 in
        let z = j.1 h.1 n h.5 st.1 in
        let p = w.made in
        let i = (walks j.0 n).made in
        remade (P.Slice p i m) (pform.Slice p i m) (V.rolls-Slice p i m) t e (eform.Slice r.tree z.tree h.2) (E.Slice h.0 h.1 h.2) (E.Slice r.tree z.tree h.2) (h.3 ∙ sym (eform.rolls-Slice h.0 h.1 h.2)) (eform.rolls-Slice r.tree z.tree h.2)
        (r.tree, z.tree, h.2, refl, r.means, z.means, h.6, r.again.owns ∙ h.7, r.type ∙ h.8, z.type ∙ h.9, same_number h.2 ∙ h.10, h.11, h.12, h.13)
        (record {
          owns = firm_own (slice_of (own two scope r.tree) (constant_number two scope h.2)) _ ∙ (λ i. own_type (slice_of (r.again.owns i) (same_number h.2 i))) ∙ sym (firm_own (slice_of (own one scope h.0) (constant_number one scope h.2)) _);
          bare = refl;
          placed = λ p.
              let a = and_parts (binds 1 (place_of h.0) && expr_placed h.1) (expr_placed h.2) p in
              let b = and_parts (binds 1 (place_of h.0)) (expr_placed h.1) a.0 in
              (λ i. (part_binds 1 h.0 r.tree r.again b.0 i && z.again.placed b.1 i) && a.1 i);
          level = refl;
          target = λ u p. cc;
          low = λ u p. cc;
        })
        (ap (variable_type scope) (sym h.3))
    layer (P.Unary o q) t e k h c =
        let r = q.1 h.1 k h.4 c in
        let p = (walks q.0 k).made in
        remade (P.Unary o p) (pform.Unary o p) (V.rolls-Unary o p) t e (eform.Unary h.0 r.tree) (E.Unary h.0 h.1) (E.Unary h.0 r.tree) (h.2 ∙ sym (eform.rolls-Unary h.0 h.1)) (eform.rolls-Unary h.0 r.tree)
        (h.0, r.tree, refl, h.3, r.means, h.5, subst (λ w. MeansUnary o w h.5) (sym r.again.owns) h.6, r.type ∙ h.7, h.8)
        (record { owns = any_unary_again (unary_of h.0) h.1 r.tree r.again.owns; bare = refl; placed = part_binds 2 h.1 r.tree r.again; level = refl; target = λ u p. cc; low = λ u p. cc })
        (ap (variable_type scope) (sym h.2))
    layer (P.Binary o q j) t e k h c =
        let w = walks q.0 k in
        let n = k + length w.copies in
        let st = standing_parts all k w.copies (walks j.0 n).copies c in
        let r = q.1 h.1 k h.5 st.0 in
        let z = j.1 h.2 n h.6 st.1 in
        let a = w.made in
        let b = (walks j.0 n).made in
        let m : MeansBinary (class_of o) (own two scope r.tree) (own two scope z.tree) h.7 a.ty b.ty t = subst (λ (T : Type 0). T) (λ i. MeansBinary (class_of o) (sym r.again.owns i) (sym z.again.owns i) h.7 (sym r.type i) (sym z.type i) t) h.8 in
        remade (P.Binary o a b) (pform.Binary o a b) (V.rolls-Binary o a b) t e (eform.Binary h.0 r.tree z.tree) (E.Binary h.0 h.1 h.2) (E.Binary h.0 r.tree z.tree) (h.3 ∙ sym (eform.rolls-Binary h.0 h.1 h.2)) (eform.rolls-Binary h.0 r.tree z.tree)
        (h.0, r.tree, z.tree, refl, h.4, r.means, z.means, h.7, m)
        (record {
          owns = any_binary_again (operator_of h.0) h.1 h.2 r.tree z.tree r.again.owns z.again.owns;
          bare = refl;
          placed = λ p.
              let v = level_of h.0 in
              let x = and_parts (nat_le 3 v && binds v (place_of h.1)) (binds (v - 1) (place_of h.2)) p in
              let y = and_parts (nat_le 3 v) (binds v (place_of h.1)) x.0 in
              (λ i. (y.0 i && part_binds v h.1 r.tree r.again y.1 i) && part_binds (v - 1) h.2 z.tree z.again x.1 i);
          level = refl;
          target = λ u p. cc;
          low = λ u p. cc;
        })
        (ap (variable_type scope) (sym h.3))
    layer (P.Cond d q j) t e k h c =
        let v = walks d.0 k in
        let m = k + length v.copies in
        let w = walks q.0 m in
        let n = m + length w.copies in
        let st = standing_parts all k v.copies (w.copies ++ (walks j.0 n).copies) c in
        let su = standing_parts all m w.copies (walks j.0 n).copies st.1 in
        let x = d.1 h.0 k h.4 st.0 in
        let r = q.1 h.1 m h.5 su.0 in
        let z = j.1 h.2 n h.6 su.1 in
        let f = v.made in
        let a = w.made in
        let b = (walks j.0 n).made in
        remade (P.Cond f a b) (pform.Cond f a b) (V.rolls-Cond f a b) t e (eform.Cond x.tree r.tree z.tree) (E.Cond h.0 h.1 h.2) (E.Cond x.tree r.tree z.tree) (h.3 ∙ sym (eform.rolls-Cond h.0 h.1 h.2)) (eform.rolls-Cond x.tree r.tree z.tree)
        (x.tree, r.tree, z.tree, refl, x.means, r.means, z.means, x.type ∙ h.7, h.8, r.type ∙ h.9, z.type ∙ h.10, h.11)
        (record {
          owns = λ i. choice (r.again.owns i) (z.again.owns i);
          bare = refl;
          placed = λ p.
              let g = and_parts (binds 12 (place_of h.0) && expr_placed h.1) (binds 13 (place_of h.2)) p in
              let y = and_parts (binds 12 (place_of h.0)) (expr_placed h.1) g.0 in
              (λ i. (part_binds 12 h.0 x.tree x.again y.0 i && r.again.placed y.1 i) && part_binds 13 h.2 z.tree z.again g.1 i);
          level = refl;
          target = λ u p. cc;
          low = λ u p. cc;
        })
        (ap (variable_type scope) (sym h.3))
    layer (P.ToInt q) t e k h c =
        let r = q.1 e k h.0 c in
        let w = h.2 in
        let p = (walks q.0 k).made in
        coerced (P.ToInt p) (pform.ToInt p) (V.rolls-ToInt p) t e r.tree (r.means, r.again.bare ∙ h.1, record { own = r.again.owns ∙ w.own; operand = r.type ∙ w.operand; result = w.result }) r.again
    layer (P.Pad q) t e k h c =
        let r = q.1 e k h.0 c in
        let w = h.2 in
        let p = (walks q.0 k).made in
        coerced (P.Pad p) (pform.Pad p) (V.rolls-Pad p) t e r.tree (r.means, r.again.bare ∙ h.1, record { from = w.from; to = w.to; own = r.again.owns ∙ w.own; operand = r.type ∙ w.operand; result = w.result; fit = w.fit }) r.again

  in_expr : (s : Span) (t : Option Ty) (f : PEForm) → FormAgain f → ExprAgain (record { span = s; ty = t; form = f })
  in_expr s t f h e k m c =
      let parts = means_parts one scope (record { span = s; ty = t; form = f }) e m in
      let w : walks (record { span = s; ty = t; form = f }) ≡ as_walk (λ g. record { span = s; ty = t; form = g }) (form_walks f s) = fold-roll-PExpr (Span → Walk PEForm) (Walk PExpr) (Walk PField) (eform_walk bounds call) (expr_step bounds call) (field_step bounds call) (record { span = s; ty = t; form = f }) in
      let r = h s t e k parts.1 (subst (λ (w : Walk PExpr). Standing all k (w k).copies) w c) in
      subst (λ (w : Walk PExpr). Again (w k).made t e) (sym w) (record {
        tree = r.tree;
        means = means_from two scope (record { span = s; ty = t; form = (form_walks f s k).made }) r.tree (parts.0 ∙ sym r.again.span) r.means;
        type = refl;
        again = r.again;
      })

  field_means_is : (context : Context) (q : PField) → FieldMeans context scope q ≡ (λ d x. (t : Ty) × IsField d q.field x.name t × Means context scope q.value x.value × (q.value.ty ≡ Some t))
  field_means_is context q = rec-roll-PField EFormRule ExprRule FieldRule (eform_means context scope) (expr_means context scope) (field_means context scope) (λ X Y Z u v w f k n x. refl) (record { field = q.field; value = q.value })

  in_field : (i : ℕ) (p : PExpr) → ExprAgain p → FieldAgain (record { field = i; value = p })
  in_field i p h d n k m c =
      let w : field_walks (record { field = i; value = p }) ≡ as_walk (λ v. record { field = i; value = v }) (walks p) = fold-roll-PField (Span → Walk PEForm) (Walk PExpr) (Walk PField) (eform_walk bounds call) (expr_step bounds call) (field_step bounds call) (record { field = i; value = p }) in
      let g = subst (λ (M : FieldRule). M d n) (field_means_is one (record { field = i; value = p })) m in
      let r = h n.value k g.2 (subst (λ (w : Walk PField). Standing all k (w k).copies) w c) in
      let q : PField = record { field = i; value = (walks p k).made } in
      let x : NewField = record { name = n.name; value = r.tree } in
      subst (λ (w : Walk PField). SetIs (w k).made d n) (sym w) (record {
        tree = x;
        means = subst (λ (M : FieldRule). M d x) (sym (field_means_is two q)) (g.0, g.1, r.means, r.type ∙ g.3);
        name = refl;
        placed = r.again.placed;
      })

  form_from : (y : P.PEForm-F Such Such' Such'') → FormAgain (roll-PEForm (down y))
  form_from y s t e k m c =
      let w : form_walks (roll-PEForm (down y)) s ≡ walk_of s y = ap (λ (z : Span → Walk PEForm). z s) (fold-roll-PEForm (Span → Walk PEForm) (Walk PExpr) (Walk PField) (eform_walk bounds call) (expr_step bounds call) (field_step bounds call) (down y)) in
      subst (λ (w : Walk PEForm). FormIs (w k).made t e) (sym w) (layer s y t e k (subst (λ (M : EFormRule). M t e) (form_means_are one scope (down y)) m) (subst (λ (w : Walk PEForm). Standing all k (w k).copies) w c))

  pub expr_again : (p : PExpr) → ExprAgain p
  expr_again = ind-PExpr FormAgain ExprAgain FieldAgain
      (λ x y is. subst (λ z. FormAgain (roll-PEForm z)) is (form_from y))
      (λ x y is. subst (λ z. ExprAgain (roll-PExpr z)) is (in_expr y.span y.ty y.form.0 y.form.1))
      (λ x y is. subst (λ z. FieldAgain (roll-PField z)) is (in_field y.field y.value.0 y.value.1))
