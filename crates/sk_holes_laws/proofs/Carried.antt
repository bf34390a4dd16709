-- What names and constant expressions mean in an expansion, they mean in its filling, where functions have new
-- numbers and more constants are known.
use Rattle.std.proofs.Common.{◌≡◌, ℕ, List, map, Option, Some, None, sym, ap, ◌∙◌}
use Rattle.std.specs.Prelude.{ℤ}
use Rattle.sk_base.specs.declared.bounds.Bounds.{Bounds}
use Rattle.sk_tree.specs.declared.expr.Expr.{Expr}
use Rattle.sk_tree.specs.declared.expr.NewField.{NewField}
use Rattle.sk_tree.specs.declared.expr.EForm.{EForm}
use Rattle.sk_tree.specs.declared.expr.EForm.TheOpen as E
use Rattle.sk_tree.specs.declared.expr.EForm.TheViews.{roll-EForm}
use Rattle.sk_tree.specs.declared.expr.EForm.TheFolds.{map-EForm, fold-EForm, fold-NewField, fold-roll-EForm, fold-roll-Expr}
use Rattle.sk_prog.specs.declared.ids.StructId.{StructId}
use Rattle.sk_prog.specs.declared.ids.ConstId.{ConstId}
use Rattle.sk_prog.specs.declared.ids.FunId.{FunId}
use Rattle.sk_prog.specs.declared.prog.StructDef.{StructDef}
use Rattle.sk_types_rules.specs.declared.scope.Variable.{Variable}
use Rattle.sk_types_rules.specs.declared.scope.Place.{Place}
use Rattle.sk_types_rules.specs.Rules.{◌>>=◌}
use Rattle.sk_types_rules.specs.Scope.{lookup, Signature, Known, Context, AStruct, AConstant, AFunction, meaning_of, variable_or, struct_or, constant_or, function_or, place_of}
use Rattle.sk_types_rules.specs.Constants.{number_named, computed, eform_number, whole_number, natural, constant_number}
use Rattle.sk_types_laws.proofs.Ats.{bind_some, expr_law}
use Rattle.sk_holes_laws.specs.Filling.{context_with, signature_names, Carries, Knows}

-- Names

pub const_stays : (a : Option Place) (b c d d' : Option ℕ) (k : ConstId) → variable_or a (struct_or b (constant_or c (function_or d))) ≡ AConstant k → variable_or a (struct_or b (constant_or c (function_or d'))) ≡ AConstant k
const_stays (Some v) b c d d' k h = cc
const_stays None (Some i) c d d' k h = cc
const_stays None None (Some i) d d' k h = h
const_stays None None None (Some i) d' k h = cc
const_stays None None None None d' k h = cc

pub struct_stays : (a : Option Place) (b c d d' : Option ℕ) (k : StructId) → variable_or a (struct_or b (constant_or c (function_or d))) ≡ AStruct k → variable_or a (struct_or b (constant_or c (function_or d'))) ≡ AStruct k
struct_stays (Some v) b c d d' k h = cc
struct_stays None (Some i) c d d' k h = h
struct_stays None None (Some i) d d' k h = cc
struct_stays None None None (Some i) d' k h = cc
struct_stays None None None None d' k h = cc

abbrev renumbered : (ℕ → ℕ) → FunId → FunId
renumbered number f = record { index = number f.index }

pub fun_stays : (a : Option Place) (b c d d' : Option ℕ) (number : ℕ → ℕ) (f : FunId) → (d ≡ Some f.index → d' ≡ Some (number f.index)) → variable_or a (struct_or b (constant_or c (function_or d))) ≡ AFunction f → variable_or a (struct_or b (constant_or c (function_or d'))) ≡ AFunction (renumbered number f)
fun_stays (Some v) b c d d' number f k h = cc
fun_stays None (Some i) c d d' number f k h = cc
fun_stays None None (Some i) d d' number f k h = cc
fun_stays None None None (Some i) d' number f k h =
    let e : record { index = i } ≡ f = cc in
    ap function_or (k (ap (λ (g : FunId). Some g.index) e))
fun_stays None None None None d' number f k h = cc

module _ (bounds : Bounds) (structs : List StructDef) (consts : List (List ℕ)) (funs again : List Signature) (known all : List Known) (scope : List Variable) where
  abbrev first : Context
  first = context_with bounds structs consts funs known

  abbrev second : Context
  second = context_with bounds structs consts again all

  abbrev struct_place : List ℕ → Option ℕ
  struct_place x = place_of (map (λ (d : StructDef). d.name) structs) x

  pub constant_meant : (x : List ℕ) (k : ConstId) → meaning_of first.top scope x ≡ AConstant k → meaning_of second.top scope x ≡ AConstant k
  constant_meant x k h = const_stays (lookup scope x) (struct_place x) (place_of consts x) (place_of (signature_names funs) x) (place_of (signature_names again) x) k h

  pub struct_meant_again : (x : List ℕ) (k : StructId) → meaning_of first.top scope x ≡ AStruct k → meaning_of second.top scope x ≡ AStruct k
  struct_meant_again x k h = struct_stays (lookup scope x) (struct_place x) (place_of consts x) (place_of (signature_names funs) x) (place_of (signature_names again) x) k h

  pub function_meant : (stands : ℕ → Type 0) (number : ℕ → ℕ) → Carries funs again stands number → (x : List ℕ) (f : FunId) → stands f.index → meaning_of first.top scope x ≡ AFunction f → meaning_of second.top scope x ≡ AFunction (renumbered number f)
  function_meant stands number carries x f here h = fun_stays (lookup scope x) (struct_place x) (place_of consts x) (place_of (signature_names funs) x) (place_of (signature_names again) x) number f (λ e. carries.named x f.index e here) h

  -- Constant expressions

  module _ (knows : Knows known all) where
    abbrev form_number : Context → EForm → Option ℤ
    form_number context = fold-EForm (Option ℤ) (Option ℤ) (Unit {0}) (eform_number context scope) (λ x. x.form) (λ x. tt)

    abbrev field_number : Context → NewField → Unit {0}
    field_number context = fold-NewField (Option ℤ) (Option ℤ) (Unit {0}) (eform_number context scope) (λ x. x.form) (λ x. tt)

    abbrev FormStays : EForm → Type 0
    FormStays f = (z : ℤ) → form_number first f ≡ Some z → form_number second f ≡ Some z

    abbrev ExprStays : Expr → Type 0
    ExprStays e = (z : ℤ) → whole_number first scope e ≡ Some z → whole_number second scope e ≡ Some z

    abbrev Above : Type 0
    Above = E.EForm-F ((f : EForm) × FormStays f) ((e : Expr) × ExprStays e) (NewField × Unit {0})

    abbrev layer_of : Above → E.EForm-F EForm Expr NewField
    layer_of y = map-EForm ((f : EForm) × FormStays f) ((e : Expr) × ExprStays e) (NewField × Unit {0}) EForm Expr NewField (λ q. q.0) (λ q. q.0) (λ q. q.0) y

    abbrev numbers : Context → E.EForm-F EForm Expr NewField → E.EForm-F (Option ℤ) (Option ℤ) (Unit {0})
    numbers context l = map-EForm EForm Expr NewField (Option ℤ) (Option ℤ) (Unit {0}) (form_number context) (whole_number context scope) (field_number context) l

    name_stays : (o : Option Place) (x : List ℕ) (z : ℤ) → number_named o known x ≡ Some z → number_named o all x ≡ Some z
    name_stays None x z h = knows x z h
    name_stays (Some v) x z h = cc

    number_layer : (y : Above) (z : ℤ) → eform_number first scope (numbers first (layer_of y)) ≡ Some z → eform_number second scope (numbers second (layer_of y)) ≡ Some z
    number_layer (E.Number n) z h = h
    number_layer (E.Word x) z h = name_stays (lookup scope x) x z h
    number_layer (E.Paren e) z h = e.1 z h
    number_layer (E.Binary m a b) z h =
        let x = bind_some (whole_number first scope a.0) (λ x. whole_number first scope b.0 >>= λ y. computed m x y) z h in
        let y = bind_some (whole_number first scope b.0) (λ y. computed m x.0 y) z x.2 in
        ap (λ o. o >>= λ x. whole_number second scope b.0 >>= λ y. computed m x y) (a.1 x.0 x.1) ∙ ap (λ o. o >>= λ y. computed m x.0 y) (b.1 y.0 y.1) ∙ y.2
    number_layer E.True z h = cc
    number_layer E.False z h = cc
    number_layer E.Null z h = cc
    number_layer (E.Hole n) z h = cc
    number_layer (E.Pattern g es) z h = cc
    number_layer (E.Call x es) z h = cc
    number_layer (E.New x xs) z h = cc
    number_layer (E.Braces es) z h = cc
    number_layer (E.Member e x) z h = cc
    number_layer (E.Index e i) z h = cc
    number_layer (E.Slice e i n) z h = cc
    number_layer (E.Unary m e) z h = cc
    number_layer (E.Cond c a b) z h = cc

    whole_is : (context : Context) (e : Expr) → whole_number context scope e ≡ form_number context e.form
    whole_is context e = fold-roll-Expr (Option ℤ) (Option ℤ) (Unit {0}) (eform_number context scope) (λ x. x.form) (λ x. tt) (record { span = e.span; form = e.form })

    form_is : (context : Context) (l : E.EForm-F EForm Expr NewField) → form_number context (roll-EForm l) ≡ eform_number context scope (numbers context l)
    form_is context l = fold-roll-EForm (Option ℤ) (Option ℤ) (Unit {0}) (eform_number context scope) (λ x. x.form) (λ x. tt) l

    whole_stays : (e : Expr) → ExprStays e
    whole_stays = expr_law FormStays ExprStays (λ x. Unit {0})
        (λ y z h. form_is second (layer_of y) ∙ number_layer y z (sym (form_is first (layer_of y)) ∙ h))
        (λ e k z h. whole_is second e ∙ k z (sym (whole_is first e) ∙ h))
        (λ x h. tt)

    pub constant_stays : (e : Expr) (n : ℕ) → constant_number first scope e ≡ Some n → constant_number second scope e ≡ Some n
    constant_stays e n h =
        let x = bind_some (whole_number first scope e) (natural bounds) n h in
        ap (λ o. o >>= natural bounds) (whole_stays e x.0 x.1) ∙ x.2
