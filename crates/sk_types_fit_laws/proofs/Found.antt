-- What a name means is there, and so are the structs of the types that are written.
use Rattle.std.proofs.Common.{◌≡◌, ℕ, suc, ◌<◌, Bool, true, false, List, [], ◌∷◌, length, Option, Some, None, refl, sym, ap, subst, ◌∙◌, arith}
use Rattle.std.specs.Prelude.{map, nat_lt, slice_get, if◌then◌else◌}
use Rattle.std.specs.Str.{bytes_eq}
use Rattle.std.proofs.lemmas.Bool.{lt-ltb}
use Rattle.std.proofs.lemmas.List.{length-map}
use Rattle.std.proofs.lemmas.Option.{slice_get_within}
use Rattle.sk_tree.specs.declared.item.Base.{Base}
use Rattle.sk_tree.specs.declared.item.Base.TheVariants as base
use Rattle.sk_tree.specs.declared.item.TyTree.{TyTree}
use Rattle.sk_prog.specs.declared.ty.Ty.{Ty}
use Rattle.sk_prog.specs.declared.ty.Ty.TheVariants as ty
use Rattle.sk_prog.specs.declared.ty.Elem.{Elem}
use Rattle.sk_prog.specs.declared.ty.Elem.TheVariants as elem
use Rattle.sk_prog.specs.declared.ids.StructId.{StructId}
use Rattle.sk_prog.specs.declared.ids.ConstId.{ConstId}
use Rattle.sk_prog.specs.declared.ids.FunId.{FunId}
use Rattle.sk_prog.specs.declared.prog.FieldDef.{FieldDef}
use Rattle.sk_prog.specs.declared.prog.StructDef.{StructDef}
use Rattle.sk_prog.specs.declared.prog.ConstDef.{ConstDef}
use Rattle.sk_prog.specs.declared.prog.Prog.{Prog}
use Rattle.sk_prog.specs.Fits.{has_struct, has_const, has_fun, has_field, field_in, elem_fits, ty_fits}
use Rattle.sk_types_rules.specs.declared.scope.Variable.{Variable}
use Rattle.sk_types_rules.specs.declared.scope.Place.{Place}
use Rattle.sk_types_rules.specs.Rules.{◌>>=◌, only_if, is_length, is_grid}
use Rattle.sk_types_rules.specs.Scope.{lookup, Signature, signature_of, Top, top_of, Context, Meaning, AVariable, AStruct, AConstant, AFunction, Nothing, next_place, place_of, function_or, constant_or, struct_or, variable_or, top_meaning, meaning_of}
use Rattle.sk_types_rules.specs.Constants.{constant_number}
use Rattle.sk_types_rules.specs.Sorts.{struct_meant, base_elem, with_lengths, written_type}
use Rattle.sk_types_laws.proofs.Ats.{bind_some, some_same}

-- Places

pub get_within : {X : Type 0} (xs : List X) (i : ℕ) (x : X) → slice_get xs i ≡ Some x → nat_lt i (length xs) ≡ true
get_within xs i x h = lt-ltb i (length xs) (slice_get_within xs i x h)

place_more : (ys : List (List ℕ)) (i : ℕ) (b : Bool) (o : Option ℕ) → ((j : ℕ) → o ≡ Some j → j < length ys) → (if b then Some 0 else next_place o) ≡ Some i → i < suc (length ys)
place_more ys i true o rest e = let same : 0 ≡ i = some_same _ _ e in omega arith
place_more ys i false None rest e = cc
place_more ys i false (Some j) rest e =
    let same : suc j ≡ i = some_same _ _ e in
    let before = rest j refl in
    omega arith

place_within : (xs : List (List ℕ)) (x : List ℕ) (i : ℕ) → place_of xs x ≡ Some i → i < length xs
place_within [] x i h = cc
place_within (y ∷ ys) x i h = place_more ys i (bytes_eq y x) (place_of ys x) (place_within ys x) h

-- What names mean

module _ (prog : Prog) where
  abbrev pub top : Top
  top = top_of prog

  abbrev pub struct_names : List (List ℕ)
  struct_names = map (λ (d : StructDef). d.name) prog.structs

  abbrev pub const_names : List (List ℕ)
  const_names = map (λ (c : ConstDef). c.name) prog.consts

  abbrev pub fun_names : List (List ℕ)
  fun_names = map (λ (s : Signature). s.name) (map signature_of prog.funs)

  place_there : {X : Type 0} (xs : List X) (f : X → List ℕ) (x : List ℕ) (i : ℕ) → place_of (map f xs) x ≡ Some i → nat_lt i (length xs) ≡ true
  place_there xs f x i h = ap (nat_lt i) (sym (length-map xs f)) ∙ lt-ltb i (length (map f xs)) (place_within (map f xs) x i h)

  -- what a meaning at the top is, by the places of the name
  abbrev meant_at : Option ℕ → Option ℕ → Option ℕ → Meaning
  meant_at s c f = struct_or s (constant_or c (function_or f))

  at_struct : (s c f : Option ℕ) (r : StructId) → meant_at s c f ≡ AStruct r → s ≡ Some r.index
  at_struct (Some i) c f r h = let same : record { index = i } ≡ r = cc in ap (λ (r : StructId). Some r.index) same
  at_struct None (Some i) f r h = cc
  at_struct None None (Some i) r h = cc
  at_struct None None None r h = cc

  at_const : (s c f : Option ℕ) (r : ConstId) → meant_at s c f ≡ AConstant r → c ≡ Some r.index
  at_const (Some i) c f r h = cc
  at_const None (Some i) f r h = let same : record { index = i } ≡ r = cc in ap (λ (r : ConstId). Some r.index) same
  at_const None None (Some i) r h = cc
  at_const None None None r h = cc

  module _ (scope : List Variable) where
    struct_place : (o : Option Place) (x : List ℕ) (r : StructId) → variable_or o (top_meaning top x) ≡ AStruct r → place_of struct_names x ≡ Some r.index
    struct_place None x r h = at_struct (place_of struct_names x) (place_of const_names x) (place_of fun_names x) r h
    struct_place (Some v) x r h = cc

    pub struct_there : (x : List ℕ) (r : StructId) → meaning_of top scope x ≡ AStruct r → has_struct prog r ≡ true
    struct_there x r h = place_there prog.structs (λ (d : StructDef). d.name) x r.index (struct_place (lookup scope x) x r h)

    const_place : (o : Option Place) (x : List ℕ) (r : ConstId) → variable_or o (top_meaning top x) ≡ AConstant r → place_of const_names x ≡ Some r.index
    const_place None x r h = at_const (place_of struct_names x) (place_of const_names x) (place_of fun_names x) r h
    const_place (Some v) x r h = cc

    pub const_there : (x : List ℕ) (r : ConstId) → meaning_of top scope x ≡ AConstant r → has_const prog r ≡ true
    const_there x r h = place_there prog.consts (λ (c : ConstDef). c.name) x r.index (const_place (lookup scope x) x r h)

  pub fun_there : (f : FunId) (s : Signature) → slice_get top.funs f.index ≡ Some s → has_fun prog f ≡ true
  fun_there f s h = ap (nat_lt f.index) (sym (length-map prog.funs signature_of)) ∙ get_within (map signature_of prog.funs) f.index s h

  pub field_there : (r : StructId) (d : StructDef) (i : ℕ) (y : FieldDef) → slice_get prog.structs r.index ≡ Some d → slice_get d.fields i ≡ Some y → has_field prog r i ≡ true
  field_there r d i y h k = ap (field_in i) h ∙ get_within d.fields i y k

  -- Types that are written

  module _ (context : Context) (same : context.top ≡ top) (scope : List Variable) where
    meant_there : (x : List ℕ) (m : Meaning) → meaning_of context.top scope x ≡ m → (a : Elem) → (struct_meant m >>= λ s. Some (elem.Reference s)) ≡ Some a → elem_fits prog a ≡ true
    meant_there x (AStruct r) is a h = subst (λ a. elem_fits prog a ≡ true) (some_same _ _ h) (struct_there scope x r (ap (λ t. meaning_of t scope x) (sym same) ∙ is))
    meant_there x (AVariable v) is a h = cc
    meant_there x (AConstant c) is a h = cc
    meant_there x (AFunction f) is a h = cc
    meant_there x Nothing is a h = cc

    base_fits : (b : Base) (a : Elem) → base_elem context scope b ≡ Some a → elem_fits prog a ≡ true
    base_fits base.Int a h = subst (λ a. elem_fits prog a ≡ true) (some_same _ _ h) refl
    base_fits base.Bit a h = subst (λ a. elem_fits prog a ≡ true) (some_same _ _ h) refl
    base_fits (base.Named x) a h = meant_there x (meaning_of context.top scope x) refl a h

    when_is : (b : Bool) (u t : Ty) → only_if b u ≡ Some t → u ≡ t
    when_is true u t h = some_same _ _ h
    when_is false u t h = cc

    lengths_fit : (a : Elem) (ns : List (Option ℕ)) (t : Ty) → with_lengths context scope a ns ≡ Some t → elem_fits prog a ≡ true → ty_fits prog t ≡ true
    lengths_fit a [] t h k = subst (λ t. ty_fits prog t ≡ true) (some_same _ _ h) k
    lengths_fit a (None ∷ ns) t h k = cc
    lengths_fit a (Some n ∷ []) t h k = subst (λ t. ty_fits prog t ≡ true) (when_is (is_length n) (ty.Array a n) t h) k
    lengths_fit a (Some n ∷ None ∷ ns) t h k = cc
    lengths_fit a (Some n ∷ Some m ∷ []) t h k = subst (λ t. ty_fits prog t ≡ true) (when_is (is_grid n m) (ty.Grid a n m) t h) k
    lengths_fit a (Some n ∷ Some m ∷ o ∷ ns) t h k = cc

    pub written_fits : (y : TyTree) (t : Ty) → written_type context scope y ≡ Some t → ty_fits prog t ≡ true
    written_fits y t h =
        let a = bind_some (base_elem context scope y.base) _ t h in
        lengths_fit a.0 (map (constant_number context scope) y.lengths) t a.2 (base_fits y.base a.0 a.1)
