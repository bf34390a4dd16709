-- In a program that a tree means, a struct whose first field is written as the tag has an integer there, and no other struct has its name.
use Rattle.std.proofs.Common.{◌≡◌, inl, inr, ℕ, zero, suc, Bool, true, false, List, [], ◌∷◌, ◌++◌, Some, refl, sym, ap, subst, ◌∙◌}
use Rattle.std.specs.Prelude.{not, ◌&&◌, ◌||◌, map, slice_get}
use Rattle.std.specs.List.{list_any}
use Rattle.std.specs.Str.{bytes_eq}
use Rattle.std.proofs.lemmas.Slice.Eq.{bytes_eq-Decides}
use Rattle.sk_base.specs.declared.bounds.Bounds.{Bounds}
use Rattle.sk_tree.specs.declared.item.Field.{Field}
use Rattle.sk_tree.specs.declared.item.Item.{Item}
use Rattle.sk_tree.specs.declared.item.Item.TheVariants as item
use Rattle.sk_tree.specs.declared.item.Tree.{Tree}
use Rattle.sk_prog.specs.declared.ty.Ty.TheVariants as ty
use Rattle.sk_prog.specs.declared.ty.Elem.TheVariants as elem
use Rattle.sk_prog.specs.declared.prog.FieldDef.{FieldDef}
use Rattle.sk_prog.specs.declared.prog.StructDef.{StructDef}
use Rattle.sk_prog.specs.declared.prog.ConstDef.{ConstDef}
use Rattle.sk_prog.specs.declared.prog.Fun.{Fun}
use Rattle.sk_prog.specs.declared.prog.Prog.{Prog}
use Rattle.sk_types_rules.specs.Scope.{Known, Top, top_of, Context, all_distinct}
use Rattle.sk_types_rules.specs.Sorts.{written_type}
use Rattle.sk_types_rules.specs.Plain.{plain_items}
use Rattle.sk_types_rules.specs.Types.{StructFieldsMean, ItemsMean, Types}
use Rattle.sk_adt_text_laws.proofs.Heads.{tag_field, IsTagged, AnyTagged}

plain_tagged : (x : List ℕ) (is : List Item) → AnyTagged x is → AnyTagged x (plain_items is)
plain_tagged x [] h = absurd h
plain_tagged x (item.Struct y fs ∷ is) (inl h) = inl h
plain_tagged x (item.Struct y fs ∷ is) (inr h) = inr (plain_tagged x is h)
plain_tagged x (item.Pragma y text ∷ is) (inl h) = absurd h
plain_tagged x (item.Pragma y text ∷ is) (inr h) = plain_tagged x is h
plain_tagged x (item.Const y e ∷ is) (inl h) = absurd h
plain_tagged x (item.Const y e ∷ is) (inr h) = inr (plain_tagged x is h)
plain_tagged x (item.Fun g ∷ is) (inl h) = absurd h
plain_tagged x (item.Fun g ∷ is) (inr h) = inr (plain_tagged x is h)

abbrev pub FirstIsInt : StructDef → Type 0
FirstIsInt d = (tag : FieldDef) → slice_get d.fields 0 ≡ Some tag → tag.ty ≡ ty.One elem.Int

-- a struct of this name, with its place, whose first field is an integer
pub record IsThere (ds : List StructDef) (x : List ℕ) : Type 0 where
  pub place : ℕ
  pub struct : StructDef
  pub there : slice_get ds place ≡ Some struct
  pub name : struct.name ≡ x
  pub first : FirstIsInt struct

first_int : (context : Context) (f : Field) (fs : List Field) (ds : List FieldDef) → f ≡ tag_field → StructFieldsMean context (f ∷ fs) ds → (tag : FieldDef) → slice_get ds 0 ≡ Some tag → tag.ty ≡ ty.One elem.Int
first_int context f fs [] is m tag e = cc
first_int context f fs (d ∷ ds) is m tag e =
    let same : d ≡ tag = cc in
    let int : Some (ty.One elem.Int) ≡ Some d.ty = ap (λ (g : Field). written_type context [] g.ty) (sym is) ∙ m.1 in
    let of_d : d.ty ≡ ty.One elem.Int = cc in
    ap (λ (g : FieldDef). g.ty) (sym same) ∙ of_d

struct_first : (context : Context) (x y : List ℕ) (fs : List Field) (ds : List FieldDef) → IsTagged x (item.Struct y fs) → StructFieldsMean context fs ds → (y ≡ x) × ((tag : FieldDef) → slice_get ds 0 ≡ Some tag → tag.ty ≡ ty.One elem.Int)
struct_first context x y [] ds h m = absurd h
struct_first context x y (f ∷ fs) ds h m = (h.0, first_int context f fs ds h.1 m)

later : (d : StructDef) (ds : List StructDef) (x : List ℕ) → IsThere ds x → IsThere (d ∷ ds) x
later d ds x h = record { place = suc h.place; struct = h.struct; there = h.there; name = h.name; first = h.first }

items_there : (bounds : Bounds) (top : Top) (x : List ℕ) (known : List Known) (is : List Item) (ds : List StructDef) (cs : List ConstDef) (fs : List Fun) → AnyTagged x is → ItemsMean bounds top known is ds cs fs → IsThere ds x
items_there bounds top x known [] ds cs fs h m = absurd h
items_there bounds top x known (item.Struct y ys ∷ is) (d ∷ ds) cs fs (inl h) m =
    let r = struct_first (record { bounds = bounds; top = top; known = known }) x y ys d.fields h m.0.fields in
    record { place = 0; struct = d; there = refl; name = m.0.name ∙ r.0; first = r.1 }
items_there bounds top x known (item.Struct y ys ∷ is) (d ∷ ds) cs fs (inr h) m = later d ds x (items_there bounds top x known is ds cs fs h m.1)
items_there bounds top x known (item.Const y e ∷ is) ds (c ∷ cs) fs (inr h) m = items_there bounds top x (known ++ record { name = y; number = m.0 } ∷ []) is ds cs fs h m.2
items_there bounds top x known (item.Fun g ∷ is) ds cs (f ∷ fs) (inr h) m = items_there bounds top x known is ds cs fs h m.1
items_there bounds top x known (item.Const y e ∷ is) ds (c ∷ cs) fs (inl h) m = absurd h
items_there bounds top x known (item.Fun g ∷ is) ds cs (f ∷ fs) (inl h) m = absurd h
items_there bounds top x known (item.Pragma word text ∷ is) ds cs fs h m = absurd m
items_there bounds top x known (item.Struct y ys ∷ is) [] cs fs h m = absurd m
items_there bounds top x known (item.Const y e ∷ is) ds [] fs h m = absurd m
items_there bounds top x known (item.Fun g ∷ is) ds cs [] h m = absurd m

-- Names that differ

distinct_parts : (b c : Bool) → (not b && c) ≡ true → (b ≡ false) × (c ≡ true)
distinct_parts true c h = cc
distinct_parts false c h = (refl, h)

equal_self : (x : List ℕ) → bytes_eq x x ≡ true
equal_self x = (bytes_eq-Decides x x).1 refl

abbrev name_of : StructDef → List ℕ
name_of d = d.name

none_named : (x : List ℕ) (ds : List StructDef) (more : List (List ℕ)) (i : ℕ) (d : StructDef) → list_any (bytes_eq x) (map name_of ds ++ more) ≡ false → slice_get ds i ≡ Some d → d.name ≡ x → ⊥
none_named x [] more i d h e is = cc
none_named x (y ∷ ds) more zero d h e is =
    let same : y ≡ d = cc in
    let here : bytes_eq x y.name ≡ true = ap (bytes_eq x) (ap name_of same ∙ is) ∙ equal_self x in
    absurd (go (bytes_eq x y.name) (list_any (bytes_eq x) (map name_of ds ++ more)) here h)
  where
    go : (a b : Bool) → a ≡ true → (a || b) ≡ false → ⊥
    go true b e f = cc
    go false b e f = cc
none_named x (y ∷ ds) more (suc i) d h e is = none_named x ds more i d (go (bytes_eq x y.name) _ h) e is
  where
    go : (a b : Bool) → (a || b) ≡ false → b ≡ false
    go true b e = cc
    go false b e = e

same_struct : (ds : List StructDef) (more : List (List ℕ)) → all_distinct (map name_of ds ++ more) ≡ true → (i j : ℕ) (d e : StructDef) → slice_get ds i ≡ Some d → slice_get ds j ≡ Some e → d.name ≡ e.name → d ≡ e
same_struct [] more h i j d e a b is = cc
same_struct (y ∷ ds) more h zero zero d e a b is = cc
same_struct (y ∷ ds) more h zero (suc j) d e a b is =
    let same : y ≡ d = cc in
    let r = distinct_parts (list_any (bytes_eq y.name) (map name_of ds ++ more)) (all_distinct (map name_of ds ++ more)) h in
    absurd (none_named y.name ds more j e r.0 b (sym (ap name_of same ∙ is)))
same_struct (y ∷ ds) more h (suc i) zero d e a b is =
    let same : y ≡ e = cc in
    let r = distinct_parts (list_any (bytes_eq y.name) (map name_of ds ++ more)) (all_distinct (map name_of ds ++ more)) h in
    absurd (none_named y.name ds more i d r.0 a (is ∙ sym (ap name_of same)))
same_struct (y ∷ ds) more h (suc i) (suc j) d e a b is =
    same_struct ds more (distinct_parts (list_any (bytes_eq y.name) (map name_of ds ++ more)) (all_distinct (map name_of ds ++ more)) h).1 i j d e a b is

-- The struct of this name has a first field that is an integer.
pub tag_is_int : (tree : Tree) (bounds : Bounds) (prog : Prog) → Types tree bounds prog → (n : ℕ) (d : StructDef) → slice_get prog.structs n ≡ Some d → AnyTagged d.name tree.items → FirstIsInt d
tag_is_int tree bounds prog m n d there h =
    let found = items_there bounds (top_of prog) d.name [] (plain_items tree.items) prog.structs prog.consts prog.funs (plain_tagged d.name tree.items h) m.items in
    let same : found.struct ≡ d = same_struct prog.structs _ m.distinct found.place n found.struct d found.there there found.name in
    subst FirstIsInt same found.first
