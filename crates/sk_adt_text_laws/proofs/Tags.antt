-- In a program that plain tokens mean, the tag of each struct of an algebraic type is an integer.
use Rattle.std.proofs.Common.{◌≡◌, ℕ, suc, Bool, true, false, List, [], ◌∷◌, map, Option, Some, None, refl, subst, if◌then◌else◌}
use Rattle.std.specs.Prelude.{option_and_then, slice_get}
use Rattle.std.specs.Str.{bytes_eq}
use Rattle.std.proofs.lemmas.Slice.Eq.{bytes_eq-Decides}
use Rattle.sk_types_rules.specs.Scope.{next_place, place_of}
use Rattle.sk_adt.specs.declared.algebraic.Algebraic.{Algebraic}
use Rattle.sk_adt_tags.specs.Tags.{type_named}
use Rattle.sk_adt_laws.specs.Heads.{HasHead}
use Rattle.sk_adt_laws.proofs.Structs.{structs}
use Rattle.sk_adt_text_laws.specs.Lowered.{LoweredTagsAreIntegers}
use Rattle.sk_adt_text_laws.proofs.Heads.{tree_tagged}
use Rattle.sk_adt_text_laws.proofs.Typed.{tag_is_int}

-- the type that is found has the name
record Found (types : List Algebraic) (x : List ℕ) : Type 0 where
  place : ℕ
  type : Algebraic
  there : slice_get types place ≡ Some type
  name : type.name ≡ x

abbrev name_of : Algebraic → List ℕ
name_of a = a.name

later : (b : Algebraic) (types : List Algebraic) (x : List ℕ) → Found types x → Found (b ∷ types) x
later b types x f = record { place = suc f.place; type = f.type; there = f.there; name = f.name }

found_at : (types : List Algebraic) (x : List ℕ) (i : ℕ) → place_of (map name_of types) x ≡ Some i → Found types x
found_at [] x i e = absurd (cc)
found_at (b ∷ types) x i e = go (λ j p. found_at types x j p) (bytes_eq b.name x) refl (place_of (map name_of types) x) refl e
  where
    go : ((j : ℕ) → place_of (map name_of types) x ≡ Some j → Found types x) → (c : Bool) → bytes_eq b.name x ≡ c → (o : Option ℕ) → place_of (map name_of types) x ≡ o → (if c then Some 0 else next_place o) ≡ Some i → Found (b ∷ types) x
    go again true is o p f = record { place = 0; type = b; there = refl; name = (bytes_eq-Decides b.name x).0 is }
    go again false is None p f = absurd (cc)
    go again false is (Some j) p f = later b types x (again j p)

type_found : (types : List Algebraic) (x : List ℕ) (a : Algebraic) → type_named types x ≡ Some a → Found types x
type_found types x a e = go (place_of (map name_of types) x) refl e
  where
    go : (o : Option ℕ) → place_of (map name_of types) x ≡ o → option_and_then (slice_get types) o ≡ Some a → Found types x
    go None p f = absurd (cc)
    go (Some i) p f = found_at types x i p

pub tags : LoweredTagsAreIntegers
tags tokens form tree bounds prog h n d a tag there named first =
    let f = type_found form.types d.name a named in
    let has : HasHead form.tokens d.name = subst (HasHead form.tokens) f.name (structs tokens form h.lowered_is f.place f.type f.there) in
    tag_is_int tree bounds prog h.types n d there (tree_tagged form.tokens tree d.name h.reads has) tag first
