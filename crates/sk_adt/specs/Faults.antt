-- What is wrong with the names of a text whose forms are right.
use Rattle.std.specs.Prelude.{ℕ, min, nat_lt, Bool, true, false, List, [], ◌∷◌, ◌++◌, map, length, Option, Some, None, option_map, if◌then◌else◌}
use Rattle.std.specs.Str.{bytes_eq}
use Rattle.sk_types_rules.specs.Scope.{place_of}
use Rattle.sk_adt.specs.declared.algebraic.AdtFault.{AdtFault}
use Rattle.sk_adt.specs.declared.algebraic.AdtFault.TheVariants as fault
use Rattle.sk_adt.specs.declared.form.Word.{Word}
use Rattle.sk_adt.specs.declared.form.VariantWords.{VariantWords}
use Rattle.sk_adt.specs.declared.form.TypeWords.{TypeWords}
use Rattle.sk_adt.specs.declared.form.Known.{Known}
use Rattle.sk_adt.specs.Words.{each, known_in, variant_named}

-- The first of two bytes, where there are any. Tokens stand in the order of their bytes.
abbrev pub sooner : Option ℕ → Option ℕ → Option ℕ
sooner None b = b
sooner (Some a) None = Some a
sooner (Some a) (Some b) = Some (min a b)

abbrev pub soonest : List (Option ℕ) → Option ℕ
soonest [] = None
soonest (o ∷ os) = sooner o (soonest os)

-- the word, where its name has a place, or else what comes later
abbrev pub at_word : Word → Option ℕ → Option ℕ → Option ℕ
at_word w (Some i) later = Some w.span.from
at_word w None later = later

-- the first word, behind those that are seen, whose name stands before it
unfoldable pub first_again : List Word → List Word → Option ℕ
first_again seen [] = None
first_again seen (w ∷ ws) = at_word w (place_of (map (λ v. v.name) seen) w.name) (first_again (seen ++ w ∷ []) ws)

-- the names of types and variants
abbrev pub declared_of : TypeWords → List Word
declared_of t = t.word ∷ map (λ v. v.word) t.variants

abbrev pub declared_in : List TypeWords → List Word
declared_in types = each (map declared_of types)

abbrev pub fields_again : TypeWords → Option ℕ
fields_again t = soonest (map (λ v. first_again [] v.fields) t.variants)

-- A name stands twice among types and variants, among the fields of a variant, or among the cases of a switch.
abbrev pub twice : List TypeWords → List (List Word) → Option ℕ
twice types switches = sooner (first_again [] (declared_in types)) (sooner (soonest (map fields_again types)) (soonest (map (first_again []) switches)))

-- A case names no variant, or one of another type than the first case.

abbrev pub type_of : Option Known → Option (List ℕ)
type_of = option_map (λ k. k.ty)

abbrev pub same_type : Option (List ℕ) → Option (List ℕ) → Bool
same_type (Some a) (Some b) = bytes_eq a b
same_type _ _ = false

unfoldable pub first_stray : List Known → Option (List ℕ) → List Word → Option ℕ
first_stray known ty [] = None
first_stray known ty (w ∷ ws) = if same_type ty (type_of (variant_named known w.name)) then first_stray known ty ws else Some w.span.from

unfoldable pub stray : List Known → List Word → Option ℕ
stray known [] = None
stray known (w ∷ ws) = first_stray known (type_of (variant_named known w.name)) (w ∷ ws)

abbrev pub no_variant : List Known → List (List Word) → Option ℕ
no_variant known switches = soonest (map (stray known) switches)

-- A type has more than 16 variants, or a variant more than 16 fields.

abbrev pub crowded : Word → ℕ → Option ℕ
crowded w n = if nat_lt 16 n then Some w.span.from else None

abbrev pub crowded_variant : VariantWords → Option ℕ
crowded_variant v = crowded v.word (length v.fields)

abbrev pub crowded_type : TypeWords → Option ℕ
crowded_type t = sooner (crowded t.word (length t.variants)) (soonest (map crowded_variant t.variants))

abbrev pub too_many : List TypeWords → Option ℕ
too_many types = soonest (map crowded_type types)

-- They are tested in this order over the whole text.

abbrev pub or_fault : (ℕ → AdtFault) → Option ℕ → Option AdtFault → Option AdtFault
or_fault fault (Some at) other = Some (fault at)
or_fault fault None other = other

abbrev pub fault_of : List TypeWords → List (List Word) → Option AdtFault
fault_of types switches =
    or_fault fault.Twice (twice types switches)
    (or_fault fault.NoVariant (no_variant (known_in types) switches) (or_fault fault.TooMany (too_many types) None))
