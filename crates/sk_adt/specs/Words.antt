-- The names of a text with algebraic types: its types with their variants and fields, and the cases of its switches.
use Rattle.std.specs.Prelude.{ℕ, zero, suc, List, [], ◌∷◌, ◌++◌, map, Option, option_and_then, slice_get}
use Rattle.sk_types_rules.specs.Scope.{place_of}
use Rattle.sk_adt.specs.declared.algebraic.Variant.{Variant}
use Rattle.sk_adt.specs.declared.algebraic.Algebraic.{Algebraic}
use Rattle.sk_adt.specs.declared.form.Word.{Word}
use Rattle.sk_adt.specs.declared.form.FieldForm.{FieldForm}
use Rattle.sk_adt.specs.declared.form.VariantForm.{VariantForm}
use Rattle.sk_adt.specs.declared.form.TypeForm.{TypeForm}
use Rattle.sk_adt.specs.declared.form.VariantWords.{VariantWords}
use Rattle.sk_adt.specs.declared.form.TypeWords.{TypeWords}
use Rattle.sk_adt.specs.declared.form.Known.{Known}
use Rattle.sk_adt.specs.declared.form.Piece.{Piece}
use Rattle.sk_adt.specs.declared.form.Piece.TheOpen as P
use Rattle.sk_adt.specs.declared.form.CaseForm.{CaseForm}
use Rattle.sk_adt.specs.declared.form.Piece.TheFolds.{fold-Piece, fold-CaseForm}

-- one after another
abbrev pub each : {A : Type 0} → List (List A) → List A
each [] = []
each (xs ∷ rest) = xs ++ each rest

abbrev pub variant_words : VariantForm → VariantWords
variant_words v = record { word = v.word; fields = map (λ f. f.word) v.fields }

abbrev pub type_words : TypeForm → TypeWords
type_words t = record { word = t.word; variants = map variant_words t.variants }

-- all algebraic types, in the order of the text
abbrev pub types_step : P.Piece-F (List TypeWords) (List TypeWords) → List TypeWords
types_step (P.Type t) = type_words t ∷ []
types_step (P.Switch head cases) = each cases
types_step (P.Member on dot field) = []
types_step (P.Behind dot field) = []
types_step (P.Plain t) = []

abbrev pub types_of_piece : Piece → List TypeWords
types_of_piece = fold-Piece (List TypeWords) (List TypeWords) types_step (λ c. each c.body)

abbrev pub types_of_case : CaseForm → List TypeWords
types_of_case = fold-CaseForm (List TypeWords) (List TypeWords) types_step (λ c. each c.body)

abbrev pub types_in : List Piece → List TypeWords
types_in pieces = each (map types_of_piece pieces)

-- the words behind `case`, of each switch
abbrev pub switches_step : P.Piece-F (List (List Word)) (Word × List (List Word)) → List (List Word)
switches_step (P.Type t) = []
switches_step (P.Switch head cases) = map (λ c. c.0) cases ∷ each (map (λ c. c.1) cases)
switches_step (P.Member on dot field) = []
switches_step (P.Behind dot field) = []
switches_step (P.Plain t) = []

abbrev pub switches_of_piece : Piece → List (List Word)
switches_of_piece = fold-Piece (List (List Word)) (Word × List (List Word)) switches_step (λ c. (c.head.word, each c.body))

abbrev pub switches_of_case : CaseForm → Word × List (List Word)
switches_of_case = fold-CaseForm (List (List Word)) (Word × List (List Word)) switches_step (λ c. (c.head.word, each c.body))

abbrev pub switches_in : List Piece → List (List Word)
switches_in pieces = each (map switches_of_piece pieces)

-- the types that a lowered text names
abbrev pub variant_of : VariantWords → Variant
variant_of v = record { name = v.word.name; fields = map (λ f. f.name) v.fields }

abbrev pub algebraic_of : TypeWords → Algebraic
algebraic_of t = record { name = t.word.name; variants = map variant_of t.variants }

-- Variants by their names. Those of a type have numbers from 0.
unfoldable pub known_from : ℕ → List ℕ → List VariantWords → List Known
known_from n ty [] = []
known_from n ty (v ∷ vs) = record { name = v.word.name; ty = ty; number = n; fields = map (λ f. f.name) v.fields } ∷ known_from (suc n) ty vs

abbrev pub known_of : TypeWords → List Known
known_of t = known_from 0 t.word.name t.variants

abbrev pub known_in : List TypeWords → List Known
known_in types = each (map known_of types)

-- the variant of this name
unfoldable pub variant_named : List Known → List ℕ → Option Known
variant_named known x = option_and_then (slice_get known) (place_of (map (λ k. k.name) known) x)
