-- No byte of a note controls a terminal, and none of a place.
use Rattle.std.proofs.Common.{ℕ, ◌<◌, ◌^◌, ◌≡◌, true, List, [], ◌∷◌, ◌++◌, map, decimal, refl, subst, arith}
use Rattle.std.specs.List.{list_all}
use Rattle.std.proofs.lemmas.Bool.Decides.{nat_tests}
use Rattle.sk_explain_places.specs.declared.places.Place.{Place}
use Rattle.sk_explain_places.specs.Spots.{place_text}
use Rattle.sk_explain_places.specs.Visible.{is_quiet}
use Rattle.sk_explain_places.proofs.VisibleLaws.{both_quiet}
use Rattle.sk_explain_notes.specs.Notes.{is_note, plain}
use Rattle.sk_explain_notes.proofs.NoteLemmas.{plain_decimal}

note_byte_quiet : (b : ℕ) → is_note b ≡ true → is_quiet b ≡ true
note_byte_quiet b note = grind (arith, nat_tests)

note_first : (b : ℕ) (bs : List ℕ) → list_all is_note (b ∷ bs) ≡ true → is_note b ≡ true
note_first b bs note = grind (arith, nat_tests)

note_rest : (b : ℕ) (bs : List ℕ) → list_all is_note (b ∷ bs) ≡ true → list_all is_note bs ≡ true
note_rest b bs note = grind (arith, nat_tests)

pub note_quiet : (bs : List ℕ) → list_all is_note bs ≡ true → list_all is_quiet bs ≡ true
note_quiet [] note = refl
note_quiet (b ∷ bs) note = rw (note_byte_quiet b (note_first b bs note)) (note_quiet bs (note_rest b bs note))

plain_byte_quiet : (b : ℕ) → is_quiet (plain b) ≡ true
plain_byte_quiet b = grind (arith, nat_tests)

plain_quiet : (bs : List ℕ) → list_all is_quiet (map plain bs) ≡ true
plain_quiet [] = refl
plain_quiet (b ∷ bs) = rw (plain_byte_quiet b) (plain_quiet bs)

decimal_quiet : (n : ℕ) → n < 2 ^ 64 → list_all is_quiet (decimal n) ≡ true
decimal_quiet n small = subst (λ bs. list_all is_quiet bs ≡ true) (plain_decimal n small) (plain_quiet (decimal n))

pub place_quiet : (place : Place) → place.line < 2 ^ 64 → place.column < 2 ^ 64 → list_all is_quiet (place_text place) ≡ true
place_quiet place line column =
    both_quiet (decimal place.line ++ 58 ∷ []) (decimal place.column)
    (both_quiet (decimal place.line) (58 ∷ []) (decimal_quiet place.line line) refl)
    (decimal_quiet place.column column)
