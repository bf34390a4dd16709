-- What people see of a line: no byte of it controls a terminal but a tab, and it is ASCII where the line is.
use Rattle.std.proofs.Common.{ℕ, zero, suc, ◌-◌, ◌<◌, ◌≡◌, nat_le, Bool, true, false, List, [], ◌∷◌, ◌++◌, length, map, take, if◌then◌else◌, refl, arith}
use Rattle.std.specs.List.{list_all}
use Rattle.std.specs.Str.{IsAscii, IsUtf8, is_utf8}
use Rattle.std.proofs.lemmas.Bool.Decides.{nat_tests}
use Rattle.std.proofs.lemmas.List.Folds.{list_all-append}
use Rattle.std.proofs.lemmas.Str.{IsUtf8-from_is_utf8, is_utf8-from_IsUtf8}
use Rattle.sk_explain_places.specs.declared.spots.Spot.{Spot}
use Rattle.sk_explain_places.specs.Spots.{pad, marks, line_text, mark_text, excerpt_text, longest_shown}
use Rattle.sk_explain_places.specs.Visible.{left_of, visible_byte, visible_from, visible, is_quiet}

pub utf8_yes : (bs : List ℕ) → IsUtf8 bs → is_utf8 bs ≡ true
utf8_yes bs is = is_utf8-from_IsUtf8 bs is

pub utf8_no : (bs : List ℕ) → ¬ (IsUtf8 bs) → is_utf8 bs ≡ false
utf8_no bs is_not = decide (is_utf8 bs) refl
  where
    decide : (answer : Bool) → is_utf8 bs ≡ answer → is_utf8 bs ≡ false
    decide true e = absurd (is_not (IsUtf8-from_is_utf8 bs e))
    decide false e = e

quiet_byte : (left b : ℕ) → is_quiet (visible_byte left b) ≡ true
quiet_byte left b = grind (arith, nat_tests)

-- no byte of what is seen controls a terminal
pub quiet_from : (left : ℕ) (bs : List ℕ) → list_all is_quiet (visible_from left bs) ≡ true
quiet_from left [] = refl
quiet_from left (b ∷ bs) = rw (quiet_byte (left_of left (b ∷ bs)) b) (quiet_from (left_of left (b ∷ bs) - 1) bs)

pub visible_quiet : (line : List ℕ) → list_all is_quiet (visible line) ≡ true
visible_quiet line = quiet_from 0 line

-- bytes that pass, and others behind them
pub both_quiet : (xs ys : List ℕ) → list_all is_quiet xs ≡ true → list_all is_quiet ys ≡ true → list_all is_quiet (xs ++ ys) ≡ true
both_quiet xs ys front behind = rw (list_all-append is_quiet xs ys, front, behind) refl

pad_quiet : (b : ℕ) → is_quiet (pad b) ≡ true
pad_quiet b = grind (arith, nat_tests)

pads_quiet : (bs : List ℕ) → list_all is_quiet (map pad bs) ≡ true
pads_quiet [] = refl
pads_quiet (b ∷ bs) = rw (pad_quiet b) (pads_quiet bs)

marks_quiet : (n : ℕ) → list_all is_quiet (marks n) ≡ true
marks_quiet zero = refl
marks_quiet (suc n) = marks_quiet n

line_text_quiet : (line : List ℕ) → list_all is_quiet (line_text line) ≡ true
line_text_quiet line = both_quiet (visible line) (10 ∷ []) (visible_quiet line) refl

mark_text_quiet : (spot : Spot) → list_all is_quiet (mark_text spot) ≡ true
mark_text_quiet spot =
    both_quiet (map pad (take (spot.place.column - 1) spot.line) ++ marks spot.width) (10 ∷ [])
    (both_quiet (map pad (take (spot.place.column - 1) spot.line)) (marks spot.width) (pads_quiet (take (spot.place.column - 1) spot.line)) (marks_quiet spot.width))
    refl

either_quiet : (b : Bool) (xs : List ℕ) → list_all is_quiet xs ≡ true → list_all is_quiet (if b then xs else []) ≡ true
either_quiet true xs quiet = quiet
either_quiet false xs quiet = refl

-- no byte of what is shown of a line controls a terminal
pub excerpt_quiet : (spot : Spot) → list_all is_quiet (excerpt_text spot) ≡ true
excerpt_quiet spot =
    either_quiet (nat_le (length spot.line) longest_shown) (line_text spot.line ++ mark_text spot)
    (both_quiet (line_text spot.line) (mark_text spot) (line_text_quiet spot.line) (mark_text_quiet spot))

-- ASCII stays ASCII

visible_byte_ascii : (left b : ℕ) → b < 128 → visible_byte left b < 128
visible_byte_ascii left b small = grind (arith, nat_tests)

pub ascii_from : (left : ℕ) (bs : List ℕ) → IsAscii bs → IsAscii (visible_from left bs)
ascii_from left [] ascii i = ascii i
ascii_from left (b ∷ bs) ascii zero = visible_byte_ascii (left_of left (b ∷ bs)) b (ascii zero)
ascii_from left (b ∷ bs) ascii (suc i) = ascii_from (left_of left (b ∷ bs) - 1) bs (λ j. ascii (suc j)) i

pub visible_ascii : (line : List ℕ) → IsAscii line → IsAscii (visible line)
visible_ascii line ascii = ascii_from 0 line ascii
