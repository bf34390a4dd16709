-- What is written of an ending is ASCII where the text is, and no byte of it controls a terminal.
use Rattle.std.proofs.Common.{ℕ, zero, suc, ◌-◌, ◌^◌, ◌<◌, ◌≤◌, ◌≡◌, Bool, true, false, List, [], ◌∷◌, ◌++◌, length, map, take, drop, replicate, Option, Some, None, subst, sym, arith, lit<, if◌then◌else◌, nat_le}
use Rattle.std.specs.Str.{IsAscii}
use Rattle.std.specs.List.{list_all, slice_range}
use Rattle.std.specs.Fmt.{decimal}
use Rattle.std.proofs.lemmas.Bool.Decides.{nat_tests}
use Rattle.std.proofs.lemmas.Str.{IsAscii-append, IsAscii-take, IsAscii-drop}
use Rattle.std.proofs.lemmas.Str.Ascii.{IsAscii-map, IsAscii-nil}
use Rattle.std.proofs.lemmas.Fmt.{IsAscii-decimal}
use Rattle.std.proofs.lemmas.List.Sums.{count_by-le-length}
use Rattle.std.proofs.lemmas.List.{length-take}
use Rattle.sk_base.specs.declared.span.Span.{Span}
use Rattle.sk_app.specs.declared.ending.Ending.{Ending}
use Rattle.sk_explain_places.specs.declared.places.Place.{Place}
use Rattle.sk_explain_places.specs.declared.spots.Spot.{Spot}
use Rattle.sk_explain_places.specs.Lines.{is_feed, IsPlace, IsLineOf}
use Rattle.sk_explain_places.specs.Spots.{pad, marks, line_text, mark_text, excerpt_text, place_text, longest_shown}
use Rattle.sk_explain_places.specs.Visible.{visible, is_quiet}
use Rattle.sk_explain_places.proofs.VisibleLaws.{visible_ascii}
use Rattle.sk_explain_notes.specs.Notes.{is_note}
use Rattle.sk_explain.specs.declared.explanation.Explanation.{Explanation}
use Rattle.sk_explain.specs.Explained.{span_of, IsShown, IsSpot, IsExplanation, head_text, shown_text, title_text, layout, IsExplained}
use Rattle.sk_explain.proofs.QuietLaws.{layout_quiet}

-- one byte in front
pub cons_ascii : (b : ℕ) (bs : List ℕ) → b < 128 → IsAscii bs → IsAscii (b ∷ bs)
cons_ascii b bs here behind zero = here
cons_ascii b bs here behind (suc i) = behind i

pub one_ascii : (b : ℕ) → b < 128 → IsAscii (b ∷ [])
one_ascii b here = cons_ascii b [] here IsAscii-nil

pub note_byte : (b : ℕ) → is_note b ≡ true → b < 128
note_byte b h = grind (arith, nat_tests)

pub note_first : (b : ℕ) (bs : List ℕ) → list_all is_note (b ∷ bs) ≡ true → is_note b ≡ true
note_first b bs h = grind (arith, nat_tests)

pub note_rest : (b : ℕ) (bs : List ℕ) → list_all is_note (b ∷ bs) ≡ true → list_all is_note bs ≡ true
note_rest b bs h = grind (arith, nat_tests)

-- notes are ASCII
pub note_ascii : (bs : List ℕ) → list_all is_note bs ≡ true → IsAscii bs
note_ascii [] h = IsAscii-nil
note_ascii (b ∷ bs) h = cons_ascii b bs (note_byte b (note_first b bs h)) (note_ascii bs (note_rest b bs h))

-- what stands under a line is ASCII
pub pad_ascii : (b : ℕ) → b < 128 → pad b < 128
pad_ascii b h = grind (arith, nat_tests)

pub marks_ascii : (n : ℕ) → IsAscii (marks n)
marks_ascii zero = IsAscii-nil
marks_ascii (suc n) = cons_ascii 94 (replicate n 94) (lit< tt) (marks_ascii n)

pub blanks_ascii : IsAscii (32 ∷ 32 ∷ 32 ∷ 32 ∷ [])
blanks_ascii = cons_ascii 32 (32 ∷ 32 ∷ 32 ∷ []) (lit< tt) (cons_ascii 32 (32 ∷ 32 ∷ []) (lit< tt) (cons_ascii 32 (32 ∷ []) (lit< tt) (one_ascii 32 (lit< tt))))

-- the line of an ASCII text
pub line_ascii : (text : List ℕ) (byte : ℕ) (line : List ℕ) → IsLineOf text byte line → IsAscii text → IsAscii line
line_ascii text byte line of ascii =
    let cut : IsAscii (slice_range text of.start of.end) = IsAscii-take (drop of.start text) (of.end - of.start) (IsAscii-drop text of.start ascii) in
    subst IsAscii (sym of.bytes) cut

pub line_text_ascii : (line : List ℕ) → IsAscii line → IsAscii (line_text line)
line_text_ascii line ascii =
    IsAscii-append ((32 ∷ 32 ∷ 32 ∷ 32 ∷ []) ++ visible line) (10 ∷ []) (IsAscii-append (32 ∷ 32 ∷ 32 ∷ 32 ∷ []) (visible line) blanks_ascii (visible_ascii line ascii))
    (one_ascii 10 (lit< tt))

pub mark_text_ascii : (spot : Spot) → IsAscii spot.line → IsAscii (mark_text spot)
mark_text_ascii spot ascii =
    let before = IsAscii-map pad (take (spot.place.column - 1) spot.line) pad_ascii (IsAscii-take spot.line (spot.place.column - 1) ascii) in
    IsAscii-append (((32 ∷ 32 ∷ 32 ∷ 32 ∷ []) ++ map pad (take (spot.place.column - 1) spot.line)) ++ marks spot.width) (10 ∷ [])
    (IsAscii-append ((32 ∷ 32 ∷ 32 ∷ 32 ∷ []) ++ map pad (take (spot.place.column - 1) spot.line)) (marks spot.width) (IsAscii-append (32 ∷ 32 ∷ 32 ∷ 32 ∷ []) (map pad (take (spot.place.column - 1) spot.line)) blanks_ascii before) (marks_ascii spot.width))
    (one_ascii 10 (lit< tt))

pub either_ascii : (b : Bool) (xs ys : List ℕ) → IsAscii xs → IsAscii ys → IsAscii (if b then xs else ys)
either_ascii b xs ys hx hy = elim b as (λ v. IsAscii (if v then xs else ys)) [ true ↦ hx | false ↦ hy ]

pub excerpt_ascii : (spot : Spot) → IsAscii spot.line → IsAscii (excerpt_text spot)
excerpt_ascii spot ascii =
    either_ascii (nat_le (length spot.line) longest_shown) (line_text spot.line ++ mark_text spot) []
    (IsAscii-append (line_text spot.line) (mark_text spot) (line_text_ascii spot.line ascii) (mark_text_ascii spot ascii))
    IsAscii-nil

-- The place of a byte of a text that has so few bytes

pub place_ascii : (text : List ℕ) (byte : ℕ) (place : Place) → length text < 2 ^ 63 → byte ≤ length text → IsPlace text byte place → IsAscii (place_text place)
place_ascii text byte place small within is =
    let line : place.line < 2 ^ 64 = omega (arith, is.line, count_by-le-length is_feed (take byte text), length-take byte text) in
    let column : place.column < 2 ^ 64 = omega (arith, is.column) in
    IsAscii-append (decimal place.line ++ 58 ∷ []) (decimal place.column)
    (IsAscii-append (decimal place.line) (58 ∷ []) (IsAscii-decimal place.line line) (one_ascii 58 (lit< tt)))
    (IsAscii-decimal place.column column)

pub head_ascii : (text : List ℕ) (span : Span) (spot : Spot) → length text < 2 ^ 63 → IsShown text span (Some spot) → IsAscii (head_text (Some spot))
head_ascii text span spot small is =
    IsAscii-append (place_text spot.place) (58 ∷ 32 ∷ []) (place_ascii text span.from spot.place small is.0 is.1.place)
    (cons_ascii 58 (32 ∷ []) (lit< tt) (one_ascii 32 (lit< tt)))

-- what is written of a place
pub record SpotIsAscii (spot : Option Spot) : Type 0 where
  pub head : IsAscii (head_text spot)
  pub shown : IsAscii (shown_text spot)

pub no_spot : SpotIsAscii None
no_spot = record { head = IsAscii-nil; shown = IsAscii-nil }

pub spot_ascii : (text : List ℕ) (span : Option Span) (spot : Option Spot) → length text < 2 ^ 63 → IsAscii text → IsSpot text span spot → SpotIsAscii spot
spot_ascii text None spot small ascii is = subst SpotIsAscii (sym is) no_spot
spot_ascii text (Some span) None small ascii is = no_spot
spot_ascii text (Some span) (Some spot) small ascii is = record {
  head = head_ascii text span spot small is;
  shown = excerpt_ascii spot (line_ascii text span.from spot.line is.1.line ascii);
}

pub title_ascii : (spot : Option Spot) (title : List ℕ) → IsAscii (head_text spot) → IsAscii title → IsAscii (title_text spot title)
title_ascii spot [] head title = IsAscii-nil
title_ascii spot (b ∷ bs) head title =
    IsAscii-append (head_text spot ++ b ∷ bs) (10 ∷ []) (IsAscii-append (head_text spot) (b ∷ bs) head title) (one_ascii 10 (lit< tt))

-- an explanation of an ending on an ASCII text is written in ASCII
pub layout_ascii : (text : List ℕ) (ending : Ending) (e : Explanation) → length text < 2 ^ 63 → IsAscii text → IsExplanation text ending e → IsAscii (layout e)
layout_ascii text ending e small ascii is =
    let spot = spot_ascii text (span_of ending) e.spot small ascii is.spot in
    IsAscii-append (title_text e.spot e.title.bytes.items ++ shown_text e.spot) e.notes.bytes.items
    (IsAscii-append (title_text e.spot e.title.bytes.items) (shown_text e.spot)
    (title_ascii e.spot e.title.bytes.items spot.head (note_ascii e.title.bytes.items is.title))
    spot.shown)
    (note_ascii e.notes.bytes.items is.notes)

-- what is written of an explanation
pub explained : (text : List ℕ) (ending : Ending) (e : Explanation) (out : List ℕ) → length text < 2 ^ 63 → IsExplanation text ending e → out ≡ layout e → IsExplained text ending out
explained text ending e out small explains written = record {
  explanation = e;
  explains = explains;
  written = written;
  quiet = subst (λ bs. list_all is_quiet bs ≡ true) (sym written) (layout_quiet text ending e small explains);
  ascii = λ ascii. subst IsAscii (sym written) (layout_ascii text ending e small ascii explains);
}
