-- No byte of what is written of an ending controls a terminal, but a tab and a line feed.
use Rattle.std.proofs.Common.{ℕ, ◌-◌, ◌^◌, ◌<◌, ◌≤◌, ◌≡◌, true, List, [], ◌∷◌, ◌++◌, length, take, Option, Some, None, refl, subst, sym, arith}
use Rattle.std.specs.List.{list_all}
use Rattle.std.proofs.lemmas.List.Sums.{count_by-le-length}
use Rattle.std.proofs.lemmas.List.{length-take}
use Rattle.sk_base.specs.declared.span.Span.{Span}
use Rattle.sk_app.specs.declared.ending.Ending.{Ending}
use Rattle.sk_explain_places.specs.declared.spots.Spot.{Spot}
use Rattle.sk_explain_places.specs.Lines.{is_feed}
use Rattle.sk_explain_places.specs.Spots.{place_text}
use Rattle.sk_explain_places.specs.Visible.{is_quiet}
use Rattle.sk_explain_places.proofs.VisibleLaws.{both_quiet, excerpt_quiet}
use Rattle.sk_explain_notes.proofs.QuietLaws.{note_quiet, place_quiet}
use Rattle.sk_explain.specs.declared.explanation.Explanation.{Explanation}
use Rattle.sk_explain.specs.Explained.{span_of, IsShown, IsSpot, IsExplanation, head_text, shown_text, title_text, layout}

head_quiet : (text : List ℕ) (span : Span) (spot : Spot) → length text < 2 ^ 63 → IsShown text span (Some spot) → list_all is_quiet (head_text (Some spot)) ≡ true
head_quiet text span spot small is =
    let line : spot.place.line < 2 ^ 64 = omega (arith, is.1.place.line, count_by-le-length is_feed (take span.from text), length-take span.from text) in
    let column : spot.place.column < 2 ^ 64 = omega (arith, is.0, is.1.place.column) in
    both_quiet (place_text spot.place) (58 ∷ 32 ∷ []) (place_quiet spot.place line column) refl

-- the place in front of the title
pub spot_quiet : (text : List ℕ) (span : Option Span) (spot : Option Spot) → length text < 2 ^ 63 → IsSpot text span spot → list_all is_quiet (head_text spot) ≡ true
spot_quiet text None spot small is = subst (λ found. list_all is_quiet (head_text found) ≡ true) (sym is) refl
spot_quiet text (Some span) None small is = refl
spot_quiet text (Some span) (Some spot) small is = head_quiet text span spot small is

shown_quiet : (spot : Option Spot) → list_all is_quiet (shown_text spot) ≡ true
shown_quiet None = refl
shown_quiet (Some spot) = excerpt_quiet spot

title_quiet : (spot : Option Spot) (title : List ℕ) → list_all is_quiet (head_text spot) ≡ true → list_all is_quiet title ≡ true → list_all is_quiet (title_text spot title) ≡ true
title_quiet spot [] head title = refl
title_quiet spot (b ∷ bs) head title =
    both_quiet (head_text spot ++ b ∷ bs) (10 ∷ []) (both_quiet (head_text spot) (b ∷ bs) head title) refl

-- an explanation of an ending
pub layout_quiet : (text : List ℕ) (ending : Ending) (e : Explanation) → length text < 2 ^ 63 → IsExplanation text ending e → list_all is_quiet (layout e) ≡ true
layout_quiet text ending e small is =
    both_quiet (title_text e.spot e.title.bytes.items ++ shown_text e.spot) e.notes.bytes.items
    (both_quiet (title_text e.spot e.title.bytes.items) (shown_text e.spot)
    (title_quiet e.spot e.title.bytes.items (spot_quiet text (span_of ending) e.spot small is.spot) (note_quiet e.title.bytes.items is.title))
    (shown_quiet e.spot))
    (note_quiet e.notes.bytes.items is.notes)
