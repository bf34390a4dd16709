-- The words of the cases of a switch, and what stands in their blocks, as they are listed.
use Rattle.std.proofs.Common.{◌≡◌, List, [], ◌∷◌, ◌++◌, map, refl, sym, ap, ◌∙◌, append_assoc}
use Rattle.sk_adt.specs.declared.form.Word.{Word}
use Rattle.sk_adt.specs.declared.form.SwitchHead.{SwitchHead}
use Rattle.sk_adt.specs.declared.form.CaseForm.{CaseForm, out-CaseForm}
use Rattle.sk_adt.specs.declared.form.Piece.{Piece}
use Rattle.sk_adt.specs.declared.form.Piece.TheVariants as piece
use Rattle.sk_adt.specs.declared.form.Piece.TheOpen as P
use Rattle.sk_adt.specs.declared.form.Piece.TheFolds.{fold-roll-Piece, fold-roll-CaseForm}
use Rattle.sk_adt.specs.Words.{each, switches_step, switches_of_piece, switches_of_case}

case_word_is : (c : CaseForm) → (switches_of_case c).0 ≡ (out-CaseForm c).head.word
case_word_is c =
    ap (λ (r : Word × List (List Word)). r.0)
    (fold-roll-CaseForm (List (List Word)) (Word × List (List Word)) switches_step (λ c. (c.head.word, each c.body)) (record { head = (out-CaseForm c).head; body = (out-CaseForm c).body }))

pub case_words_are : (cases : List CaseForm) → map (λ c. c.0) (map switches_of_case cases) ≡ map (λ c. (out-CaseForm c).head.word) cases
case_words_are [] = refl
case_words_are (c ∷ cs) = (λ i. case_word_is c i ∷ case_words_are cs i)

case_lists_are : (cases : List CaseForm) → map (λ c. c.1) (map switches_of_case cases) ≡ map (λ c. (switches_of_case c).1) cases
case_lists_are [] = refl
case_lists_are (c ∷ cs) = ap (λ (l : List (List (List Word))). (switches_of_case c).1 ∷ l) (case_lists_are cs)

switch_is : (head : SwitchHead) (cases : List CaseForm) → switches_of_piece (piece.Switch head cases) ≡ map (λ c. (out-CaseForm c).head.word) cases ∷ each (map (λ c. (switches_of_case c).1) cases)
switch_is head cases =
    ap switches_of_piece (sym (piece.rolls-Switch head cases))
    ∙ fold-roll-Piece (List (List Word)) (Word × List (List Word)) switches_step (λ c. (c.head.word, each c.body)) (P.Switch head cases)
    ∙ ap (λ (l : List Word). l ∷ each (map (λ c. c.1) (map switches_of_case cases))) (case_words_are cases)
    ∙ ap (λ (l : List (List (List Word))). map (λ c. (out-CaseForm c).head.word) cases ∷ each l) (case_lists_are cases)

pub switch_listed : (p : Piece) (head : SwitchHead) (cases xs ys : List CaseForm) (old pushed final : List (List Word)) (words : List Word)
    → p ≡ piece.Switch head cases → xs ≡ cases → ys ≡ cases → words ≡ map (λ c. (out-CaseForm c).head.word) xs → pushed ≡ old ++ words ∷ []
    → final ≡ pushed ++ each (map (λ c. (switches_of_case c).1) ys) → final ≡ old ++ switches_of_piece p
switch_listed p head cases xs ys old pushed final words is ex ey ew ep ef =
    let rest : List CaseForm → List (List Word) = λ cs. each (map (λ c. (switches_of_case c).1) cs) in
    let heads : List CaseForm → List Word = λ cs. map (λ c. (out-CaseForm c).head.word) cs in
    let w : words ≡ heads cases = ew ∙ ap heads ex in
    let q : pushed ≡ old ++ heads cases ∷ [] = ep ∙ ap (λ (l : List Word). old ++ l ∷ []) w in
    let r : rest ys ≡ rest cases = ap rest ey in
    ef ∙ ap (λ (l : List (List Word)). l ++ rest ys) q ∙ ap (λ (l : List (List Word)). (old ++ heads cases ∷ []) ++ l) r
    ∙ append_assoc old (heads cases ∷ []) (rest cases) ∙ ap (λ (l : List (List Word)). old ++ l) (sym (ap switches_of_piece is ∙ switch_is head cases))
