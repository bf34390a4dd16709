-- What words write, one after another.
use Rattle.std.proofs.Common.{◌≡◌, ◌∙◌, ◌∷◌, ◌++◌, ◌+◌, ◌<◌, ◌≤◌, ◌&&◌, ℕ, suc, Bool, true, false, List, [], length, take, drop, cond, eqb, ltb, refl, sym, ap, arith, append_assoc}
use Rattle.std.specs.Prelude.{Option, Some, None}
use Rattle.std.proofs.lemmas.List.{append-nil}
use Rattle.std.specs.List.{position, position_or_len, slice_split}
use Rattle.std.proofs.lemmas.Bool.{ltb-true, lt-ltb}
use Rattle.std.proofs.lemmas.List.Quantifiers.{position-Some}
use Rattle.std.proofs.lemmas.List.Splits.{slice_split_first, slice_split_none}
use Rattle.std.proofs.lemmas.List.Sums.{fails_before_first}
use Rattle.std.proofs.lemmas.List.Elements.{All-from_get_or}
use Rattle.std.specs.Str.{bytes_eq}
use Rattle.std.specs.Prelude.{codes}
use Rattle.sk_cert.specs.Words.{both, behind}
use Rattle.sk_cert.proofs.Numbers.{cond_some}

-- these in front of those that are found, if some are
abbrev pub gathered : {A : Type 0} → List A → Option (List A) → Option (List A)
gathered vs None = None
gathered vs (Some ws) = Some (vs ++ ws)

pub gathered_none : {A : Type 0} (found : Option (List A)) → found ≡ gathered [] found
gathered_none None = refl
gathered_none (Some ws) = refl

pub gathered_one : {A : Type 0} (vs : List A) (v : A) (found : Option (List A)) → gathered vs (both (Some v) found) ≡ gathered (vs ++ v ∷ []) found
gathered_one vs v None = refl
gathered_one vs v (Some ws) = ap (λ xs. Some xs) (sym (append_assoc vs (v ∷ []) ws))

pub gathered_all : {A : Type 0} (vs : List A) → gathered vs (Some []) ≡ Some vs
gathered_all vs = ap (λ xs. Some xs) (append-nil vs)

pub ruleset steps = (gathered_none, gathered_one, gathered_all)

pub piece_more : (mark at : ℕ) (rest : List ℕ) → position (λ b. eqb b mark) rest ≡ Some at → slice_split (λ b. eqb b mark) rest ≡ take at rest ∷ slice_split (λ b. eqb b mark) (drop (at + 1) rest)
piece_more mark at rest h =
    let p : ℕ → Bool = λ b. eqb b mark in
    let t = cond_some (ltb (position_or_len p rest) (length rest)) (position_or_len p rest) at h in
    slice_split_first p rest 0 (ltb-true (position_or_len p rest) (length rest) t.0)
    ∙ ap (λ n. take n rest ∷ slice_split p (drop (n + 1) rest)) t.1

pub piece_last : (mark : ℕ) (rest : List ℕ) → position (λ b. eqb b mark) rest ≡ None → slice_split (λ b. eqb b mark) rest ≡ rest ∷ []
piece_last mark rest h =
    let p : ℕ → Bool = λ b. eqb b mark in
    let far : length rest ≤ position_or_len p rest = no_place (ltb (position_or_len p rest) (length rest)) refl h in
    slice_split_none p rest (All-from_get_or (λ b. p b ≡ false) rest 0 (λ k below. fails_before_first p rest k 0 (omega arith)))
  where
    no_place : (t : Bool) → ltb (position_or_len (λ b. eqb b mark) rest) (length rest) ≡ t → cond t (Some (position_or_len (λ b. eqb b mark) rest)) None ≡ None → length rest ≤ position_or_len (λ b. eqb b mark) rest
    no_place true e h = absurd (cc)
    no_place false e h = Rattle.std.proofs.lemmas.Bool.ltb-false (position_or_len (λ b. eqb b mark) rest) (length rest) e

pub ruleset pieces = (piece_more, piece_last)

pub place_within : (mark at : ℕ) (text : List ℕ) → position (λ b. eqb b mark) text ≡ Some at → at < length text
place_within mark at text h = (position-Some (λ b. eqb b mark) text at 0 h).0

pub ruleset places = (place_within)

-- a text is its first piece and those of what is left
pub piece_first : (mark at : ℕ) (piece rest text : List ℕ) → piece ≡ take at text → rest ≡ drop (at + 1) text → Some at ≡ position (λ b. eqb b mark) text → slice_split (λ b. eqb b mark) text ≡ piece ∷ slice_split (λ b. eqb b mark) rest
piece_first mark at piece rest text q r s =
    let split : List ℕ → List (List ℕ) = λ bs. slice_split (λ b. eqb b mark) bs in
    piece_more mark at text (sym s)
    ∙ ap (λ t. t ∷ split (drop (at + 1) text)) (sym q)
    ∙ ap (λ t. piece ∷ split t) (sym r)

-- how far it is to the end of what is left
abbrev pub left_of : Option (List ℕ) → ℕ
left_of None = 0
left_of (Some text) = suc (length text)

-- the words of a line of this kind behind its first two, and none of a line that is not of this kind
pub behind_both : (kind first second text : List ℕ) (left : List (List ℕ)) → slice_split (λ b. eqb b 32) text ≡ second ∷ left → cond (bytes_eq first (codes "//@") && bytes_eq second kind) (Some left) None ≡ behind kind (first ∷ slice_split (λ b. eqb b 32) text)
unfolding behind
behind_both kind first second text left h = ap (λ ws. behind kind (first ∷ ws)) (sym h)

pub behind_yes : (kind first second text : List ℕ) (left : List (List ℕ)) → slice_split (λ b. eqb b 32) text ≡ second ∷ left → (bytes_eq first (codes "//@") && bytes_eq second kind) ≡ true → Some left ≡ behind kind (first ∷ slice_split (λ b. eqb b 32) text)
behind_yes kind first second text left h e = sym (ap (λ b. cond b (Some left) None) e) ∙ behind_both kind first second text left h

pub behind_no : (kind first second text : List ℕ) (left : List (List ℕ)) → slice_split (λ b. eqb b 32) text ≡ second ∷ left → (bytes_eq first (codes "//@") && bytes_eq second kind) ≡ false → None ≡ behind kind (first ∷ slice_split (λ b. eqb b 32) text)
behind_no kind first second text left h e = sym (ap (λ b. cond b (Some left) None) e) ∙ behind_both kind first second text left h

-- nor of a line of one word
pub behind_short : (kind line : List ℕ) → None ≡ position (λ b. eqb b 32) line → None ≡ behind kind (slice_split (λ b. eqb b 32) line)
unfolding behind
behind_short kind line h = sym (ap (λ ws. behind kind ws) (piece_last 32 line (sym h)))
