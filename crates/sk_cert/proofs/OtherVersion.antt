-- Lines of another version.
use Rattle.std.proofs.Common.{◌≡◌, ◌≢◌, ◌∙◌, ◌++◌, ◌∷◌, ◌<◌, ◌+◌, ◌&&◌, not, ℕ, Bool, true, false, List, [], length, take, drop, refl, sym, ap, subst, arith, cond, eqb, ltb, leb, inl, inr, append_assoc}
use Rattle.std.specs.Prelude.{Option, Some, None, All, codes, ◌⊎◌}
use Rattle.std.specs.Str.{bytes_eq, all_ascii_digits}
use Rattle.std.specs.Char.{is_ascii_digit}
use Rattle.std.specs.List.{position, position_or_len}
use Rattle.std.proofs.lemmas.Bool.{ne_eqb, leb-true, le-ltb}
use Rattle.std.proofs.lemmas.List.{append-nil, take-append-drop, take_at}
use Rattle.std.proofs.lemmas.List.Elements.{All-nil, All-cons, All-head, All-tail, All-append}
use Rattle.std.proofs.lemmas.Slice.Eq.{bytes_eq-Decides}
use Rattle.sk_cert.specs.Words.{is_numeral}
use Rattle.sk_cert.specs.Certificates.{marked}
use Rattle.sk_cert.specs.Readers.{is_feed}
use Rattle.sk_cert.specs.Departing.{IsOtherVersion}
use Rattle.sk_cert.specs.Steps.{line_before, first_line, is_other_number, is_other_version}
use Rattle.sk_cert.proofs.Exact.{IsLine}
use Rattle.sk_cert.proofs.OneLine.{position_line, line_found}
use Rattle.sk_cert.proofs.Numbers.{both_true}
use Rattle.sk_cert.proofs.Pieces.{high_not}
use Rattle.sk_cert.proofs.Marks.{same_bytes, line_by}

-- Numerals have no line feed

digit_high : (c : ℕ) → is_ascii_digit c ≡ true → 31 < c
digit_high c e = let t = both_true (leb 48 c) (leb c 57) e in let l = leb-true 48 c t.0 in omega arith

digits_high : (w : List ℕ) → all_ascii_digits w ≡ true → All (λ b. 31 < b) w
digits_high [] h = All-nil (λ b. 31 < b)
digits_high (c ∷ cs) h =
    let k = both_true (is_ascii_digit c) (all_ascii_digits cs) h in
    All-cons (λ b. 31 < b) c cs (digit_high c k.0) (digits_high cs k.1)

numeral_digits : (w : List ℕ) → is_numeral w ≡ true → all_ascii_digits w ≡ true
unfolding is_numeral
numeral_digits [] h = refl
numeral_digits (c ∷ []) h = ap (λ b. b && true) h
numeral_digits (c ∷ d ∷ ds) h = (both_true (not (eqb c 48)) (all_ascii_digits (c ∷ d ∷ ds)) h).1

numeral_line : (w : List ℕ) → is_numeral w ≡ true → IsLine w
numeral_line w h = high_not 10 31 w (omega arith) (digits_high w (numeral_digits w h))

-- A line without a line feed is its own first line.

feed_past : (line : List ℕ) → IsLine line → position_or_len is_feed line ≡ length line
feed_past [] h = refl
feed_past (b ∷ bs) h =
    let e : eqb b 10 ≡ false = ne_eqb b 10 (All-head (λ c. c ≢ 10) b bs h) in
    let t : position_or_len is_feed bs ≡ length bs = feed_past bs (All-tail (λ c. c ≢ 10) b bs h) in
    rw e (omega arith)

no_place : (line : List ℕ) → IsLine line → position is_feed line ≡ None
no_place line h =
    ap (λ k. cond (ltb k (length line)) (Some k) None) (feed_past line h)
    ∙ ap (λ b. cond b (Some (length line)) None) (le-ltb (length line) (length line) (omega arith))

alone : (line : List ℕ) → IsLine line → first_line line ≡ line
alone line h = ap (λ o. line_before o line) (no_place line h)

in_front : (line behind : List ℕ) → IsLine line → first_line (line ++ 10 ∷ behind) ≡ line
in_front line behind h = ap (λ o. line_before o (line ++ 10 ∷ behind)) (position_line line behind h) ∙ take_at line (10 ∷ behind) (length line) refl

-- The line

abbrev head : List ℕ
head = codes "//@ certificate "

abbrev other_line : List ℕ → List ℕ
other_line number = marked (codes "certificate") (number ∷ [])

line_is : (number : List ℕ) → other_line number ≡ head ++ number
line_is number = ap (λ t. head ++ t) (append-nil number)

line_clean : (number : List ℕ) → is_numeral number ≡ true → IsLine (other_line number)
line_clean number h = subst IsLine (sym (line_is number)) (All-append (λ b. b ≢ 10) head number (line_by head refl) (numeral_line number h))

record IsOtherNumber (number : List ℕ) : Type 0 where
  digits : is_numeral number ≡ true
  not_one : number ≢ codes "1"
  not_two : number ≢ codes "2"

not_bytes : (a b : List ℕ) → not (bytes_eq a b) ≡ true → a ≢ b
not_bytes a b h e = clash (bytes_eq a b) ((bytes_eq-Decides a b).1 e) h
  where
    clash : (t : Bool) → t ≡ true → not t ≡ true → ⊥
    clash true e k = cc
    clash false e k = cc

bytes_not : (a b : List ℕ) → a ≢ b → not (bytes_eq a b) ≡ true
bytes_not a b h = from (bytes_eq a b) refl
  where
    from : (t : Bool) → bytes_eq a b ≡ t → not t ≡ true
    from true e = absurd (h (same_bytes a b e))
    from false e = refl

number_is : (number : List ℕ) → is_other_number number ≡ true → IsOtherNumber number
number_is number h =
    let k = both_true (is_numeral number) (not (bytes_eq number (codes "1")) && not (bytes_eq number (codes "2"))) h in
    let t = both_true (not (bytes_eq number (codes "1"))) (not (bytes_eq number (codes "2"))) k.1 in
    record { digits = k.0; not_one = not_bytes number (codes "1") t.0; not_two = not_bytes number (codes "2") t.1 }

all_true : (a b c : Bool) → a ≡ true → b ≡ true → c ≡ true → (a && (b && c)) ≡ true
all_true a b c h k l = ap (λ t. t && (b && c)) h ∙ ap (λ t. t && c) k ∙ l

number_by : (number : List ℕ) → IsOtherNumber number → is_other_number number ≡ true
number_by number h = all_true _ _ _ h.digits (bytes_not number (codes "1") h.not_one) (bytes_not number (codes "2") h.not_two)

version_is : (line : List ℕ) → is_other_version line ≡ true → (line ≡ other_line (drop 16 line)) × IsOtherNumber (drop 16 line)
unfolding is_other_version
version_is line h =
    let k = both_true (bytes_eq (take 16 line) head) (is_other_number (drop 16 line)) h in
    (sym (take-append-drop 16 line) ∙ ap (λ t. t ++ drop 16 line) (same_bytes (take 16 line) head k.0) ∙ sym (line_is (drop 16 line)), number_is (drop 16 line) k.1)

version_by : (number : List ℕ) → IsOtherNumber number → is_other_version (head ++ number) ≡ true
unfolding is_other_version
version_by number h = number_by number h

-- What is left of a text

pub other_is : (left : List ℕ) → is_other_version (first_line left) ≡ true → IsOtherVersion left
other_is left h = from (position is_feed left) refl (version_is (first_line left) h)
  where
    from : (o : Option ℕ) → position is_feed left ≡ o → (first_line left ≡ other_line (drop 16 (first_line left))) × IsOtherNumber (drop 16 (first_line left)) → IsOtherVersion left
    from None e v =
        let f : first_line left ≡ left = ap (λ o. line_before o left) e in
        record { number = drop 16 (first_line left); digits = v.1.digits; not_one = v.1.not_one; not_two = v.1.not_two; behind = []; is = inl (sym f ∙ v.0) }
    from (Some i) e v =
        let f : first_line left ≡ take i left = ap (λ o. line_before o left) e in
        let b : List ℕ = drop (i + 1) left in
        record { number = drop 16 (first_line left); digits = v.1.digits; not_one = v.1.not_one; not_two = v.1.not_two; behind = b; is = inr ((line_found left i e).is ∙ ap (λ t. t ++ 10 ∷ b) (sym f ∙ v.0) ∙ feed_behind (drop 16 (first_line left)) b) }
      where
        feed_behind : (number behind : List ℕ) → other_line number ++ 10 ∷ behind ≡ other_line number ++ codes "\n" ++ behind
        feed_behind number behind = sym (append_assoc (other_line number) (10 ∷ []) behind)

pub other_by : (left : List ℕ) → IsOtherVersion left → is_other_version (first_line left) ≡ true
other_by left h = from h.is
  where
    clean : IsLine (other_line h.number)
    clean = line_clean h.number h.digits

    fine : is_other_version (other_line h.number) ≡ true
    fine = ap is_other_version (line_is h.number) ∙ version_by h.number (record { digits = h.digits; not_one = h.not_one; not_two = h.not_two })

    from : (left ≡ other_line h.number) ⊎ (left ≡ other_line h.number ++ codes "\n" ++ h.behind) → is_other_version (first_line left) ≡ true
    from (inl e) = ap is_other_version (ap first_line e ∙ alone (other_line h.number) clean) ∙ fine
    from (inr e) = ap is_other_version (ap first_line (e ∙ append_assoc (other_line h.number) (10 ∷ []) h.behind) ∙ in_front (other_line h.number) h.behind clean) ∙ fine
