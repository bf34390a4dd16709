-- Texts that divide into pieces, and what one more piece in front of such a text makes of it.
use Rattle.std.proofs.Common.{◌≡◌, ℕ, zero, suc, ◌+◌, ◌-◌, ◌*◌, ◌^◌, ◌<◌, ◌≤◌, Bool, true, false, cond, eqb, not, ◌&&◌, List, [], ◌∷◌, ◌++◌, Option, Some, None, option_map, is_none, length, map, take, refl, sym, ap, ◌∙◌, subst, arith, length-append, eqb-true}
use Rattle.std.proofs.lemmas.List.{take_at, map-append}
use Rattle.std.proofs.lemmas.Bool.Decides.{nat_tests}
use Rattle.std.specs.List.{list_all}
use Rattle.std.specs.Int.{IsInRange}
use Rattle.std.specs.Fmt.{decimal}
use Rattle.std.proofs.lemmas.Fmt.{digits_decimal, digits_value-decimal, decimal_nonempty}
use Rattle.std.proofs.lemmas.Str.Parse.{IsDigitsTest, IsNumeralModel, numerals_by_fold}
use Rattle.sk_tree.specs.declared.shape.Shape.{Shape}
use Rattle.sk_tree.specs.declared.shape.Shape.TheVariants as shape
use Rattle.sk_tree.specs.declared.token.Token.{Token}
use Rattle.sk_tree.specs.declared.token.Kind.{Kind}
use Rattle.sk_tree.specs.declared.token.Kind.TheVariants as kind
use Rattle.sk_tree.specs.declared.token.Mark.{Mark}
use Rattle.sk_tree.specs.declared.token.Mark.TheVariants as mark
use Rattle.sk_tree.specs.Spelling.{key_of, single_mark, double_mark}
use Rattle.sk_tree.specs.Shapes.{is_blank, is_letter, is_digit, is_word_byte, if_all, mark_of, shape_of}
use Rattle.sk_tree.specs.Longest.{Longest, Stands, opens_comment}
use Rattle.sk_tree.specs.Tokens.{IsWithin, IsPiece, Divides, word_kind, token_of, tokens_of, number_from, number_of, greatest_number}

-- the kinds of tokens
abbrev pub kinds : List Token → List Kind
kinds ts = map (λ t. t.kind) ts

-- a text that divides wholly into pieces, with tokens of these kinds
pub record Lexes (text : List ℕ) (ks : List Kind) : Type 0 where
  pub pieces : List (List ℕ)
  pub whole : Divides pieces text []
  pub told : (at : ℕ) → kinds (tokens_of at pieces) ≡ ks

pub lex_end : Lexes [] []
lex_end = record { pieces = []; whole = refl; told = λ at. refl }

-- a piece of this shape in front
lex_piece : (p text : List ℕ) (s : Shape) (ls ks : List Kind) → Stands (p ++ text) s (length p) → IsWithin (Some s) p → ((at : ℕ) → kinds (token_of (Some s) at p) ≡ ls) → Lexes text ks → Lexes (p ++ text) (ls ++ ks)
lex_piece p text s ls ks stands within told l =
    let here : shape_of p ≡ Some s = ap shape_of (sym (take_at p text (length p) refl)) ∙ stands.piece.stands in
    record {
      pieces = p ∷ l.pieces;
      whole = (text, refl, record { shape = s; stands = stands; within = within }, l.whole);
      told = λ at.
          ap (λ o. kinds (token_of o at p ++ tokens_of (at + length p) l.pieces)) here
          ∙ map-append (λ (t : Token). t.kind) (token_of (Some s) at p) (tokens_of (at + length p) l.pieces)
          ∙ (λ i. told at i ++ l.told (at + length p) i);
    }

-- the first byte fails the test, or there is none
abbrev pub stops : (ℕ → Bool) → List ℕ → Bool
stops test [] = true
stops test (b ∷ bs) = not (test b)

not_all_past : (test : ℕ → Bool) (bs text : List ℕ) (m : ℕ) → stops test text ≡ true → length bs < m → m ≤ length (bs ++ text) → list_all test (take m (bs ++ text)) ≡ false
not_all_past test [] [] m ends above within = absurd (omega arith)
not_all_past test [] (c ∷ text) zero ends above within = absurd (omega arith)
not_all_past test [] (c ∷ text) (suc m) ends above within =
    elim (test c) as (λ v. not v ≡ true → (v && list_all test (take m text)) ≡ false) [ true ↦ λ e. cc | false ↦ λ e. refl ] ends
not_all_past test (b ∷ bs) text zero ends above within = absurd (omega arith)
not_all_past test (b ∷ bs) text (suc m) ends above within =
    elim (test b) as (λ v. (v && list_all test (take m (bs ++ text))) ≡ false) [ true ↦ not_all_past test bs text m ends (omega arith) (omega arith) | false ↦ refl ]

-- a run of bytes that pass a test, up to one that doesn't
longest_run : (test : ℕ → Bool) (s : Shape) (b : ℕ) (bs text : List ℕ) → ((xs : List ℕ) → shape_of (b ∷ xs) ≡ if_all test xs s) → list_all test bs ≡ true → stops test text ≡ true → Longest shape_of (b ∷ (bs ++ text)) s (suc (length bs))
longest_run test s b bs text by all ends = record {
  within = omega (arith, length-append bs text);
  stands = by (take (length bs) (bs ++ text)) ∙ ap (λ l. if_all test l s) (take_at bs text (length bs) refl) ∙ ap (λ v. cond v (Some s) None) all;
  longest = past;
}
  where
    past : (m : ℕ) → suc (length bs) < m → m ≤ length (b ∷ (bs ++ text)) → shape_of (take m (b ∷ (bs ++ text))) ≡ None
    past zero above inside = absurd (omega arith)
    past (suc m) above inside = by (take m (bs ++ text)) ∙ ap (λ v. cond v (Some s) None) (not_all_past test bs text m ends (omega arith) (omega arith))

no_comment : (b : ℕ) (bs : List ℕ) (s : Shape) → eqb b 47 ≡ false → opens_comment (b ∷ bs) ≡ true → s ≡ shape.Comment
no_comment b [] s e h = cc
no_comment b (c ∷ bs) s e h = let g : false ≡ true = ap (λ v. v && eqb c 42) (sym e) ∙ h in cc

-- Blanks

blank_shape : (b : ℕ) → is_blank b ≡ true → (xs : List ℕ) → shape_of (b ∷ xs) ≡ if_all is_blank xs shape.Blank
unfolding shape_of
blank_shape b e xs = rw e refl

blank_no_slash : (b : ℕ) → is_blank b ≡ true → eqb b 47 ≡ false
unfolding is_blank
blank_no_slash b e = elim (eqb b 47) as (λ v. eqb b 47 ≡ v → v ≡ false) [ true ↦ λ h. let g = subst (λ n. is_blank n ≡ true) (eqb-true b 47 h) e in cc | false ↦ λ h. refl ] refl

-- a blank by itself, where no blank follows
blank_alone : (b : ℕ) (text : List ℕ) (ks : List Kind) → is_blank b ≡ true → stops is_blank text ≡ true → Lexes text ks → Lexes (b ∷ text) ks
blank_alone b text ks e ends l =
    lex_piece (b ∷ []) text shape.Blank [] ks
    (record { piece = longest_run is_blank shape.Blank b [] text (blank_shape b e) refl ends; comment = no_comment b text shape.Blank (blank_no_slash b e) })
    tt
    (λ at. refl)
    l

pub if_all_is : (test : ℕ → Bool) (xs : List ℕ) (s r : Shape) → if_all test xs s ≡ Some r → s ≡ r
if_all_is test xs s r e = elim (list_all test xs) as (λ v. cond v (Some s) None ≡ Some r → s ≡ r) [ true ↦ λ h. cc | false ↦ λ h. cc ] e

blank_more : (b c : ℕ) (xs : List ℕ) → is_blank b ≡ true → is_blank c ≡ true → shape_of (b ∷ c ∷ xs) ≡ shape_of (c ∷ xs)
blank_more b c xs e f = blank_shape b e (c ∷ xs) ∙ ap (λ v. cond (v && list_all is_blank xs) (Some shape.Blank) None) f ∙ sym (blank_shape c f xs)

-- a blank in front of a blank makes the piece longer
blank_longer : (b c : ℕ) (q after : List ℕ) (ps : List (List ℕ)) (ks : List Kind) → is_blank b ≡ true → is_blank c ≡ true → IsPiece (c ∷ q) (c ∷ (q ++ after)) → Divides ps after [] → ((at : ℕ) → kinds (tokens_of at ((c ∷ q) ∷ ps)) ≡ ks) → Lexes (b ∷ c ∷ (q ++ after)) ks
blank_longer b c q after ps ks e f piece whole told =
    let first : shape_of (c ∷ q) ≡ Some piece.shape = ap (λ l. shape_of (c ∷ l)) (sym (take_at q after (length q) refl)) ∙ piece.stands.piece.stands in
    let blank : shape.Blank ≡ piece.shape = if_all_is is_blank q shape.Blank piece.shape (sym (blank_shape c f q) ∙ first) in
    let all : shape_of (b ∷ c ∷ q) ≡ Some shape.Blank = blank_more b c q e f ∙ first ∙ ap Some (sym blank) in
    let same : shape_of (c ∷ q) ≡ Some shape.Blank = first ∙ ap Some (sym blank) in
    record {
      pieces = (b ∷ c ∷ q) ∷ ps;
      whole = (
        after,
        refl,
        record {
          shape = shape.Blank;
          stands = record { piece = record { within = omega (arith, length-append q after); stands = ap (λ l. shape_of (b ∷ c ∷ l)) (take_at q after (length q) refl) ∙ all; longest = past }; comment = no_comment b (c ∷ (q ++ after)) shape.Blank (blank_no_slash b e) };
          within = tt;
        },
        whole,
      );
      told = λ at.
          let next : at + length (b ∷ c ∷ q) ≡ at + 1 + length (c ∷ q) = omega arith in
          ap (λ o. kinds (token_of o at (b ∷ c ∷ q) ++ tokens_of (at + length (b ∷ c ∷ q)) ps)) all
          ∙ ap (λ n. kinds (tokens_of n ps)) next
          ∙ ap (λ o. kinds (token_of o (at + 1) (c ∷ q) ++ tokens_of (at + 1 + length (c ∷ q)) ps)) (sym same)
          ∙ told (at + 1);
    }
  where
    past : (m : ℕ) → length (b ∷ c ∷ q) < m → m ≤ length (b ∷ c ∷ (q ++ after)) → shape_of (take m (b ∷ c ∷ (q ++ after))) ≡ None
    past zero above inside = absurd (omega arith)
    past (suc zero) above inside = absurd (omega arith)
    past (suc (suc m)) above inside = blank_more b c (take m (q ++ after)) e f ∙ piece.stands.piece.longest (suc m) (omega arith) (omega arith)

blank_on : (b : ℕ) (text : List ℕ) (ps : List (List ℕ)) (ks : List Kind) → is_blank b ≡ true → Divides ps text [] → ((at : ℕ) → kinds (tokens_of at ps) ≡ ks) → Lexes (b ∷ text) ks
unfolding shape_of
blank_on b text [] ks e whole told = subst (λ l. Lexes (b ∷ l) ks) (sym whole) (blank_alone b [] ks e refl (record { pieces = []; whole = refl; told = told }))
blank_on b text ([] ∷ ps) ks e whole told = let none = whole.2.stands.piece.stands in cc
blank_on b text ((c ∷ q) ∷ ps) ks e whole told =
    subst (λ l. Lexes (b ∷ l) ks) (sym whole.1) (go (is_blank c) refl (subst (IsPiece (c ∷ q)) whole.1 whole.2))
  where
    go : (v : Bool) → is_blank c ≡ v → IsPiece (c ∷ q) (c ∷ (q ++ whole.0)) → Lexes (b ∷ c ∷ (q ++ whole.0)) ks
    go true f piece = blank_longer b c q whole.0 ps ks e f piece whole.3 told
    go false f piece = blank_alone b (c ∷ (q ++ whole.0)) ks e (ap not f) (record { pieces = (c ∷ q) ∷ ps; whole = (whole.0, refl, piece, whole.3); told = told })

-- a blank byte in front changes no token
pub lex_blank : (b : ℕ) (text : List ℕ) (ks : List Kind) → is_blank b ≡ true → Lexes text ks → Lexes (b ∷ text) ks
lex_blank b text ks e l = blank_on b text l.pieces ks e l.whole l.told

-- Words

-- the bytes that can be a word
abbrev pub is_word : List ℕ → Bool
is_word [] = false
is_word (b ∷ bs) = is_letter b && list_all is_word_byte bs

letter_no_blank : (b : ℕ) → is_letter b ≡ true → is_blank b ≡ false
unfolding is_letter is_blank
letter_no_blank b e = grind (arith, nat_tests)

letter_no_slash : (b : ℕ) → is_letter b ≡ true → eqb b 47 ≡ false
unfolding is_letter
letter_no_slash b e = elim (eqb b 47) as (λ v. eqb b 47 ≡ v → v ≡ false) [ true ↦ λ h. let g = subst (λ n. is_letter n ≡ true) (eqb-true b 47 h) e in cc | false ↦ λ h. refl ] refl

letter_shape : (b : ℕ) → is_blank b ≡ false → is_letter b ≡ true → (xs : List ℕ) → shape_of (b ∷ xs) ≡ if_all is_word_byte xs shape.Word
unfolding shape_of
letter_shape b e f xs = rw (e, f) refl

-- a word in front of what is no word byte
pub lex_word : (w text : List ℕ) (ks : List Kind) → is_word w ≡ true → stops is_word_byte text ≡ true → Lexes text ks → Lexes (w ++ text) (word_kind (key_of w) w ∷ ks)
lex_word [] text ks word ends l = cc
lex_word (b ∷ bs) text ks word ends l = go (is_letter b) refl word
  where
    go : (v : Bool) → is_letter b ≡ v → (v && list_all is_word_byte bs) ≡ true → Lexes ((b ∷ bs) ++ text) (word_kind (key_of (b ∷ bs)) (b ∷ bs) ∷ ks)
    go false f all = cc
    go true f all =
        lex_piece (b ∷ bs) text shape.Word (word_kind (key_of (b ∷ bs)) (b ∷ bs) ∷ []) ks
        (record { piece = longest_run is_word_byte shape.Word b bs text (letter_shape b (letter_no_blank b f) f) all ends; comment = no_comment b (bs ++ text) shape.Word (letter_no_slash b f) })
        tt
        (λ at. refl)
        l

-- Numbers

digit_no_blank : (b : ℕ) → is_digit b ≡ true → is_blank b ≡ false
unfolding is_digit is_blank
digit_no_blank b e = grind (arith, nat_tests)

digit_no_letter : (b : ℕ) → is_digit b ≡ true → is_letter b ≡ false
unfolding is_digit is_letter
digit_no_letter b e = grind (arith, nat_tests)

digit_no_slash : (b : ℕ) → is_digit b ≡ true → eqb b 47 ≡ false
unfolding is_digit
digit_no_slash b e = elim (eqb b 47) as (λ v. eqb b 47 ≡ v → v ≡ false) [ true ↦ λ h. let g = subst (λ n. is_digit n ≡ true) (eqb-true b 47 h) e in cc | false ↦ λ h. refl ] refl

digit_shape : (b : ℕ) → is_blank b ≡ false → is_letter b ≡ false → is_digit b ≡ true → (xs : List ℕ) → shape_of (b ∷ xs) ≡ if_all is_digit xs shape.Number
unfolding shape_of
digit_shape b e f g xs = rw (e, f, g) refl

abbrev AreDigits : List ℕ → Type 0
AreDigits bs = list_all is_digit bs ≡ true

both : (p q : Bool) → (p && q) ≡ true → (p ≡ true) × (q ≡ true)
both true q e = (refl, e)
both false q e = (cc)

digit_range : (b : ℕ) → is_digit b ≡ true → IsInRange 48 57 b
unfolding is_digit
digit_range b e = grind (arith, nat_tests)

range_digit : (b : ℕ) → IsInRange 48 57 b → is_digit b ≡ true
unfolding is_digit
range_digit b e = grind (arith, nat_tests)

tells_are_digits : IsDigitsTest AreDigits
tells_are_digits = record {
  empty = refl;
  parts = λ c cs e. let h = both (is_digit c) (list_all is_digit cs) e in (digit_range c h.0, h.1);
  more = λ c cs r e. ap (λ v. v && list_all is_digit cs) (range_digit c r) ∙ e;
}

own_digits : IsNumeralModel AreDigits (number_from 0)
own_digits = numerals_by_fold AreDigits tells_are_digits number_from (record { empty = λ n. refl; more = λ n c cs r. let e : 10 * n + (c - 48) ≡ n * 10 + (c - 48) = omega arith in ap (λ k. number_from k cs) e })

number_front : (ds text : List ℕ) (ks : List Kind) → AreDigits ds → 0 < length ds → number_of ds ≤ greatest_number → stops is_digit text ≡ true → Lexes text ks → Lexes (ds ++ text) (kind.Number (number_of ds) ∷ ks)
number_front [] text ks all some within ends l = absurd (omega arith)
number_front (b ∷ bs) text ks all some within ends l =
    let h = both (is_digit b) (list_all is_digit bs) all in
    lex_piece (b ∷ bs) text shape.Number (kind.Number (number_of (b ∷ bs)) ∷ []) ks
    (record { piece = longest_run is_digit shape.Number b bs text (digit_shape b (digit_no_blank b h.0) (digit_no_letter b h.0) h.0) h.1 ends; comment = no_comment b (bs ++ text) shape.Number (digit_no_slash b h.0) })
    within
    (λ at. refl)
    l

decimal_number : (n : ℕ) → n ≤ greatest_number → number_of (decimal n) ≡ n
unfolding number_of
decimal_number n small = digits_value-decimal own_digits n (omega arith)

-- a number in front of what is no digit
pub lex_number : (n : ℕ) (text : List ℕ) (ks : List Kind) → n ≤ greatest_number → stops is_digit text ≡ true → Lexes text ks → Lexes (decimal n ++ text) (kind.Number n ∷ ks)
lex_number n text ks small ends l =
    let is = decimal_number n small in
    let below : n < 2 ^ 64 = omega arith in
    subst (λ k. Lexes (decimal n ++ text) (kind.Number k ∷ ks)) is
    (number_front (decimal n) text ks (digits_decimal own_digits n below) (decimal_nonempty n below) (omega (arith, is)) ends l)

-- Marks

-- the byte that follows makes no mark of two bytes, or there is none
abbrev pub stays : ℕ → List ℕ → Bool
stays b [] = true
stays b (c ∷ bs) = is_none (double_mark b c)

absent : {A : Type 0} (o : Option A) → is_none o ≡ true → o ≡ None
absent None e = refl
absent (Some a) e = cc

longest_one : (b : ℕ) (m : Mark) (text : List ℕ) → ((xs : List ℕ) → shape_of (b ∷ xs) ≡ mark_of b xs) → single_mark b ≡ Some m → stays b text ≡ true → Longest shape_of (b ∷ text) (shape.Mark m) 1
longest_one b m text by one ends = record { within = omega arith; stands = by [] ∙ ap (option_map shape.Mark) one; longest = past text ends }
  where
    past : (text : List ℕ) → stays b text ≡ true → (n : ℕ) → 1 < n → n ≤ length (b ∷ text) → shape_of (take n (b ∷ text)) ≡ None
    past text ends zero above inside = absurd (omega arith)
    past text ends (suc zero) above inside = absurd (omega arith)
    past [] ends (suc (suc n)) above inside = absurd (omega arith)
    past (c ∷ text) ends (suc (suc zero)) above inside = by (c ∷ []) ∙ ap (option_map shape.Mark) (absent (double_mark b c) ends)
    past (c ∷ []) ends (suc (suc (suc n))) above inside = absurd (omega arith)
    past (c ∷ d ∷ text) ends (suc (suc (suc n))) above inside = by (c ∷ d ∷ take n text)

-- a mark of one byte
pub lex_one : (b : ℕ) (m : Mark) (text : List ℕ) (ks : List Kind) → ((xs : List ℕ) → shape_of (b ∷ xs) ≡ mark_of b xs) → single_mark b ≡ Some m → eqb b 47 ≡ false → stays b text ≡ true → Lexes text ks → Lexes (b ∷ text) (kind.Mark m ∷ ks)
lex_one b m text ks by one no_slash ends l =
    lex_piece (b ∷ []) text (shape.Mark m) (kind.Mark m ∷ []) ks
    (record { piece = longest_one b m text by one ends; comment = no_comment b text (shape.Mark m) no_slash })
    tt
    (λ at. refl)
    l

longest_two : (b c : ℕ) (m : Mark) (text : List ℕ) → ((xs : List ℕ) → shape_of (b ∷ xs) ≡ mark_of b xs) → double_mark b c ≡ Some m → Longest shape_of (b ∷ c ∷ text) (shape.Mark m) 2
longest_two b c m text by two = record { within = omega arith; stands = by (c ∷ []) ∙ ap (option_map shape.Mark) two; longest = past text }
  where
    past : (text : List ℕ) → (n : ℕ) → 2 < n → n ≤ length (b ∷ c ∷ text) → shape_of (take n (b ∷ c ∷ text)) ≡ None
    past text zero above inside = absurd (omega arith)
    past text (suc zero) above inside = absurd (omega arith)
    past text (suc (suc zero)) above inside = absurd (omega arith)
    past [] (suc (suc (suc n))) above inside = absurd (omega arith)
    past (d ∷ text) (suc (suc (suc n))) above inside = by (c ∷ d ∷ take n text)

-- a mark of two bytes
pub lex_two : (b c : ℕ) (m : Mark) (text : List ℕ) (ks : List Kind) → ((xs : List ℕ) → shape_of (b ∷ xs) ≡ mark_of b xs) → double_mark b c ≡ Some m → eqb b 47 ≡ false → Lexes text ks → Lexes (b ∷ c ∷ text) (kind.Mark m ∷ ks)
lex_two b c m text ks by two no_slash l =
    lex_piece (b ∷ c ∷ []) text (shape.Mark m) (kind.Mark m ∷ []) ks
    (record { piece = longest_two b c m text by two; comment = no_comment b (c ∷ text) (shape.Mark m) no_slash })
    tt
    (λ at. refl)
    l

-- nothing follows, or a space
abbrev pub stays_slash : List ℕ → Bool
stays_slash [] = true
stays_slash (c ∷ text) = eqb c 32

-- the mark / in front of a space
pub lex_slash : (text : List ℕ) (ks : List Kind) → stays_slash text ≡ true → Lexes text ks → Lexes (47 ∷ text) (kind.Mark mark.Slash ∷ ks)
unfolding shape_of is_blank is_letter is_digit
lex_slash text ks ends l =
    lex_piece (47 ∷ []) text (shape.Mark mark.Slash) (kind.Mark mark.Slash ∷ []) ks
    (record { piece = record { within = omega arith; stands = refl; longest = past text ends }; comment = no text ends })
    tt
    (λ at. refl)
    l
  where
    past : (text : List ℕ) → stays_slash text ≡ true → (n : ℕ) → 1 < n → n ≤ length (47 ∷ text) → shape_of (take n (47 ∷ text)) ≡ None
    past text ends zero above inside = absurd (omega arith)
    past text ends (suc zero) above inside = absurd (omega arith)
    past [] ends (suc (suc n)) above inside = absurd (omega arith)
    past (c ∷ text) ends (suc (suc n)) above inside = let e : 32 ≡ c = sym (eqb-true c 32 ends) in subst (λ b. shape_of (47 ∷ b ∷ take n text) ≡ None) e refl

    no : (text : List ℕ) → stays_slash text ≡ true → opens_comment (47 ∷ text) ≡ true → shape.Mark mark.Slash ≡ shape.Comment
    no [] ends h = cc
    no (c ∷ text) ends h = let e : c ≡ 32 = eqb-true c 32 ends in let g = subst (λ b. opens_comment (47 ∷ b ∷ text) ≡ true) e h in cc
