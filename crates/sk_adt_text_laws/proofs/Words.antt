-- The words that are made for a plain form are names, and so is each word of the plain form of a text.
use Rattle.std.proofs.Common.{◌≡◌, ℕ, zero, suc, ◌<◌, ◌≤◌, Bool, true, false, List, [], ◌∷◌, ◌++◌, Some, None, refl, ap, ◌∙◌, arith, append_assoc}
use Rattle.std.specs.Prelude.{Ok, ◌/◌, ◌%◌, ◌==◌, nat_le, ◌&&◌, ◌||◌, not, is_none, codes, if◌then◌else◌}
use Rattle.std.specs.List.{list_all}
use Rattle.std.specs.Str.{bytes_eq}
use Rattle.std.specs.Fmt.{decimal, digits, digits_onto, digit_glyph}
use Rattle.std.proofs.lemmas.Bool.{leb-true, ne_eqb}
use Rattle.std.proofs.lemmas.List.Folds.{list_all-append}
use Rattle.sk_tree.specs.declared.token.Token.{Token}
use Rattle.sk_tree.specs.declared.token.Key.TheVariants as key
use Rattle.sk_tree.specs.Spelling.{key_of}
use Rattle.sk_tree.specs.Shapes.{is_letter, is_digit, is_word_byte}
use Rattle.sk_tree.specs.Tokens.{AreTokens}
use Rattle.sk_prog.specs.Fits.{is_word, is_name}
use Rattle.sk_types_laws.proofs.Ats.{both_true, both}
use Rattle.sk_front_laws.proofs.Words.{kind_named, named, tokens_named}
use Rattle.sk_adt.specs.declared.algebraic.Lowered.{Lowered}
use Rattle.sk_adt.specs.Branches.{made_name}
use Rattle.sk_adt.specs.Lowering.{lowered}
use Rattle.sk_adt_laws.specs.Plain.{is_plain}
use Rattle.sk_adt_laws.proofs.Read.{Makes, Old}
use Rattle.sk_adt_laws.proofs.Built.{form_few}

-- Numbers

-- digits, and one at least
record IsNumber (bs : List ℕ) : Type 0 where
  first : ℕ
  rest : List ℕ
  is : bs ≡ first ∷ rest
  digit : is_digit first ≡ true
  digits : list_all is_digit rest ≡ true

glyph_is : (n : ℕ) → n < 10 → is_digit (digit_glyph false n) ≡ true
unfolding is_digit
glyph_is zero h = refl
glyph_is (suc zero) h = refl
glyph_is (suc (suc zero)) h = refl
glyph_is (suc (suc (suc zero))) h = refl
glyph_is (suc (suc (suc (suc zero)))) h = refl
glyph_is (suc (suc (suc (suc (suc zero))))) h = refl
glyph_is (suc (suc (suc (suc (suc (suc zero)))))) h = refl
glyph_is (suc (suc (suc (suc (suc (suc (suc zero))))))) h = refl
glyph_is (suc (suc (suc (suc (suc (suc (suc (suc zero)))))))) h = refl
glyph_is (suc (suc (suc (suc (suc (suc (suc (suc (suc zero))))))))) h = refl
glyph_is (suc (suc (suc (suc (suc (suc (suc (suc (suc (suc n)))))))))) h = absurd (omega (arith, h))

abbrev last_glyph : ℕ → ℕ
last_glyph n = digit_glyph false (n % 10)

last_is : (n : ℕ) → is_digit (last_glyph n) ≡ true
last_is n = glyph_is (n % 10) (omega arith)

ends : (n : ℕ) (acc : List ℕ) → list_all is_digit acc ≡ true → IsNumber (last_glyph n ∷ acc)
ends n acc h = record { first = last_glyph n; rest = acc; is = refl; digit = last_is n; digits = h }

-- at most so many digits and one more, before those that follow
onto_is : (k n : ℕ) (acc : List ℕ) → list_all is_digit acc ≡ true → IsNumber (digits_onto (suc k) 10 false n acc)
onto_is zero n acc h = go (n / 10 == 0)
  where
    go : (c : Bool) → IsNumber (if c then last_glyph n ∷ acc else digits_onto zero 10 false (n / 10) (last_glyph n ∷ acc))
    go true = ends n acc h
    go false = ends n acc h
onto_is (suc k) n acc h = go (onto_is k (n / 10) (last_glyph n ∷ acc) (both (is_digit (last_glyph n)) (list_all is_digit acc) (last_is n) h)) (n / 10 == 0)
  where
    go : IsNumber (digits_onto (suc k) 10 false (n / 10) (last_glyph n ∷ acc)) → (c : Bool) → IsNumber (if c then last_glyph n ∷ acc else digits_onto (suc k) 10 false (n / 10) (last_glyph n ∷ acc))
    go more true = ends n acc h
    go more false = more

decimal_is : (n : ℕ) → IsNumber (decimal n)
unfolding digits
decimal_is n = onto_is 63 n [] refl

-- Made names

word_digit : (b : ℕ) → is_digit b ≡ true → is_word_byte b ≡ true
word_digit b h = go (is_letter b) (is_digit b) h
  where
    go : (a c : Bool) → c ≡ true → (a || c) ≡ true
    go true c e = refl
    go false c e = e

word_digits : (bs : List ℕ) → list_all is_digit bs ≡ true → list_all is_word_byte bs ≡ true
word_digits [] h = refl
word_digits (b ∷ bs) h = let k = both_true (is_digit b) (list_all is_digit bs) h in both (is_word_byte b) (list_all is_word_byte bs) (word_digit b k.0) (word_digits bs k.1)

number_word : (bs : List ℕ) → IsNumber bs → list_all is_word_byte bs ≡ true
number_word bs h = ap (list_all is_word_byte) h.is ∙ word_digits (h.first ∷ h.rest) (both (is_digit h.first) (list_all is_digit h.rest) h.digit h.digits)

-- no keyword begins with `v` and a digit
digit_not : (b : ℕ) → is_digit b ≡ true → (b == 111) ≡ false
unfolding is_digit
digit_not b h = ne_eqb b 111 (λ e. let low : b ≤ 57 = leb-true b 57 (both_true (nat_le 48 b) (nat_le b 57) h).1 in omega (arith, low, e))

no_key : (b : ℕ) (bs : List ℕ) → (b == 111) ≡ false → key_of (118 ∷ b ∷ bs) ≡ None
unfolding key_of
no_key b bs h = ap (λ c. if c && bytes_eq bs (codes "id") then Some key.Void else None) h

named_by : (ds es : List ℕ) → IsNumber ds → IsNumber es → is_name (codes "v" ++ (ds ++ (codes "f" ++ es))) ≡ true
unfolding is_letter
named_by ds es h k =
    let bytes : List ℕ = ds ++ (codes "f" ++ es) in
    let words : list_all is_word_byte bytes ≡ true = list_all-append is_word_byte ds (codes "f" ++ es) ∙ both (list_all is_word_byte ds) (list_all is_word_byte es) (number_word ds h) (number_word es k) in
    let none : key_of (118 ∷ bytes) ≡ None = ap (λ bs. key_of (118 ∷ (bs ++ (codes "f" ++ es)))) h.is ∙ no_key h.first (h.rest ++ (codes "f" ++ es)) (digit_not h.first h.digit) in
    both (is_word (118 ∷ bytes)) (is_none (key_of (118 ∷ bytes))) words (ap is_none none)

made_named : (i j : ℕ) → is_name (made_name i j) ≡ true
made_named i j = ap (λ bs. is_name (codes "v" ++ bs)) (append_assoc (decimal i) (codes "f") (decimal j)) ∙ named_by (decimal i) (decimal j) (decimal_is i) (decimal_is j)

tag_named : is_name (codes "tag") ≡ true
unfolding is_letter is_digit key_of
tag_named = refl

makes_names : Makes kind_named
makes_names = record { sign = λ m. refl; number = λ n. refl; keyword = λ k h. refl; tag = tag_named; field = made_named }

-- Texts

old_named : (ts : List Token) → named ts ≡ true → Old kind_named ts
old_named [] h = refl
old_named (t ∷ ts) h =
    let k = both_true (kind_named t.kind) (named ts) h in
    both _ _ (go (is_plain t.kind) (kind_named t.kind) k.0) (old_named ts k.1)
  where
    go : (a b : Bool) → b ≡ true → (not a || b) ≡ true
    go true b e = e
    go false b e = refl

-- each word of the plain form of a text is a name
pub plain_named : (text : List ℕ) (tokens : List Token) (form : Lowered) → AreTokens text tokens → lowered tokens ≡ Ok form → named form.tokens ≡ true
plain_named text tokens form lexed is = (form_few kind_named makes_names tokens form (old_named tokens (tokens_named text tokens lexed)) is).0
