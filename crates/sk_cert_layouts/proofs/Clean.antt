-- Bytes of ASCII without line feeds.
use Rattle.std.proofs.Common.{◌≡◌, ℕ, zero, suc, ◌+◌, ◌<◌, Bool, true, false, not, eqb, List, [], ◌∷◌, ◌++◌, refl, ap, ◌∙◌, arith, eqb-true}
use Rattle.std.specs.Prelude.{◌&&◌, ◌||◌, ◌==◌, ◌/◌, ◌%◌, nat_lt, nat_le, is_none, if◌then◌else◌, codes}
use Rattle.std.specs.Fmt.{decimal, digits, digits_onto, digit_glyph}
use Rattle.std.specs.List.{list_all, flat_map, join_by, repeat}
use Rattle.std.proofs.lemmas.Bool.{and_parts, lt-ltb, leb-true}
use Rattle.sk_tree.specs.Shapes.{is_letter, is_digit, is_word_byte}
use Rattle.sk_tree.specs.Spelling.{key_of}
use Rattle.sk_prog.specs.Fits.{is_word, is_name}

abbrev pub is_clean_byte : ℕ → Bool
is_clean_byte b = nat_lt b 128 && not (b == 10)

-- each byte is of ASCII, and no line feed
pub record Clean (bs : List ℕ) : Type 0 where
  pub each : list_all is_clean_byte bs ≡ true

-- it does not begin with a slash
abbrev pub starts : List ℕ → Bool
starts [] = true
starts (b ∷ bs) = not (b == 47)

pub nothing : Clean []
nothing = record { each = refl }

pub one_more : (b : ℕ) (bs : List ℕ) → is_clean_byte b ≡ true → Clean bs → Clean (b ∷ bs)
one_more b bs h c = record { each = ap (λ t. t && list_all is_clean_byte bs) h ∙ c.each }

pub lit : (bs : List ℕ) → list_all is_clean_byte bs ≡ true → Clean bs
lit bs h = record { each = h }

append : (a b : List ℕ) → list_all is_clean_byte a ≡ true → list_all is_clean_byte b ≡ true → list_all is_clean_byte (a ++ b) ≡ true
append [] b h k = k
append (x ∷ a) b h k =
    let hs = and_parts (is_clean_byte x) (list_all is_clean_byte a) h in
    ap (λ t. t && list_all is_clean_byte (a ++ b)) hs.0 ∙ append a b hs.1 k

infixl 5 ◌▹◌
pub ◌▹◌ : {a b : List ℕ} → Clean a → Clean b → Clean (a ++ b)
◌▹◌ {a} {b} h k = record { each = append a b h.each k.each }

-- it begins, and with no slash
pub record Opens (bs : List ℕ) : Type 0 where
  pub first : ℕ
  pub rest : List ℕ
  pub is : bs ≡ first ∷ rest
  pub other : not (first == 47) ≡ true

pub opens_later : {a : List ℕ} (b : List ℕ) → Opens a → Opens (a ++ b)
opens_later b h = record { first = h.first; rest = h.rest ++ b; is = ap (λ a. a ++ b) h.is; other = h.other }

pub opens_spaced : (a : List ℕ) → starts a ≡ true → Opens (a ++ codes " ")
opens_spaced [] h = record { first = 32; rest = []; is = refl; other = refl }
opens_spaced (b ∷ bs) h = record { first = b; rest = bs ++ codes " "; is = refl; other = h }

pub opens_starts : {bs : List ℕ} → Opens bs → starts bs ≡ true
opens_starts h = ap starts h.is ∙ h.other

pub starts_append : (a b : List ℕ) → starts a ≡ true → starts b ≡ true → starts (a ++ b) ≡ true
starts_append [] b h k = k
starts_append (x ∷ a) b h k = h

-- Texts one after another

abbrev pub AllClean : {A : Type 0} → (A → List ℕ) → List A → Type 0
AllClean f [] = Unit {0}
AllClean f (x ∷ xs) = Clean (f x) × AllClean f xs

behind : {A : Type 0} (f : A → List ℕ) (sep : List ℕ) (xs : List A) → Clean sep → AllClean f xs → Clean (flat_map (λ y. sep ++ f y) xs)
behind f sep [] s h = nothing
behind f sep (x ∷ xs) s h = (s ▹ h.0) ▹ behind f sep xs s h.1

pub joined : {A : Type 0} (f : A → List ℕ) (sep : List ℕ) (xs : List A) → Clean sep → AllClean f xs → Clean (join_by f sep xs)
joined f sep [] s h = nothing
joined f sep (x ∷ xs) s h = h.0 ▹ behind f sep xs s h.1

pub indented : (n : ℕ) → Clean (repeat n (codes "    "))
indented zero = nothing
indented (suc n) = lit (codes "    ") refl ▹ indented n

-- Bytes

no_feed : (b : ℕ) → 10 < b → (b == 10) ≡ false
no_feed b h = elim (eqb b 10) as (λ v. eqb b 10 ≡ v → v ≡ false) [ true ↦ λ e. (let same = eqb-true b 10 e in absurd (omega (arith, same, h))) | false ↦ λ e. refl ] refl

no_slash : (b : ℕ) → 47 < b → not (b == 47) ≡ true
no_slash b h = elim (eqb b 47) as (λ v. eqb b 47 ≡ v → not v ≡ true) [ true ↦ λ e. (let same = eqb-true b 47 e in absurd (omega (arith, same, h))) | false ↦ λ e. refl ] refl

between : (b : ℕ) → 10 < b → b < 128 → is_clean_byte b ≡ true
between b low high = ap (λ t. t && not (b == 10)) (lt-ltb b 128 high) ∙ ap not (no_feed b low)

either : {P : Type 0} (a b : Bool) → (a || b) ≡ true → (a ≡ true → P) → (b ≡ true → P) → P
either true b h f g = f refl
either false b h f g = g h

-- a byte of these is above a slash and below the end of ASCII
record Within (b : ℕ) : Type 0 where
  above : 47 < b
  below : b < 128

of_range : (b low high : ℕ) → 47 < low → high < 128 → (nat_le low b && nat_le b high) ≡ true → Within b
of_range b low high l h e =
    let p = and_parts (nat_le low b) (nat_le b high) e in
    let from = leb-true low b p.0 in
    let to = leb-true b high p.1 in
    record { above = omega (arith, from, l); below = omega (arith, to, h) }

letter_within : (b : ℕ) → is_letter b ≡ true → Within b
unfolding is_letter
letter_within b h =
    let small : (nat_le 97 b && nat_le b 122) ≡ true → Within b = λ e. of_range b 97 122 (omega arith) (omega arith) e in
    let large : (nat_le 65 b && nat_le b 90) ≡ true → Within b = λ e. of_range b 65 90 (omega arith) (omega arith) e in
    let line : (b == 95) ≡ true → Within b = λ e. (let same = eqb-true b 95 e in record { above = omega (arith, same); below = omega (arith, same) }) in
    either ((nat_le 97 b && nat_le b 122) || (nat_le 65 b && nat_le b 90)) (b == 95) h (λ e. either (nat_le 97 b && nat_le b 122) (nat_le 65 b && nat_le b 90) e small large) line

digit_within : (b : ℕ) → is_digit b ≡ true → Within b
unfolding is_digit
digit_within b h = of_range b 48 57 (omega arith) (omega arith) h

within_clean : (b : ℕ) → Within b → is_clean_byte b ≡ true
within_clean b w = let above = w.above in between b (omega (arith, above)) w.below

word_byte : (b : ℕ) → is_word_byte b ≡ true → is_clean_byte b ≡ true
word_byte b h = either (is_letter b) (is_digit b) h (λ e. within_clean b (letter_within b e)) (λ e. within_clean b (digit_within b e))

word_bytes : (bs : List ℕ) → list_all is_word_byte bs ≡ true → Clean bs
word_bytes [] h = nothing
word_bytes (b ∷ bs) h =
    let hs = and_parts (is_word_byte b) (list_all is_word_byte bs) h in
    one_more b bs (word_byte b hs.0) (word_bytes bs hs.1)

-- Names and numbers

pub name_clean : (x : List ℕ) → is_name x ≡ true → Clean x
name_clean [] h = nothing
name_clean (b ∷ bs) h =
    let word = and_parts (is_letter b) (list_all is_word_byte bs) (and_parts (is_word (b ∷ bs)) (is_none (key_of (b ∷ bs))) h).0 in
    one_more b bs (within_clean b (letter_within b word.0)) (word_bytes bs word.1)

pub name_starts : (x : List ℕ) → is_name x ≡ true → starts x ≡ true
name_starts [] h = refl
name_starts (b ∷ bs) h =
    let word = and_parts (is_letter b) (list_all is_word_byte bs) (and_parts (is_word (b ∷ bs)) (is_none (key_of (b ∷ bs))) h).0 in
    no_slash b (letter_within b word.0).above

glyph : (d : ℕ) → d < 10 → is_clean_byte (digit_glyph false d) ≡ true
glyph d h = ap (λ t. is_clean_byte (if t then 48 + d else 87 + d)) (lt-ltb d 10 h) ∙ between (48 + d) (omega arith) (omega (arith, h))

digits_clean : (k n : ℕ) (acc : List ℕ) → Clean acc → Clean (digits_onto k 10 false n acc)
digits_clean zero n acc h = h
digits_clean (suc k) n acc h =
    let low : n % 10 < 10 = omega arith in
    let more : Clean (digit_glyph false (n % 10) ∷ acc) = one_more (digit_glyph false (n % 10)) acc (glyph (n % 10) low) h in
    by (n / 10 == 0) more (digits_clean k (n / 10) (digit_glyph false (n % 10) ∷ acc) more)
  where
    by : (t : Bool) → Clean (digit_glyph false (n % 10) ∷ acc) → Clean (digits_onto k 10 false (n / 10) (digit_glyph false (n % 10) ∷ acc)) → Clean (if t then digit_glyph false (n % 10) ∷ acc else digits_onto k 10 false (n / 10) (digit_glyph false (n % 10) ∷ acc))
    by true here there = here
    by false here there = there

pub number : (n : ℕ) → Clean (decimal n)
unfolding digits
number n = digits_clean 64 n [] nothing
