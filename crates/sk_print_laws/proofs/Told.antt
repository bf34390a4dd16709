-- Texts that tell kinds: what stands behind them divides into more kinds. Some do so wherever a text goes on without
-- a byte of a word, others always.
use Rattle.std.proofs.Common.{◌≡◌, ℕ, ◌+◌, ◌-◌, ◌*◌, ◌^◌, ◌<◌, Bool, true, false, cond, eqb, not, ◌&&◌, ◌||◌, List, [], ◌∷◌, ◌++◌, map, length, Option, Some, None, is_none, refl, sym, ap, ◌∙◌, subst, arith, append_assoc, codes}
use Rattle.std.specs.List.{list_all, flat_map, join_by}
use Rattle.std.specs.Int.{IsInRange}
use Rattle.std.specs.Fmt.{decimal}
use Rattle.std.proofs.lemmas.Bool.{and_parts}
use Rattle.std.proofs.lemmas.Bool.Decides.{nat_tests}
use Rattle.std.proofs.lemmas.Fmt.{digits_decimal, decimal_nonempty}
use Rattle.std.proofs.lemmas.Str.Parse.{IsDigitsTest, IsNumeralModel, numerals_by_fold}
use Rattle.sk_tree.specs.declared.token.Kind.{Kind}
use Rattle.sk_tree.specs.declared.token.Kind.TheVariants as kind
use Rattle.sk_tree.specs.declared.token.Mark.{Mark}
use Rattle.sk_tree.specs.declared.token.Mark.TheVariants as mark
use Rattle.sk_tree.specs.declared.token.Key.{Key}
use Rattle.sk_tree.specs.Spelling.{key_of, single_mark, double_mark}
use Rattle.sk_tree.specs.Shapes.{is_blank, is_letter, is_digit, is_word_byte, mark_of, shape_of}
use Rattle.sk_tree.specs.Tokens.{word_kind, number_from}
use Rattle.sk_tree.specs.Spell.{Kinds, ◌▹◌, behind, between, word, number, sign, keyword}
use Rattle.sk_prog.specs.Fits.{is_word, is_name}
use Rattle.sk_print.specs.Layout.{minus_gap}
use Rattle.sk_print.proofs.Lexed.{Lexes, stops, stays, lex_blank, lex_word, lex_number, lex_one, lex_two}
use Rattle.sk_print_laws.specs.Numbers.{is_small}

-- whatever follows
pub record Free (bs : List ℕ) (ks : Kinds) : Type 0 where
  pub told : (text : List ℕ) (more : List Kind) → Lexes text more → Lexes (bs ++ text) (ks ++ more)

-- where no byte of a word follows
pub record Told (bs : List ℕ) (ks : Kinds) : Type 0 where
  pub told : (text : List ℕ) (more : List Kind) → stops is_word_byte text ≡ true → Lexes text more → Lexes (bs ++ text) (ks ++ more)

-- some byte is there, and the first is none of a word
abbrev pub parts : List ℕ → Bool
parts [] = false
parts (b ∷ bs) = not (is_word_byte b)

regroup : (a b text : List ℕ) (ks ls more : List Kind) → Lexes (a ++ (b ++ text)) (ks ++ (ls ++ more)) → Lexes ((a ++ b) ++ text) ((ks ++ ls) ++ more)
regroup a b text ks ls more l = subst (λ z. Lexes z ((ks ++ ls) ++ more)) (sym (append_assoc a b text)) (subst (λ z. Lexes (a ++ (b ++ text)) z) (sym (append_assoc ks ls more)) l)

ends_stop : (b text : List ℕ) → stops is_word_byte b ≡ true → stops is_word_byte text ≡ true → stops is_word_byte (b ++ text) ≡ true
ends_stop [] text h ends = ends
ends_stop (c ∷ b) text h ends = h

parts_stop : (b text : List ℕ) → parts b ≡ true → stops is_word_byte (b ++ text) ≡ true
parts_stop [] text h = cc
parts_stop (c ∷ b) text h = h

pub nothing : Free [] []
nothing = record { told = λ text more l. l }

pub told : {a : List ℕ} {ks : Kinds} → Free a ks → Told a ks
told f = record { told = λ text more ends l. f.told text more l }

pub same : {a b : List ℕ} {ks ls : Kinds} → b ≡ a → ls ≡ ks → Free a ks → Free b ls
same {a = a} {ls = ls} e f h = subst (λ x. Free x ls) (sym e) (subst (λ x. Free a x) (sym f) h)

pub told_same : {a b : List ℕ} {ks ls : Kinds} → b ≡ a → ls ≡ ks → Told a ks → Told b ls
told_same {a = a} {ls = ls} e f h = subst (λ x. Told x ls) (sym e) (subst (λ x. Told a x) (sym f) h)

-- one after another
pub then : {a b : List ℕ} {ks ls : Kinds} → Free a ks → Free b ls → Free (a ++ b) (ks ++ ls)
then {a = a} {b = b} {ks = ks} {ls = ls} f g = record { told = λ text more l. regroup a b text ks ls more (f.told (b ++ text) (ls ++ more) (g.told text more l)) }

pub then_told : {a b : List ℕ} {ks ls : Kinds} → Free a ks → Told b ls → Told (a ++ b) (ks ++ ls)
then_told {a = a} {b = b} {ks = ks} {ls = ls} f g = record { told = λ text more ends l. regroup a b text ks ls more (f.told (b ++ text) (ls ++ more) (g.told text more ends l)) }

pub told_then : {a b : List ℕ} {ks ls : Kinds} → Told a ks → Free b ls → parts b ≡ true → Free (a ++ b) (ks ++ ls)
told_then {a = a} {b = b} {ks = ks} {ls = ls} f g h = record { told = λ text more l. regroup a b text ks ls more (f.told (b ++ text) (ls ++ more) (parts_stop b text h) (g.told text more l)) }

pub told_told : {a b : List ℕ} {ks ls : Kinds} → Told a ks → Told b ls → stops is_word_byte b ≡ true → Told (a ++ b) (ks ++ ls)
told_told {a = a} {b = b} {ks = ks} {ls = ls} f g h = record { told = λ text more ends l. regroup a b text ks ls more (f.told (b ++ text) (ls ++ more) (ends_stop b text h ends) (g.told text more ends l)) }

-- Blanks

pub space : Free (codes " ") []
unfolding is_blank
space = record { told = λ text more l. lex_blank 32 text more refl l }

pub line_feed : Free (codes "\n") []
unfolding is_blank
line_feed = record { told = λ text more l. lex_blank 10 text more refl l }

-- Words and numbers

name_kind : (x : List ℕ) (o : Option Key) → is_none o ≡ true → word_kind o x ≡ kind.Word x
name_kind x None h = refl
name_kind x (Some k) h = cc

pub name : (x : List ℕ) → is_name x ≡ true → Told x (word x)
name x h =
    let is = and_parts (is_word x) (is_none (key_of x)) h in
    record { told = λ text more ends l. subst (λ k. Lexes (x ++ text) (k ∷ more)) (name_kind x (key_of x) is.1) (lex_word x text more is.0 ends l) }

digit_stops : (text : List ℕ) → stops is_word_byte text ≡ true → stops is_digit text ≡ true
digit_stops [] h = refl
digit_stops (b ∷ text) h = go (is_letter b) (is_digit b) h
  where
    go : (l d : Bool) → not (l || d) ≡ true → not d ≡ true
    go true d e = cc
    go false d e = e

pub number_told : (n : ℕ) → is_small n ≡ true → Told (decimal n) (number n)
number_told n h = record { told = λ text more ends l. lex_number n text more (grind (arith, nat_tests)) (digit_stops text ends) l }

-- a keyword, by its bytes
pub key_told : (k : Key) (x : List ℕ) → is_word x ≡ true → key_of x ≡ Some k → Told x (keyword k)
key_told k x is e = record { told = λ text more ends l. subst (λ o. Lexes (x ++ text) (word_kind o x ∷ more)) e (lex_word x text more is ends l) }

-- a keyword in front of a space
pub key_space : (k : Key) (x : List ℕ) → is_word x ≡ true → key_of x ≡ Some k → Free (x ++ codes " ") (keyword k)
unfolding is_letter is_digit
key_space k x is e = told_then {ks = keyword k} {ls = []} (key_told k x is e) space refl

-- Marks

-- a mark that begins no other
one : (b : ℕ) (m : Mark) → ((xs : List ℕ) → shape_of (b ∷ xs) ≡ mark_of b xs) → single_mark b ≡ Some m → eqb b 47 ≡ false → ((c : ℕ) → is_none (double_mark b c) ≡ true) → Free (b ∷ []) (sign m)
one b m by is no_slash never = record { told = λ text more l. lex_one b m text more by is no_slash (ends text) l }
  where
    ends : (text : List ℕ) → stays b text ≡ true
    ends [] = refl
    ends (c ∷ text) = never c

-- a mark of one byte in front of a byte that doesn't make it longer
pub one_at : (b c : ℕ) (m : Mark) → ((xs : List ℕ) → shape_of (b ∷ xs) ≡ mark_of b xs) → single_mark b ≡ Some m → eqb b 47 ≡ false → is_none (double_mark b c) ≡ true → is_blank c ≡ true → Free (b ∷ c ∷ []) (sign m)
one_at b c m by is no_slash apart blank = record { told = λ text more l. lex_one b m (c ∷ text) more by is no_slash apart (lex_blank c text more blank l) }

pub two : (b c : ℕ) (m : Mark) → ((xs : List ℕ) → shape_of (b ∷ xs) ≡ mark_of b xs) → double_mark b c ≡ Some m → eqb b 47 ≡ false → Free (b ∷ c ∷ []) (sign m)
two b c m by is no_slash = record { told = λ text more l. lex_two b c m text more by is no_slash l }

pub open_paren : Free (codes "(") (sign mark.OpenParen)
unfolding shape_of is_blank is_letter is_digit single_mark double_mark
open_paren = one 40 mark.OpenParen (λ xs. refl) refl refl (λ c. refl)

pub close_paren : Free (codes ")") (sign mark.CloseParen)
unfolding shape_of is_blank is_letter is_digit single_mark double_mark
close_paren = one 41 mark.CloseParen (λ xs. refl) refl refl (λ c. refl)

pub open_bracket : Free (codes "[") (sign mark.OpenBracket)
unfolding shape_of is_blank is_letter is_digit single_mark double_mark
open_bracket = one 91 mark.OpenBracket (λ xs. refl) refl refl (λ c. refl)

pub close_bracket : Free (codes "]") (sign mark.CloseBracket)
unfolding shape_of is_blank is_letter is_digit single_mark double_mark
close_bracket = one 93 mark.CloseBracket (λ xs. refl) refl refl (λ c. refl)

pub close_brace : Free (codes "}") (sign mark.CloseBrace)
unfolding shape_of is_blank is_letter is_digit single_mark double_mark
close_brace = one 125 mark.CloseBrace (λ xs. refl) refl refl (λ c. refl)

pub comma : Free (codes ",") (sign mark.Comma)
unfolding shape_of is_blank is_letter is_digit single_mark double_mark
comma = one 44 mark.Comma (λ xs. refl) refl refl (λ c. refl)

pub semicolon : Free (codes ";") (sign mark.Semicolon)
unfolding shape_of is_blank is_letter is_digit single_mark double_mark
semicolon = one 59 mark.Semicolon (λ xs. refl) refl refl (λ c. refl)

pub dot : Free (codes ".") (sign mark.Dot)
unfolding shape_of is_blank is_letter is_digit single_mark double_mark
dot = one 46 mark.Dot (λ xs. refl) refl refl (λ c. refl)

pub tilde : Free (codes "~") (sign mark.Tilde)
unfolding shape_of is_blank is_letter is_digit single_mark double_mark
tilde = one 126 mark.Tilde (λ xs. refl) refl refl (λ c. refl)

pub hole : Free (codes "??") (sign mark.Hole)
unfolding shape_of is_blank is_letter is_digit double_mark
hole = two 63 63 mark.Hole (λ xs. refl) refl refl

pub double_colon : Free (codes "::") (sign mark.DoubleColon)
unfolding shape_of is_blank is_letter is_digit double_mark
double_colon = two 58 58 mark.DoubleColon (λ xs. refl) refl refl

pub open_pattern : Free (codes "{|") (sign mark.OpenPattern)
unfolding shape_of is_blank is_letter is_digit double_mark
open_pattern = two 123 124 mark.OpenPattern (λ xs. refl) refl refl

pub close_pattern : Free (codes "|}") (sign mark.ClosePattern)
unfolding shape_of is_blank is_letter is_digit double_mark
close_pattern = two 124 125 mark.ClosePattern (λ xs. refl) refl refl

pub brace_line : Free (123 ∷ 10 ∷ []) (sign mark.OpenBrace)
unfolding shape_of is_blank is_letter is_digit single_mark double_mark
brace_line = one_at 123 10 mark.OpenBrace (λ xs. refl) refl refl refl refl

pub assign_space : Free (codes "= ") (sign mark.Assign)
unfolding shape_of is_blank is_letter is_digit single_mark double_mark
assign_space = one_at 61 32 mark.Assign (λ xs. refl) refl refl refl refl

pub bar_space : Free (codes "| ") (sign mark.Bar)
unfolding shape_of is_blank is_letter is_digit single_mark double_mark
bar_space = one_at 124 32 mark.Bar (λ xs. refl) refl refl refl refl

pub question_space : Free (codes "? ") (sign mark.Question)
unfolding shape_of is_blank is_letter is_digit single_mark double_mark
question_space = one_at 63 32 mark.Question (λ xs. refl) refl refl refl refl

pub colon_space : Free (codes ": ") (sign mark.Colon)
unfolding shape_of is_blank is_letter is_digit single_mark double_mark
colon_space = one_at 58 32 mark.Colon (λ xs. refl) refl refl refl refl

pub minus_space : Free (codes "- ") (sign mark.Minus)
unfolding shape_of is_blank is_letter is_digit single_mark double_mark
minus_space = one_at 45 32 mark.Minus (λ xs. refl) refl refl refl refl

-- a space in front
pub spaced : {a : List ℕ} {ks : Kinds} → Free a ks → Free (32 ∷ a) ks
spaced {a = a} {ks = ks} f = then {a = codes " "} {b = a} {ks = []} {ls = ks} space f

-- Texts of expressions begin so that no mark in front of them grows.

-- some byte is there, and the first is neither `=` nor `|`
abbrev pub opens : List ℕ → Bool
opens [] = false
opens (b ∷ bs) = not (eqb b 61) && not (eqb b 124)

pub opens_more : (a b : List ℕ) → opens a ≡ true → opens (a ++ b) ≡ true
opens_more [] b h = cc
opens_more (c ∷ a) b h = h

letter_opens : (b : ℕ) → is_letter b ≡ true → (not (eqb b 61) && not (eqb b 124)) ≡ true
unfolding is_letter
letter_opens b h = grind (arith, nat_tests)

digit_opens : (b : ℕ) → is_digit b ≡ true → (not (eqb b 61) && not (eqb b 124)) ≡ true
unfolding is_digit
digit_opens b h = grind (arith, nat_tests)

pub word_opens : (x : List ℕ) → is_word x ≡ true → opens x ≡ true
word_opens [] h = cc
word_opens (b ∷ bs) h = letter_opens b (and_parts (is_letter b) (list_all is_word_byte bs) h).0

pub name_opens : (x : List ℕ) → is_name x ≡ true → opens x ≡ true
name_opens x h = word_opens x (and_parts (is_word x) (is_none (key_of x)) h).0

-- numerals are digits
abbrev AreDigits : List ℕ → Type 0
AreDigits bs = list_all is_digit bs ≡ true

digit_range : (b : ℕ) → is_digit b ≡ true → IsInRange 48 57 b
unfolding is_digit
digit_range b e = grind (arith, nat_tests)

range_digit : (b : ℕ) → IsInRange 48 57 b → is_digit b ≡ true
unfolding is_digit
range_digit b e = grind (arith, nat_tests)

tells_are_digits : IsDigitsTest AreDigits
tells_are_digits = record {
  empty = refl;
  parts = λ c cs e. let h = and_parts (is_digit c) (list_all is_digit cs) e in (digit_range c h.0, h.1);
  more = λ c cs r e. ap (λ v. v && list_all is_digit cs) (range_digit c r) ∙ e;
}

own_digits : IsNumeralModel AreDigits (number_from 0)
own_digits = numerals_by_fold AreDigits tells_are_digits number_from (record { empty = λ n. refl; more = λ n c cs r. let e : 10 * n + (c - 48) ≡ n * 10 + (c - 48) = omega arith in ap (λ k. number_from k cs) e })

digits_open : (bs : List ℕ) → AreDigits bs → 0 < length bs → opens bs ≡ true
digits_open [] all some = absurd (omega arith)
digits_open (b ∷ bs) all some = digit_opens b (and_parts (is_digit b) (list_all is_digit bs) all).0

pub number_opens : (n : ℕ) → is_small n ≡ true → opens (decimal n) ≡ true
number_opens n h =
    let small : n < 2 ^ 64 = grind (arith, nat_tests) in
    digits_open (decimal n) (digits_decimal own_digits n small) (decimal_nonempty n small)

-- Marks in front of an expression

bang_apart : (a text : List ℕ) → opens a ≡ true → stays 33 (a ++ text) ≡ true
unfolding double_mark
bang_apart [] text h = cc
bang_apart (c ∷ a) text h = elim (eqb c 61) as (λ v. (not v && not (eqb c 124)) ≡ true → is_none (cond v (Some mark.NotEqual) None) ≡ true) [ true ↦ λ e. cc | false ↦ λ e. refl ] h

pub bang : (a : List ℕ) {ks : Kinds} → opens a ≡ true → Told a ks → Told (33 ∷ a) (sign mark.Bang ▹ ks)
unfolding shape_of is_blank is_letter is_digit single_mark
bang a {ks} h f = record { told = λ text more ends l. lex_one 33 mark.Bang (a ++ text) (ks ++ more) (λ xs. refl) refl refl (bang_apart a text h) (f.told text more ends l) }

brace_apart : (a text : List ℕ) → opens a ≡ true → stays 123 (a ++ text) ≡ true
unfolding double_mark
brace_apart [] text h = cc
brace_apart (c ∷ a) text h = elim (eqb c 124) as (λ v. (not (eqb c 61) && not v) ≡ true → is_none (cond v (Some mark.OpenPattern) None) ≡ true) [ true ↦ λ e. let g = (and_parts (not (eqb c 61)) false e).1 in cc | false ↦ λ e. refl ] h

pub brace : (a : List ℕ) {ks : Kinds} → opens a ≡ true → Free a ks → Free (123 ∷ a) (sign mark.OpenBrace ▹ ks)
unfolding shape_of is_blank is_letter is_digit single_mark
brace a {ks} h f = record { told = λ text more l. lex_one 123 mark.OpenBrace (a ++ text) (ks ++ more) (λ xs. refl) refl refl (brace_apart a text h) (f.told text more l) }

minus_apart : (c : ℕ) → eqb c 45 ≡ false → (not (eqb c 61) && not (eqb c 124)) ≡ true → is_none (double_mark 45 c) ≡ true
unfolding double_mark
minus_apart c e h = rw e (elim (eqb c 61) as (λ v. (not v && not (eqb c 124)) ≡ true → is_none (cond v (Some mark.SubAssign) None) ≡ true) [ true ↦ λ g. cc | false ↦ λ g. refl ] h)

-- a minus sign, with the space that keeps two of them apart
pub minus : (a : List ℕ) {ks : Kinds} → opens a ≡ true → Told a ks → Told (codes "-" ++ minus_gap a ++ a) (sign mark.Minus ▹ ks)
unfolding shape_of is_blank is_letter is_digit single_mark
minus [] h f = cc
minus (c ∷ a) {ks} h f = go (eqb c 45) refl
  where
    go : (v : Bool) → eqb c 45 ≡ v → Told (45 ∷ (cond v (codes " ") [] ++ (c ∷ a))) (sign mark.Minus ▹ ks)
    go true e = then_told {b = c ∷ a} {ls = ks} minus_space f
    go false e = record { told = λ text more ends l. lex_one 45 mark.Minus (c ∷ (a ++ text)) (ks ++ more) (λ xs. refl) refl refl (minus_apart c e h) (f.told text more ends l) }

-- Texts one after another, from the right

pub four : (a b c d : List ℕ) → a ++ b ++ c ++ d ≡ a ++ (b ++ (c ++ d))
four a b c d = append_assoc (a ++ b) c d ∙ append_assoc a b (c ++ d)

pub five : (a b c d e : List ℕ) → a ++ b ++ c ++ d ++ e ≡ a ++ (b ++ (c ++ (d ++ e)))
five a b c d e = append_assoc (a ++ b ++ c) d e ∙ four a b c (d ++ e)

pub six : (a b c d e f : List ℕ) → a ++ b ++ c ++ d ++ e ++ f ≡ a ++ (b ++ (c ++ (d ++ (e ++ f))))
six a b c d e f = append_assoc (a ++ b ++ c ++ d) e f ∙ five a b c d (e ++ f)

-- Lists

abbrev pub AllTold : List (List ℕ) → List Kinds → Type 0
AllTold [] [] = Unit {0}
AllTold (b ∷ bs) (k ∷ ks) = Told b k × AllTold bs ks
AllTold [] (k ∷ ks) = ⊥
AllTold (b ∷ bs) [] = ⊥

apart_stops : (sep : List ℕ) (bs : List (List ℕ)) → parts sep ≡ true → stops is_word_byte (flat_map (λ y. sep ++ y) bs) ≡ true
apart_stops sep [] h = refl
apart_stops [] (b ∷ bs) h = cc
apart_stops (c ∷ sep) (b ∷ bs) h = h

pub behind_told : {sep : List ℕ} {by : Kinds} → Free sep by → parts sep ≡ true → (bs : List (List ℕ)) (ks : List Kinds) → AllTold bs ks → Told (flat_map (λ y. sep ++ y) bs) (behind by ks)
behind_told f h [] [] all = told nothing
behind_told {sep = sep} {by = by} f h (b ∷ bs) (k ∷ ks) all =
    told_same (append_assoc sep b (flat_map (λ y. sep ++ y) bs)) refl (then_told f (told_told all.0 (behind_told f h bs ks all.1) (apart_stops sep bs h)))
behind_told f h [] (k ∷ ks) all = absurd all
behind_told f h (b ∷ bs) [] all = absurd all

pub between_told : {sep : List ℕ} {by : Kinds} → Free sep by → parts sep ≡ true → (bs : List (List ℕ)) (ks : List Kinds) → AllTold bs ks → Told (join_by (λ t. t) sep bs) (between by ks)
between_told f h [] [] all = told nothing
between_told {sep = sep} f h (b ∷ bs) (k ∷ ks) all = told_told all.0 (behind_told f h bs ks all.1) (apart_stops sep bs h)
between_told f h [] (k ∷ ks) all = absurd all
between_told f h (b ∷ bs) [] all = absurd all

apart_map : {A : Type 0} (f : A → List ℕ) (sep : List ℕ) (xs : List A) → flat_map (λ y. sep ++ f y) xs ≡ flat_map (λ y. sep ++ y) (map f xs)
apart_map f sep [] = refl
apart_map f sep (x ∷ xs) = ap (λ z. (sep ++ f x) ++ z) (apart_map f sep xs)

pub join_map : {A : Type 0} (f : A → List ℕ) (sep : List ℕ) (xs : List A) → join_by f sep xs ≡ join_by (λ t. t) sep (map f xs)
join_map f sep [] = refl
join_map f sep (x ∷ xs) = ap (λ z. f x ++ z) (apart_map f sep xs)

pub comma_space : Free (codes ", ") (sign mark.Comma)
comma_space = then comma space
