-- What pragmas set, one word after the other.
use Rattle.std.proofs.Common.{◌≡◌, ℕ, suc, ◌+◌, ◌<◌, ◌≤◌, cond, eqb, leb, ◌&&◌, get_or, List, [], ◌∷◌, ◌++◌, Option, Some, None, true, false, length, take, drop, refl, sym, ap, ◌∙◌, arith, length-drop}
use Rattle.std.specs.Prelude.{IsTrue}
use Rattle.std.specs.List.{prefix_len, flat_map, list_all, zip}
use Rattle.std.proofs.lemmas.Bool.{and_parts, leb-true, ne_eqb}
use Rattle.std.proofs.lemmas.List.{drop_more, at_drop_all}
use Rattle.sk_tree.specs.declared.item.Item.{Item}
use Rattle.sk_tree.specs.Shapes.{is_blank, is_digit}
use Rattle.sk_tree.specs.Tokens.{number_of}
use Rattle.sk_opts.specs.declared.line.Set.{Set}
use Rattle.sk_opts.specs.declared.setting.Setting.{Setting}
use Rattle.sk_opts.specs.declared.setting.Setting.TheVariants.{HoleBits, InputBits, Turns, Calls, IntBits, Rounds, Conflicts, Certificate, Holes}
use Rattle.sk_opts.specs.declared.setting.Given.{Given}
use Rattle.sk_opts.specs.declared.setting.GivenValue.{GivenValue}
use Rattle.sk_opts.specs.declared.setting.GivenValue.TheVariants.{Number}
use Rattle.sk_opts.specs.Settings.{lowest, highest, is_flag, of_pragmas, setting_among, is_number, number_in, value_in, number_given}
use Rattle.sk_opts.specs.BoundsOf.{between_blanks, if_any, blank_words, longer_first, given_if, set_by_word, words_settings, item_settings}
use Rattle.sk_opts.specs.Steps.{settings_from, given_here, is_unblank, set_by, set_after, number_from}
use Rattle.sk_opts.specs.CommandLine.{set_of}
use Rattle.sk_opts.proofs.LastValues.{last_number}

-- Words that set something with the word behind them are those that are read one after the other.

no_words : (before : Option Setting) → settings_from before [] ≡ []
no_words None = refl
no_words (Some s) = refl

digit_first : (b : ℕ) (bs : List ℕ) → IsTrue (list_all is_digit (b ∷ bs)) → eqb b 45 ≡ false
unfolding is_digit
digit_first b bs e =
    let first = and_parts (leb 48 b && leb b 57) (list_all is_digit bs) e in
    let low = leb-true 48 b (and_parts (leb 48 b) (leb b 57) first.0).0 in
    ne_eqb b 45 (λ same. omega (arith, low, same))

-- a number is none of the four words
number_alone : (w : List ℕ) → IsTrue (is_number w) → setting_among of_pragmas w ≡ None
number_alone [] h = refl
number_alone (b ∷ bs) h =
    let digits = (and_parts (leb (length (b ∷ bs)) 10) (list_all is_digit (b ∷ bs)) (and_parts (leb 1 (length (b ∷ bs))) (leb (length (b ∷ bs)) 10 && list_all is_digit (b ∷ bs)) h).1).1 in
    rw (digit_first b bs digits) refl

in_range_number : (low high : ℕ) (w : List ℕ) (n : ℕ) → number_in low high w ≡ Some n → IsTrue (is_number w)
in_range_number low high w n e =
    elim (is_number w) as (λ v. cond (v && (leb low (number_of w) && leb (number_of w) high)) (Some (number_of w)) None ≡ Some n → IsTrue v) [
      | true ↦ λ f. refl
      | false ↦ λ f. cc
    ] e

value_alone : (s : Setting) (w : List ℕ) (n : ℕ) → value_in s w ≡ Some n → setting_among of_pragmas w ≡ None
value_alone s w n e =
    elim (is_flag s) as (λ v. cond v None (number_in (lowest s) (highest s) w) ≡ Some n → setting_among of_pragmas w ≡ None) [
      | true ↦ λ f. cc
      | false ↦ λ f. number_alone w (in_range_number (lowest s) (highest s) w n f)
    ] e

abbrev pub by_pair : List ℕ × List ℕ → List Given
by_pair pair = set_by_word (setting_among of_pragmas pair.0) pair.1

abbrev pub by_pairs : List ℕ → List (List ℕ) → List Given
by_pairs w ws = flat_map by_pair (zip (w ∷ ws) ws)

one_word : (before : Option Setting) (w : List ℕ) (ws : List (List ℕ)) → settings_from (setting_among of_pragmas w) ws ≡ by_pairs w ws → settings_from before (w ∷ ws) ≡ set_by_word before w ++ by_pairs w ws
one_word None w ws rest = rest
one_word (Some s) w ws rest =
    elim (value_in s w) as (λ o. value_in s w ≡ o → given_here s o (settings_from (setting_among of_pragmas w) ws) (settings_from None ws) ≡ given_if s o ++ by_pairs w ws) [
      | None ↦ λ e. rest
      | Some n ↦ λ e. ap (λ gs. record { setting = s; value = Number n } ∷ gs) (ap (λ b. settings_from b ws) (sym (value_alone s w n e)) ∙ rest)
    ] refl

read_pairs : (w : List ℕ) (ws : List (List ℕ)) → settings_from (setting_among of_pragmas w) ws ≡ by_pairs w ws
read_pairs w [] = no_words (setting_among of_pragmas w)
read_pairs w (v ∷ vs) = one_word (setting_among of_pragmas w) v vs (read_pairs v vs)

pub read_settings : (ws : List (List ℕ)) → settings_from None ws ≡ words_settings ws
read_settings [] = refl
read_settings (w ∷ ws) = read_pairs w ws

-- what all settings come to, from a set on
abbrev pub set_with : Set → List Given → Set
set_with set gs = record { cbits = number_from set.cbits HoleBits gs; inbits = number_from set.inbits InputBits gs; unroll = number_from set.unroll Turns gs; inline_amnt = number_from set.inline_amnt Calls gs; int_bits = number_from set.int_bits IntBits gs }

one_more : (set : Set) (s : Setting) (v : GivenValue) (gs : List Given) → set_with (set_by set s (number_given v)) gs ≡ set_with set (record { setting = s; value = v } ∷ gs)
one_more set HoleBits n gs = refl
one_more set InputBits n gs = refl
one_more set Turns n gs = refl
one_more set Calls n gs = refl
one_more set IntBits n gs = refl
one_more set Rounds n gs = refl
one_more set Conflicts n gs = refl
one_more set Certificate n gs = refl
one_more set Holes n gs = refl

pub set_after_is : (set : Set) (gs : List Given) → set_after set gs ≡ set_with set gs
unfolding set_after
set_after_is set [] = refl
set_after_is set (g ∷ gs) = set_after_is (set_by set g.setting (number_given g.value)) gs ∙ one_more set g.setting g.value gs

-- the settings of one more list
pub after_both : (set : Set) (gs hs : List Given) → set_after set (gs ++ hs) ≡ set_after (set_after set gs) hs
unfolding set_after
after_both set [] hs = refl
after_both set (g ∷ gs) hs = after_both (set_by set g.setting (number_given g.value)) gs hs

-- a word at which no number is awaited, and one that is no number in range
pub word_alone : (set : Set) (w : List ℕ) (before next : Option Setting) → before ≡ None → next ≡ setting_among of_pragmas w → (more : List (List ℕ)) → set_after set (settings_from before (w ∷ more)) ≡ set_after set (settings_from next more)
word_alone set w before next e f more =
    ap (λ b. set_after set (settings_from b (w ∷ more))) e ∙ ap (λ b. set_after set (settings_from b more)) (sym f)

pub word_other : (set : Set) (w : List ℕ) (before next : Option Setting) (s : Setting) → before ≡ Some s → None ≡ value_in s w → next ≡ setting_among of_pragmas w → (more : List (List ℕ)) → set_after set (settings_from before (w ∷ more)) ≡ set_after set (settings_from next more)
word_other set w before next s e n f more =
    ap (λ b. set_after set (settings_from b (w ∷ more))) e
    ∙ ap (λ v. set_after set (given_here s v (settings_from (setting_among of_pragmas w) more) (settings_from None more))) (sym n)
    ∙ ap (λ b. set_after set (settings_from b more)) (sym f)

pub word_number : (set new : Set) (w : List ℕ) (before : Option Setting) (s : Setting) (n : ℕ) → before ≡ Some s → Some n ≡ value_in s w → new ≡ set_by set s (Some n) → (more : List (List ℕ)) → set_after set (settings_from before (w ∷ more)) ≡ set_after new (settings_from None more)
unfolding set_after
word_number set new w before s n e v f more =
    ap (λ b. set_after set (settings_from b (w ∷ more))) e
    ∙ ap (λ v. set_after set (given_here s v (settings_from (setting_among of_pragmas w) more) (settings_from None more))) (sym v)
    ∙ ap (λ x. set_after x (settings_from None more)) (sym f)

-- Words

-- the bytes up to a blank, and the pieces behind them
record Front (bs : List ℕ) : Type 0 where
  pieces : List (List ℕ)
  first : between_blanks bs ≡ take (prefix_len is_unblank bs) bs ∷ pieces
  others : flat_map if_any pieces ≡ blank_words (drop (prefix_len is_unblank bs) bs)

front_of : (bs : List ℕ) → Front bs
front_of [] = record { pieces = []; first = refl; others = refl }
front_of (b ∷ bs) =
    let rest = front_of bs in
    let one : 1 + prefix_len is_unblank bs ≡ suc (prefix_len is_unblank bs) = omega arith in
    elim (is_blank b) as (λ v. is_blank b ≡ v → Front (b ∷ bs)) [
      | true ↦ λ e. record { pieces = between_blanks bs; first = rw e refl; others = rw e (rw e refl) }
      | false ↦ λ e. record {
        pieces = rest.pieces;
        first = rw (e, one) (ap (longer_first b) rest.first);
        others = rw (e, one) rest.others;
      }
    ] refl

-- a blank at the front is passed over
pub blank_first : (b : ℕ) (bs : List ℕ) → is_blank b ≡ true → blank_words (b ∷ bs) ≡ blank_words bs
blank_first b bs e = rw e refl

-- a word at the front
pub word_first : (b : ℕ) (bs : List ℕ) → is_blank b ≡ false → (n : ℕ) → n ≡ prefix_len is_unblank (b ∷ bs) → blank_words (b ∷ bs) ≡ take n (b ∷ bs) ∷ blank_words (drop n (b ∷ bs))
word_first b bs e n is =
    let rest = front_of bs in
    let one : n ≡ suc (prefix_len is_unblank bs) = is ∙ rw e (omega arith) in
    rw (one, e) (ap (λ ps. flat_map if_any (longer_first b ps)) rest.first ∙ ap (λ ws. (b ∷ take (prefix_len is_unblank bs) bs) ∷ ws) rest.others)

pub word_shortens : (b : ℕ) (bs : List ℕ) → is_blank b ≡ false → (n : ℕ) → n ≡ prefix_len is_unblank (b ∷ bs) → length (drop n (b ∷ bs)) < length (b ∷ bs)
word_shortens b bs e n is =
    let one : n ≡ suc (prefix_len is_unblank bs) = is ∙ rw e (omega arith) in
    omega (arith, length-drop n (b ∷ bs))

abbrev pub no_set : Set
no_set = record { cbits = None; inbits = None; unroll = None; inline_amnt = None; int_bits = None }

pub set_of_all : (gs : List Given) (set : Set) → set ≡ set_after no_set gs → set ≡ set_of gs
set_of_all gs set e = e ∙ set_after_is no_set gs ∙ numbers_are
  where
    numbers_are : set_with no_set gs ≡ set_of gs
    numbers_are = λ i. record {
      cbits = sym (last_number HoleBits gs) i;
      inbits = sym (last_number InputBits gs) i;
      unroll = sym (last_number Turns gs) i;
      inline_amnt = sym (last_number Calls gs) i;
      int_bits = sym (last_number IntBits gs) i;
    }

-- the items of a text, one after the other
pub more_items : (set new : Set) (items : List Item) (i : ℕ) (it : Item) → i < length items → it ≡ get_or items i it → new ≡ set_after set (item_settings it) → set_after set (flat_map item_settings (drop i items)) ≡ set_after new (flat_map item_settings (drop (i + 1) items))
more_items set new items i it inside e f =
    let others : List Given = flat_map item_settings (drop (i + 1) items) in
    ap (λ l. set_after set (flat_map item_settings l)) (drop_more items i it inside)
    ∙ ap (λ x. set_after set (item_settings x ++ others)) (sym e)
    ∙ after_both set (item_settings it) others
    ∙ ap (λ x. set_after x others) (sym f)

pub all_items : (set : Set) (items : List Item) (i : ℕ) → length items ≤ i → set_after no_set (flat_map item_settings items) ≡ set_after set (flat_map item_settings (drop i items)) → set ≡ set_of (flat_map item_settings items)
unfolding set_after
all_items set items i h e =
    set_of_all (flat_map item_settings items) set (sym (e ∙ at_drop_all (λ l. set_after set (flat_map item_settings l)) items i h))

-- a word taken from the front of a text
pub word_taken : (rest : List ℕ) (n : ℕ) (word more : List ℕ) → 1 ≤ length rest → is_blank (get_or rest 0 0) ≡ false → n ≡ prefix_len is_unblank rest → word ≡ take n rest → more ≡ drop n rest → blank_words rest ≡ word ∷ blank_words more
word_taken [] n word more some e is f g = absurd (omega arith)
word_taken (b ∷ bs) n word more some e is f g =
    word_first b bs e n is ∙ ap (λ w. w ∷ blank_words (drop n (b ∷ bs))) (sym f) ∙ ap (λ m. word ∷ blank_words m) (sym g)

-- nothing is left of a text
pub text_ends : (start set : Set) (before : Option Setting) (words : List (List ℕ)) (rest : List ℕ) → length rest < 1 → set_after start (settings_from None words) ≡ set_after set (settings_from before (blank_words rest)) → set ≡ set_after start (words_settings words)
unfolding set_after
text_ends start set before words [] h e = sym (e ∙ ap (set_after set) (no_words before)) ∙ ap (set_after start) (read_settings words)
text_ends start set before words (b ∷ bs) h e = absurd (omega arith)
