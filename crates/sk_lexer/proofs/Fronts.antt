-- The longest front of a text that passes a test, and the longest piece.
use Rattle.std.proofs.Common.{◌≡◌, ℕ, zero, suc, ◌+◌, ◌-◌, ◌<◌, ◌≤◌, Bool, true, false, cond, eqb, ◌&&◌, List, [], ◌∷◌, Option, Some, None, length, get_or, take, drop, refl, sym, ap, ◌∙◌, subst, arith, length-drop, option_map}
use Rattle.std.proofs.lemmas.Bool.{ne_eqb}
use Rattle.std.specs.List.{list_all, prefix_len}
use Rattle.std.proofs.lemmas.List.{drop_more}
use Rattle.sk_tree.specs.declared.shape.Shape.{Shape}
use Rattle.sk_tree.specs.declared.shape.Shape.TheVariants as shape
use Rattle.sk_tree.specs.declared.token.Mark.{Mark}
use Rattle.sk_tree.specs.declared.token.Mark.TheVariants.{Slash}
use Rattle.sk_tree.specs.Spelling.{single_mark}
use Rattle.sk_tree.specs.Shapes.{is_blank, is_letter, is_digit, is_word_byte, is_line_byte, is_closed, is_quoted, if_all, slash_of, text_of, mark_of, shape_of}
use Rattle.sk_tree.specs.Longest.{Longest, Stands, NoneStands, NoComment, opens_comment}
use Rattle.sk_lexer.specs.Pieces.{Reaches, NoPiece, NoSlash, second_mark}

-- the test of each byte, over the first k
all_within : (p : ℕ → Bool) (bs : List ℕ) → list_all p (take (prefix_len p bs) bs) ≡ true
all_within p [] = refl
all_within p (b ∷ bs) =
    let rest = all_within p bs in
    elim (p b) as (λ v. p b ≡ v → list_all p (take (cond v (1 + prefix_len p bs) 0) (b ∷ bs)) ≡ true) [
      | true ↦ λ e. let one : 1 + prefix_len p bs ≡ suc (prefix_len p bs) = omega arith in rw (one, e) rest
      | false ↦ λ e. refl
    ] refl

not_all_past : (p : ℕ → Bool) (bs : List ℕ) (m : ℕ) → prefix_len p bs < m → m ≤ length bs → list_all p (take m bs) ≡ false
not_all_past p [] m above within = absurd (omega arith)
not_all_past p (b ∷ bs) zero above within = absurd (omega arith)
not_all_past p (b ∷ bs) (suc m) above within =
    elim (p b) as (λ v. p b ≡ v → cond v (1 + prefix_len p bs) 0 < suc m → (v && list_all p (take m bs)) ≡ false) [
      | true ↦ λ e h. not_all_past p bs m (omega arith) (omega arith)
      | false ↦ λ e h. refl
    ] refl above

-- a run of bytes that pass
pub reaches_run : (p : ℕ → Bool) (bs : List ℕ) (n : ℕ) → n ≤ length bs → n ≡ prefix_len p bs → Reaches (list_all p) bs n
reaches_run p bs n within e = record {
  within = within;
  passes = ap (λ k. list_all p (take k bs)) e ∙ all_within p bs;
  longest = λ m above inside. not_all_past p bs m (omega arith) inside;
}

-- a shape that stands for its first byte and a test of the others
pub longest_by_test : (of : List ℕ → Option Shape) (test : List ℕ → Bool) (shape : Shape) (b : ℕ) (bs : List ℕ) (n k : ℕ) → k ≡ 1 + n → ((xs : List ℕ) → of (b ∷ xs) ≡ cond (test xs) (Some shape) None) → Reaches test bs n → Longest of (b ∷ bs) shape k
longest_by_test of test shape b bs n k e by r =
    let one : k ≡ suc n = omega arith in
    subst (Longest of (b ∷ bs) shape) (sym one) (record {
      within = omega (arith, r.within);
      stands = by (take n bs) ∙ ap (λ v. cond v (Some shape) None) r.passes;
      longest = past;
    })
  where
    past : (m : ℕ) → suc n < m → m ≤ length (b ∷ bs) → of (take m (b ∷ bs)) ≡ None
    past zero above inside = absurd (omega arith)
    past (suc m) above inside = by (take m bs) ∙ ap (λ v. cond v (Some shape) None) (r.longest m (omega arith) (omega arith))

-- the same for what stands behind the first byte
pub longest_behind : (of of' : List ℕ → Option Shape) (shape : Shape) (b : ℕ) (bs : List ℕ) (n k : ℕ) → k ≡ 1 + n → ((xs : List ℕ) → of (b ∷ xs) ≡ of' xs) → Longest of' bs shape n → Longest of (b ∷ bs) shape k
longest_behind of of' shape b bs n k e by r =
    let one : k ≡ suc n = omega arith in
    subst (Longest of (b ∷ bs) shape) (sym one) (record {
      within = omega (arith, r.within);
      stands = by (take n bs) ∙ r.stands;
      longest = past;
    })
  where
    past : (m : ℕ) → suc n < m → m ≤ length (b ∷ bs) → of (take m (b ∷ bs)) ≡ None
    past zero above inside = absurd (omega arith)
    past (suc m) above inside = by (take m bs) ∙ r.longest m (omega arith) (omega arith)

-- nothing stands in front of which nothing stands
pub none_behind : (of of' : List ℕ → Option Shape) (b : ℕ) (bs : List ℕ) → of [] ≡ None → ((xs : List ℕ) → of (b ∷ xs) ≡ of' xs) → ((m : ℕ) → of' (take m bs) ≡ None) → (m : ℕ) → of (take m (b ∷ bs)) ≡ None
none_behind of of' b bs none by r zero = none
none_behind of of' b bs none by r (suc m) = by (take m bs) ∙ r m

-- one byte on that doesn't end a comment
closed_on : (b c : ℕ) (bs : List ℕ) (k : ℕ) → (eqb b 42 && eqb c 47) ≡ false → is_closed (take k (b ∷ c ∷ bs)) ≡ is_closed (take (k - 1) (c ∷ bs))
closed_on b c bs zero differs = refl
closed_on b c bs (suc zero) differs = refl
closed_on b c bs (suc (suc k)) differs =
    let one : suc (suc k) - 1 ≡ suc k = omega arith in
    rw one (ap (λ v. cond v (list_all (λ _. false) (take k bs)) (is_closed (c ∷ take k bs))) differs)

pub closed_step : (xs : List ℕ) (i m : ℕ) → i + 1 < length xs → (eqb (get_or xs i 0) 42 && eqb (get_or xs (i + 1) 0) 47) ≡ false → is_closed (take (m - i) (drop i xs)) ≡ is_closed (take (m - (i + 1)) (drop (i + 1) xs))
closed_step xs i m inside differs =
    let e : drop i xs ≡ get_or xs i 0 ∷ get_or xs (i + 1) 0 ∷ drop (i + 1 + 1) xs = drop_more xs i 0 (omega arith) ∙ ap (λ l. get_or xs i 0 ∷ l) (drop_more xs (i + 1) 0 inside) in
    let k : m - i - 1 ≡ m - (i + 1) = omega arith in
    ap (λ l. is_closed (take (m - i) l)) e
    ∙ closed_on _ _ _ (m - i) differs
    ∙ ap (λ j. is_closed (take j (get_or xs (i + 1) 0 ∷ drop (i + 1 + 1) xs))) k
    ∙ ap (λ l. is_closed (take (m - (i + 1)) l)) (sym (drop_more xs (i + 1) 0 inside))

-- no end stands before i
abbrev pub NotClosedBefore : List ℕ → ℕ → Type 0
NotClosedBefore xs i = (m : ℕ) → is_closed (take m xs) ≡ is_closed (take (m - i) (drop i xs))

two_at : (xs : List ℕ) (i : ℕ) → i + 1 < length xs → get_or xs i 0 ≡ 42 → get_or xs (i + 1) 0 ≡ 47 → drop i xs ≡ 42 ∷ 47 ∷ drop (i + 1 + 1) xs
two_at xs i inside star slash =
    drop_more xs i 0 (omega arith) ∙ ap (λ l. get_or xs i 0 ∷ l) (drop_more xs (i + 1) 0 inside)
    ∙ ap (λ b. b ∷ get_or xs (i + 1) 0 ∷ drop (i + 1 + 1) xs) star ∙ ap (λ b. 42 ∷ b ∷ drop (i + 1 + 1) xs) slash

past_end : (bs : List ℕ) (k : ℕ) → 2 < k → k ≤ 2 + length bs → is_closed (take k (42 ∷ 47 ∷ bs)) ≡ false
past_end bs zero above inside = absurd (omega arith)
past_end bs (suc zero) above inside = absurd (omega arith)
past_end bs (suc (suc zero)) above inside = absurd (omega arith)
past_end [] (suc (suc (suc k))) above inside = absurd (omega arith)
past_end (b ∷ bs) (suc (suc (suc k))) above inside = refl

pub closed_found : (xs : List ℕ) (i : ℕ) → i + 1 < length xs → get_or xs i 0 ≡ 42 → get_or xs (i + 1) 0 ≡ 47 → NotClosedBefore xs i → Reaches is_closed xs (i + 2)
closed_found xs i inside star slash before =
    let e = two_at xs i inside star slash in
    let two : i + 2 - i ≡ 2 = omega arith in
    let len = length-drop i xs in
    record {
      within = omega arith;
      passes = before (i + 2) ∙ ap (λ k. is_closed (take k (drop i xs))) two ∙ ap (λ l. is_closed (take 2 l)) e;
      longest = λ m above within. before m ∙ ap (λ l. is_closed (take (m - i) l)) e ∙ past_end _ (m - i) (omega arith) (omega (arith, ap length e));
    }

none_in_one : (xs : List ℕ) (k : ℕ) → length xs ≤ 1 → is_closed (take k xs) ≡ false
none_in_one [] zero h = refl
none_in_one [] (suc k) h = refl
none_in_one (x ∷ []) zero h = refl
none_in_one (x ∷ []) (suc zero) h = refl
none_in_one (x ∷ []) (suc (suc k)) h = refl
none_in_one (x ∷ y ∷ xs) k h = absurd (omega arith)

pub closed_nowhere : (xs : List ℕ) (i : ℕ) → length xs ≤ i + 1 → NotClosedBefore xs i → (m : ℕ) → is_closed (take m xs) ≡ false
closed_nowhere xs i ends before m = before m ∙ none_in_one (drop i xs) (m - i) (omega (arith, length-drop i xs))

-- one byte on that doesn't end a text
quoted_on : (b : ℕ) (bs : List ℕ) (k : ℕ) → eqb b 34 ≡ false → eqb b 10 ≡ false → is_quoted (take k (b ∷ bs)) ≡ is_quoted (take (k - 1) bs)
quoted_on b bs zero quote line = refl
quoted_on b bs (suc k) quote line =
    let one : suc k - 1 ≡ k = omega arith in
    rw (one, quote, line) refl

-- no quote or line feed stands before i
abbrev pub NotQuotedBefore : List ℕ → ℕ → Type 0
NotQuotedBefore xs i = (m : ℕ) → is_quoted (take m xs) ≡ is_quoted (take (m - i) (drop i xs))

pub quoted_step : (xs : List ℕ) (i m : ℕ) → i < length xs → eqb (get_or xs i 0) 34 ≡ false → eqb (get_or xs i 0) 10 ≡ false → is_quoted (take (m - i) (drop i xs)) ≡ is_quoted (take (m - (i + 1)) (drop (i + 1) xs))
quoted_step xs i m inside quote line =
    let k : m - i - 1 ≡ m - (i + 1) = omega arith in
    ap (λ l. is_quoted (take (m - i) l)) (drop_more xs i 0 inside)
    ∙ quoted_on _ _ (m - i) quote line
    ∙ ap (λ j. is_quoted (take j (drop (i + 1) xs))) k

past_quote : (bs : List ℕ) (k : ℕ) → 1 < k → k ≤ 1 + length bs → is_quoted (take k (34 ∷ bs)) ≡ false
past_quote bs zero above inside = absurd (omega arith)
past_quote bs (suc zero) above inside = absurd (omega arith)
past_quote [] (suc (suc k)) above inside = absurd (omega arith)
past_quote (b ∷ bs) (suc (suc k)) above inside = refl

quote_at : (xs : List ℕ) (i b : ℕ) → i < length xs → get_or xs i 0 ≡ b → drop i xs ≡ b ∷ drop (i + 1) xs
quote_at xs i b inside e = drop_more xs i 0 inside ∙ ap (λ c. c ∷ drop (i + 1) xs) e

pub quoted_found : (xs : List ℕ) (i : ℕ) → i < length xs → get_or xs i 0 ≡ 34 → NotQuotedBefore xs i → Reaches is_quoted xs (i + 1)
quoted_found xs i inside quote before =
    let e = quote_at xs i 34 inside quote in
    let one : i + 1 - i ≡ 1 = omega arith in
    let len = length-drop i xs in
    record {
      within = omega arith;
      passes = before (i + 1) ∙ ap (λ k. is_quoted (take k (drop i xs))) one ∙ ap (λ l. is_quoted (take 1 l)) e;
      longest = λ m above within. before m ∙ ap (λ l. is_quoted (take (m - i) l)) e ∙ past_quote _ (m - i) (omega arith) (omega (arith, ap length e));
    }

line_ends : (bs : List ℕ) (k : ℕ) → is_quoted (take k (10 ∷ bs)) ≡ false
line_ends bs zero = refl
line_ends bs (suc k) = refl

pub quoted_not : (xs : List ℕ) (i : ℕ) → i < length xs → get_or xs i 0 ≡ 10 → NotQuotedBefore xs i → (m : ℕ) → is_quoted (take m xs) ≡ false
quoted_not xs i inside line before m =
    before m ∙ ap (λ l. is_quoted (take (m - i) l)) (quote_at xs i 10 inside line) ∙ line_ends _ (m - i)

none_quoted : (xs : List ℕ) (k : ℕ) → length xs ≤ 0 → is_quoted (take k xs) ≡ false
none_quoted [] zero h = refl
none_quoted [] (suc k) h = refl
none_quoted (x ∷ xs) k h = absurd (omega arith)

pub quoted_nowhere : (xs : List ℕ) (i : ℕ) → length xs ≤ i → NotQuotedBefore xs i → (m : ℕ) → is_quoted (take m xs) ≡ false
quoted_nowhere xs i ends before m = before m ∙ none_quoted (drop i xs) (m - i) (omega (arith, length-drop i xs))

-- what a first byte decides
pub first_blank : (b : ℕ) → is_blank b ≡ true → (xs : List ℕ) → shape_of (b ∷ xs) ≡ if_all is_blank xs shape.Blank
unfolding shape_of
first_blank b e xs = rw e refl

pub first_letter : (b : ℕ) → is_blank b ≡ false → is_letter b ≡ true → (xs : List ℕ) → shape_of (b ∷ xs) ≡ if_all is_word_byte xs shape.Word
unfolding shape_of
first_letter b e f xs = rw (e, f) refl

pub first_digit : (b : ℕ) → is_blank b ≡ false → is_letter b ≡ false → is_digit b ≡ true → (xs : List ℕ) → shape_of (b ∷ xs) ≡ if_all is_digit xs shape.Number
unfolding shape_of
first_digit b e f g xs = rw (e, f, g) refl

pub first_slash : (xs : List ℕ) → shape_of (47 ∷ xs) ≡ slash_of xs
unfolding shape_of is_blank is_letter is_digit
first_slash xs = refl

pub first_quote : (xs : List ℕ) → shape_of (34 ∷ xs) ≡ text_of xs
unfolding shape_of is_blank is_letter is_digit
first_quote xs = refl

pub first_mark : (b : ℕ) → is_blank b ≡ false → is_letter b ≡ false → is_digit b ≡ false → (b ≡ 47 → ⊥) → (b ≡ 34 → ⊥) → (xs : List ℕ) → shape_of (b ∷ xs) ≡ mark_of b xs
unfolding shape_of
first_mark b e f g h i xs = let s = ne_eqb b 47 h in let q = ne_eqb b 34 i in rw (e, f, g, s, q) refl

pub none_stands_in_none : shape_of [] ≡ None
unfolding shape_of
none_stands_in_none = refl

-- what a byte that passes is not
pub blank_not : (b : ℕ) → is_blank b ≡ true → eqb b 47 ≡ false
unfolding is_blank
blank_not b e = ne_eqb b 47 (λ is. let f = subst (λ n. is_blank n ≡ true) is e in cc)

pub letter_not : (b : ℕ) → is_letter b ≡ true → eqb b 47 ≡ false
unfolding is_letter
letter_not b e = ne_eqb b 47 (λ is. let f = subst (λ n. is_letter n ≡ true) is e in cc)

pub digit_not : (b : ℕ) → is_digit b ≡ true → eqb b 47 ≡ false
unfolding is_digit
digit_not b e = ne_eqb b 47 (λ is. let f = subst (λ n. is_digit n ≡ true) is e in cc)

-- no comment begins with another byte than a slash
pub opens_none : (b : ℕ) (bs : List ℕ) → eqb b 47 ≡ false → opens_comment (b ∷ bs) ≡ false
opens_none b [] e = refl
opens_none b (c ∷ bs) e = rw e refl

pub stands_other : (b : ℕ) (bs : List ℕ) (s : Shape) (n : ℕ) → eqb b 47 ≡ false → Longest shape_of (b ∷ bs) s n → Stands (b ∷ bs) s n
stands_other b bs s n e piece = record { piece = piece; comment = λ opens. let f = sym opens ∙ opens_none b bs e in cc }

pub no_other : (b : ℕ) (bs : List ℕ) → eqb b 47 ≡ false → NoneStands (b ∷ bs) → NoPiece (b ∷ bs)
no_other b bs e none = record { none = λ _. none; comment = λ opens. let f = sym opens ∙ opens_none b bs e in cc }

pub stands_slash : (b : ℕ) (bs : List ℕ) (s : Shape) (n k : ℕ) → b ≡ 47 → k ≡ 1 + n → Longest slash_of bs s n → (opens_comment (47 ∷ bs) ≡ true → s ≡ shape.Comment) → Stands (b ∷ bs) s k
stands_slash b bs s n k e count piece opens =
    subst (λ c. Stands (c ∷ bs) s k) (sym e) (record { piece = longest_behind shape_of slash_of s 47 bs n k count first_slash piece; comment = opens })

no_comment_behind : (bs : List ℕ) → NoSlash bs → NoComment (47 ∷ bs)
unfolding shape_of is_blank is_letter is_digit
no_comment_behind bs h zero e = cc
no_comment_behind bs h (suc m) e = h.comment m e

pub no_slash : (b : ℕ) (bs : List ℕ) → b ≡ 47 → NoSlash bs → NoPiece (b ∷ bs)
no_slash b bs e h =
    subst (λ c. NoPiece (c ∷ bs)) (sym e) (record { none = λ closed. let f = sym closed ∙ h.opens in cc; comment = λ _. no_comment_behind bs h })

-- a text
pub stands_text : (b : ℕ) (bs : List ℕ) (n k : ℕ) → b ≡ 34 → k ≡ 1 + n → Reaches is_quoted bs n → Stands (b ∷ bs) shape.Text k
stands_text b bs n k e count reaches =
    subst (λ c. Stands (c ∷ bs) shape.Text k) (sym e) (stands_other 34 bs shape.Text k refl (longest_by_test shape_of is_quoted shape.Text 34 bs n k count first_quote reaches))

none_by_quote : (bs : List ℕ) → ((m : ℕ) → is_quoted (take m bs) ≡ false) → (m : ℕ) → text_of (take m bs) ≡ None
none_by_quote bs h m = ap (λ v. cond v (Some shape.Text) None) (h m)

pub no_text : (b : ℕ) (bs : List ℕ) → b ≡ 34 → ((m : ℕ) → is_quoted (take m bs) ≡ false) → NoPiece (b ∷ bs)
no_text b bs e h =
    subst (λ c. NoPiece (c ∷ bs)) (sym e) (no_other 34 bs refl (none_behind shape_of text_of 34 bs none_stands_in_none first_quote (none_by_quote bs h)))

-- what stands behind a slash
pub slash_alone : (s : ℕ) (bs : List ℕ) → (s ≡ 47 → ⊥) → (s ≡ 42 → ⊥) → Longest slash_of (s ∷ bs) (shape.Mark Slash) 0
slash_alone s bs h i = record { within = omega arith; stands = refl; longest = past }
  where
    past : (m : ℕ) → 0 < m → m ≤ length (s ∷ bs) → slash_of (take m (s ∷ bs)) ≡ None
    past zero above inside = absurd (omega arith)
    past (suc m) above inside = let e = ne_eqb s 47 h in let f = ne_eqb s 42 i in rw (e, f) refl

pub slash_last : Longest slash_of [] (shape.Mark Slash) 0
slash_last = record { within = omega arith; stands = refl; longest = λ m above inside. absurd (omega arith) }

pub second_slash : (b : ℕ) → b ≡ 47 → (xs : List ℕ) → slash_of (b ∷ xs) ≡ if_all is_line_byte xs shape.Comment
second_slash b e xs = rw e refl

pub second_star : (b : ℕ) → b ≡ 42 → (xs : List ℕ) → slash_of (b ∷ xs) ≡ cond (is_closed xs) (Some shape.Comment) None
second_star b e xs = rw e refl

pub opens_other : (s : ℕ) (bs : List ℕ) → (s ≡ 42 → ⊥) → opens_comment (47 ∷ s ∷ bs) ≡ false
opens_other s bs h = ne_eqb s 42 h

pub no_end : (s : ℕ) (bs : List ℕ) → s ≡ 42 → ((m : ℕ) → is_closed (take m bs) ≡ false) → NoSlash (s ∷ bs)
no_end s bs e h = subst (λ c. NoSlash (c ∷ bs)) (sym e) (record { opens = refl; comment = none })
  where
    none : (m : ℕ) → slash_of (take m (42 ∷ bs)) ≡ Some shape.Comment → ⊥
    none zero e = cc
    none (suc m) e = let f = sym (ap (λ v. cond v (Some shape.Comment) None) (h m)) ∙ e in cc

-- marks
pub mark_two : (b : ℕ) (bs : List ℕ) (m : Mark) → second_mark b bs ≡ Some m → Longest (mark_of b) bs (shape.Mark m) 1
mark_two b [] m e = absurd cc
mark_two b (c ∷ bs) m e = record { within = omega arith; stands = ap (option_map shape.Mark) e; longest = past bs }
  where
    past : (bs : List ℕ) (k : ℕ) → 1 < k → k ≤ length (c ∷ bs) → mark_of b (take k (c ∷ bs)) ≡ None
    past bs zero above inside = absurd (omega arith)
    past bs (suc zero) above inside = absurd (omega arith)
    past [] (suc (suc k)) above inside = absurd (omega arith)
    past (d ∷ bs) (suc (suc k)) above inside = refl

mark_behind : (b : ℕ) (bs : List ℕ) → second_mark b bs ≡ None → (k : ℕ) → 0 < k → k ≤ length bs → mark_of b (take k bs) ≡ None
mark_behind b bs e zero above inside = absurd (omega arith)
mark_behind b [] e (suc k) above inside = absurd (omega arith)
mark_behind b (c ∷ bs) e (suc zero) above inside = ap (option_map shape.Mark) e
mark_behind b (c ∷ []) e (suc (suc k)) above inside = absurd (omega arith)
mark_behind b (c ∷ d ∷ bs) e (suc (suc k)) above inside = refl

pub mark_one : (b : ℕ) (bs : List ℕ) (m : Mark) → second_mark b bs ≡ None → single_mark b ≡ Some m → Longest (mark_of b) bs (shape.Mark m) 0
mark_one b bs m e f = record { within = omega arith; stands = ap (option_map shape.Mark) f; longest = mark_behind b bs e }

pub mark_none : (b : ℕ) (bs : List ℕ) → second_mark b bs ≡ None → single_mark b ≡ None → (k : ℕ) → mark_of b (take k bs) ≡ None
mark_none b bs e f zero = ap (option_map shape.Mark) f
mark_none b [] e f (suc k) = ap (option_map shape.Mark) f
mark_none b (c ∷ []) e f (suc zero) = ap (option_map shape.Mark) e
mark_none b (c ∷ []) e f (suc (suc k)) = ap (option_map shape.Mark) e
mark_none b (c ∷ d ∷ bs) e f (suc zero) = ap (option_map shape.Mark) e
mark_none b (c ∷ d ∷ bs) e f (suc (suc k)) = refl

-- nothing stands in an empty text
pub no_piece_in_nothing : (xs : List ℕ) → length xs ≡ 0 → NoPiece xs
unfolding shape_of
no_piece_in_nothing [] e = record { none = λ _. none; comment = λ opens. cc }
  where
    none : (m : ℕ) → shape_of (take m []) ≡ None
    none zero = refl
    none (suc m) = refl
no_piece_in_nothing (x ∷ xs) e = absurd (omega arith)

-- the same lists
pub stands_along : (xs ys : List ℕ) (s : Shape) (n : ℕ) → xs ≡ ys → Stands ys s n → Stands xs s n
stands_along xs ys s n e h = subst (λ l. Stands l s n) (sym e) h
