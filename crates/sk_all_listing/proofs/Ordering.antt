-- Choices put in their place.
use Rattle.std.proofs.Common.{◌≡◌, ℕ, zero, suc, ◌+◌, ◌<◌, ◌≤◌, Bool, true, false, ◌&&◌, ◌||◌, List, [], ◌∷◌, length, get_or, drop, refl, sym, ap, ◌∙◌, arith, ◌⊎◌, inl, inr}
use Rattle.std.specs.Prelude.{All, nat_eq, nat_lt, if◌then◌else◌}
use Rattle.std.specs.List.{insert}
use Rattle.std.proofs.lemmas.Bool.{false≢true, cases_order}
use Rattle.std.proofs.lemmas.Bool.Decides.{nat_tests}
use Rattle.std.proofs.lemmas.List.{drop_more, drop_all}
use Rattle.std.proofs.lemmas.List.Elements.{All-nil, All-cons, All-head, All-tail, All-weaker}
use Rattle.sk_model.specs.declared.expanded.Choice.{Choice}
use Rattle.sk_all_exclusions.specs.declared.listed.Listed.{Listed}
use Rattle.sk_all_listing.specs.Order.{AreAscending, inserted, is_before, place_of}
use Rattle.sk_all_listing.specs.Completions.{choices_of}

-- ---- the order

first_less : (v w : ℕ) (b : Bool) → v < w → (nat_lt v w || b) ≡ true
first_less v w b h = let t : nat_lt v w ≡ true = grind (arith, nat_tests, h) in rw t refl

first_more : (v w : ℕ) (b : Bool) → w < v → (nat_lt v w || (nat_eq v w && b)) ≡ false
first_more v w b h =
    let t : nat_lt v w ≡ false = grind (arith, nat_tests, h) in
    let u : nat_eq v w ≡ false = grind (arith, nat_tests, h) in
    rw (t, u) refl

first_same : (v w : ℕ) (b : Bool) → v ≡ w → (nat_lt v w || (nat_eq v w && b)) ≡ b
first_same v w b h =
    let t : nat_lt v w ≡ false = grind (arith, nat_tests, h) in
    let u : nat_eq v w ≡ true = grind (arith, nat_tests, h) in
    rw (t, u) refl

-- of lists of the same length that differ, one is before the other
pub other_way : (vs ws : List ℕ) → length vs ≡ length ws → is_before vs ws ≡ false → (vs ≡ ws → ⊥) → is_before ws vs ≡ true
other_way [] [] long before apart = absurd (apart refl)
other_way [] (w ∷ ws) long before apart = absurd (omega (arith, long))
other_way (v ∷ vs) [] long before apart = absurd (omega (arith, long))
other_way (v ∷ vs) (w ∷ ws) long before apart = by (cases_order v w) (λ b d. other_way vs ws (omega (arith, long)) b d)
  where
    by : (v ≡ w) ⊎ ((v < w) ⊎ (w < v)) → (is_before vs ws ≡ false → (vs ≡ ws → ⊥) → is_before ws vs ≡ true) → is_before (w ∷ ws) (v ∷ vs) ≡ true
    by (inl same) rest =
        first_same w v (is_before ws vs) (sym same)
        ∙ rest (sym (first_same v w (is_before vs ws) same) ∙ before) (λ is. apart (λ j. same j ∷ is j))
    by (inr (inl less)) rest = absurd (false≢true (sym before ∙ first_less v w (nat_eq v w && is_before vs ws) less))
    by (inr (inr more)) rest = first_less w v (nat_eq w v && is_before ws vs) more

pub before_all : (us vs ws : List ℕ) → is_before us vs ≡ true → is_before vs ws ≡ true → is_before us ws ≡ true
before_all [] vs ws h k = absurd (false≢true h)
before_all (u ∷ us) [] ws h k = absurd (false≢true h)
before_all (u ∷ us) (v ∷ vs) [] h k = absurd (false≢true k)
before_all (u ∷ us) (v ∷ vs) (w ∷ ws) h k = by (cases_order u v) (cases_order v w) (λ b c. before_all us vs ws b c)
  where
    by : (u ≡ v) ⊎ ((u < v) ⊎ (v < u)) → (v ≡ w) ⊎ ((v < w) ⊎ (w < v)) → (is_before us vs ≡ true → is_before vs ws ≡ true → is_before us ws ≡ true) → is_before (u ∷ us) (w ∷ ws) ≡ true
    by (inl one) (inl two) rest =
        first_same u w (is_before us ws) (one ∙ two)
        ∙ rest (sym (first_same u v (is_before us vs) one) ∙ h) (sym (first_same v w (is_before vs ws) two) ∙ k)
    by (inl one) (inr (inl two)) rest = first_less u w (nat_eq u w && is_before us ws) (omega (arith, one, two))
    by (inl one) (inr (inr two)) rest = absurd (false≢true (sym (first_more v w (is_before vs ws) two) ∙ k))
    by (inr (inl one)) (inl two) rest = first_less u w (nat_eq u w && is_before us ws) (omega (arith, one, two))
    by (inr (inl one)) (inr (inl two)) rest = first_less u w (nat_eq u w && is_before us ws) (omega (arith, one, two))
    by (inr (inl one)) (inr (inr two)) rest = absurd (false≢true (sym (first_more v w (is_before vs ws) two) ∙ k))
    by (inr (inr one)) other rest = absurd (false≢true (sym (first_more u v (is_before us vs) one) ∙ h))

-- ---- insertion

all_if : (P : Choice → Type 0) (b : Bool) (one l : Listed) (ls more : List Listed) → P one.choice → P l.choice → All P (choices_of ls) → All P (choices_of more) → All P (choices_of (if b then one ∷ l ∷ ls else l ∷ more))
all_if P true one l ls more p q h k = All-cons P one.choice (choices_of (l ∷ ls)) p (All-cons P l.choice (choices_of ls) q h)
all_if P false one l ls more p q h k = All-cons P l.choice (choices_of more) q k

pub all_inserted : (P : Choice → Type 0) (one : Listed) (ls : List Listed) → P one.choice → All P (choices_of ls) → All P (choices_of (inserted one ls))
all_inserted P one [] p h = All-cons P one.choice [] p (All-nil P)
all_inserted P one (l ∷ ls) p h =
    let rest = All-tail P l.choice (choices_of ls) h in
    all_if P (is_before one.choice.values l.choice.values) one l ls (inserted one ls) p (All-head P l.choice (choices_of ls) h) rest (all_inserted P one ls p rest)

listed_if : (P : Listed → Type 0) (b : Bool) (one l : Listed) (ls more : List Listed) → P one → P l → All P ls → All P more → All P (if b then one ∷ l ∷ ls else l ∷ more)
listed_if P true one l ls more p q h k = All-cons P one (l ∷ ls) p (All-cons P l ls q h)
listed_if P false one l ls more p q h k = All-cons P l more q k

pub listed_inserted : (P : Listed → Type 0) (one : Listed) (ls : List Listed) → P one → All P ls → All P (inserted one ls)
listed_inserted P one [] p h = All-cons P one [] p (All-nil P)
listed_inserted P one (l ∷ ls) p h =
    let rest = All-tail P l ls h in
    listed_if P (is_before one.choice.values l.choice.values) one l ls (inserted one ls) p (All-head P l ls h) rest (listed_inserted P one ls p rest)

length_if : (b : Bool) (one l : Listed) (ls more : List Listed) → length more ≡ suc (length ls) → length (if b then one ∷ l ∷ ls else l ∷ more) ≡ suc (suc (length ls))
length_if true one l ls more h = refl
length_if false one l ls more h = ap suc h

pub length_inserted : (one : Listed) (ls : List Listed) → length (inserted one ls) ≡ suc (length ls)
length_inserted one [] = refl
length_inserted one (l ∷ ls) = length_if (is_before one.choice.values l.choice.values) one l ls (inserted one ls) (length_inserted one ls)

-- the values of a choice are before those of another
abbrev Before : List ℕ → Choice → Type 0
Before values d = is_before values d.values ≡ true

-- they are as many, and others
pub record IsOther (values : List ℕ) (d : Choice) : Type 0 where
  pub long : length values ≡ length d.values
  pub other : values ≡ d.values → ⊥

ascend_if : (b : Bool) (one l : Listed) (ls : List Listed) → is_before one.choice.values l.choice.values ≡ b → IsOther one.choice.values l.choice → All (Before l.choice.values) (choices_of ls) → AreAscending (choices_of ls) → AreAscending (choices_of (inserted one ls)) → AreAscending (choices_of (if b then one ∷ l ∷ ls else l ∷ inserted one ls))
ascend_if true one l ls is other all ascend more = (
  All-cons (Before one.choice.values) l.choice (choices_of ls) is (All-weaker (Before l.choice.values) (Before one.choice.values) (λ d h. before_all one.choice.values l.choice.values d.values is h) (choices_of ls) all),
  (all, ascend),
)
ascend_if false one l ls is other all ascend more =
    (all_inserted (Before l.choice.values) one ls (other_way one.choice.values l.choice.values other.long is other.other) all, more)

pub ascend_inserted : (one : Listed) (ls : List Listed) → All (IsOther one.choice.values) (choices_of ls) → AreAscending (choices_of ls) → AreAscending (choices_of (inserted one ls))
ascend_inserted one [] other h = (All-nil (Before one.choice.values), tt)
ascend_inserted one (l ∷ ls) other h =
    ascend_if (is_before one.choice.values l.choice.values) one l ls refl
    (All-head (IsOther one.choice.values) l.choice (choices_of ls) other) h.0 h.1
    (ascend_inserted one ls (All-tail (IsOther one.choice.values) l.choice (choices_of ls) other) h.1)

-- ---- the code

rest_of : {A : Type 0} (xs : List A) (i : ℕ) (x : A) → i < length xs → x ≡ get_or xs i x → drop i xs ≡ x ∷ drop (i + 1) xs
rest_of xs i x below is = drop_more xs i x below ∙ ap (λ y. y ∷ drop (i + 1) xs) (sym is)

before_none : (vs : List ℕ) → is_before vs [] ≡ false
before_none [] = refl
before_none (v ∷ vs) = refl

pub before_short : (vs ws : List ℕ) (i : ℕ) → length ws ≤ i → is_before (drop i vs) (drop i ws) ≡ false
before_short vs ws i short = ap (is_before (drop i vs)) (drop_all i ws short) ∙ before_none (drop i vs)

pub before_end : (vs ws : List ℕ) (i : ℕ) → length vs ≤ i → is_before (drop i vs) (drop i ws) ≡ false
before_end vs ws i short = ap (λ xs. is_before xs (drop i ws)) (drop_all i vs short)

pub before_more : (vs ws : List ℕ) (i v w : ℕ) → i < length vs → i < length ws → v ≡ get_or vs i v → w ≡ get_or ws i w → w < v → is_before (drop i vs) (drop i ws) ≡ false
before_more vs ws i v w m n is as_well h =
    (λ j. is_before (rest_of vs i v m is j) (rest_of ws i w n as_well j)) ∙ first_more v w (is_before (drop (i + 1) vs) (drop (i + 1) ws)) h

pub before_less : (vs ws : List ℕ) (i v w : ℕ) → i < length vs → i < length ws → v ≡ get_or vs i v → w ≡ get_or ws i w → v < w → is_before (drop i vs) (drop i ws) ≡ true
before_less vs ws i v w m n is as_well h =
    (λ j. is_before (rest_of vs i v m is j) (rest_of ws i w n as_well j)) ∙ first_less v w (nat_eq v w && is_before (drop (i + 1) vs) (drop (i + 1) ws)) h

pub before_same : (vs ws : List ℕ) (i v w : ℕ) → i < length vs → i < length ws → v ≡ get_or vs i v → w ≡ get_or ws i w → v ≤ w → w ≤ v → is_before (drop i vs) (drop i ws) ≡ is_before (drop (i + 1) vs) (drop (i + 1) ws)
before_same vs ws i v w m n is as_well h k =
    (λ j. is_before (rest_of vs i v m is j) (rest_of ws i w n as_well j)) ∙ first_same v w (is_before (drop (i + 1) vs) (drop (i + 1) ws)) (omega (arith, h, k))

pub ruleset before = (before_short, before_end, before_more, before_less, before_same)

pub place_within : (values : List ℕ) (ls : List Listed) → place_of values ls ≤ length ls
place_within values [] = omega arith
place_within values (l ∷ ls) = by (is_before values l.choice.values) (place_within values ls)
  where
    by : (b : Bool) → place_of values ls ≤ length ls → (if b then zero else suc (place_of values ls)) ≤ suc (length ls)
    by true h = omega arith
    by false h = omega (arith, h)

-- the rest of a list, by its first
pub places_here : (values : List ℕ) (ls : List Listed) (i : ℕ) (d : Listed) → i < length ls → is_before values (get_or ls i d).choice.values ≡ true → place_of values (drop i ls) ≡ 0
places_here values ls i d below is =
    ap (place_of values) (drop_more ls i d below) ∙ ap (λ b. if b then zero else suc (place_of values (drop (i + 1) ls))) is

pub places_on : (values : List ℕ) (ls : List Listed) (i : ℕ) (d : Listed) → i < length ls → is_before values (get_or ls i d).choice.values ≡ false → place_of values (drop i ls) ≡ suc (place_of values (drop (i + 1) ls))
places_on values ls i d below is =
    ap (place_of values) (drop_more ls i d below) ∙ ap (λ b. if b then zero else suc (place_of values (drop (i + 1) ls))) is

pub places_end : (values : List ℕ) (ls : List Listed) (i : ℕ) → length ls ≤ i → place_of values (drop i ls) ≡ 0
places_end values ls i end = ap (place_of values) (drop_all i ls end)

pub ruleset places = (places_here, places_on, places_end, place_within)

insert_if : (b : Bool) (one l : Listed) (ls : List Listed) (n : ℕ) → insert ls n one ≡ inserted one ls → insert (l ∷ ls) (if b then zero else suc n) one ≡ (if b then one ∷ l ∷ ls else l ∷ inserted one ls)
insert_if true one l ls n h = refl
insert_if false one l ls n h = ap (λ ms. l ∷ ms) h

pub insert_is : (one : Listed) (ls : List Listed) → insert ls (place_of one.choice.values ls) one ≡ inserted one ls
insert_is one [] = refl
insert_is one (l ∷ ls) = insert_if (is_before one.choice.values l.choice.values) one l ls (place_of one.choice.values ls) (insert_is one ls)

pub ruleset inserting = (insert_is)
