-- The table of places, when an item is put behind the others, and whether names are distinct.
use Rattle.std.proofs.Common.{◌≡◌, ℕ, zero, suc, ◌+◌, ◌<◌, Bool, true, false, not, ◌&&◌, ◌||◌, cond, List, [], ◌∷◌, ◌++◌, length, take, drop, get_or, is_some, Option, Some, None, refl, sym, ap, subst, ◌∙◌, arith, true≢false}
use Rattle.std.specs.Prelude.{map, if◌then◌else◌}
use Rattle.std.specs.List.{list_any}
use Rattle.std.specs.Cmp.Lexicographic.{bytes_decides, nat_list_eq_equiv}
use Rattle.std.specs.Str.{bytes_eq}
use Rattle.std.proofs.lemmas.List.{map-append, length-map, take_more, length-take-le, take-append-drop}
use Rattle.std.proofs.lemmas.List.Folds.{list_any-append}
use Rattle.sk_types_rules.specs.Scope.{place_of, next_place, all_distinct}
use Rattle.sk_types_names.proofs.Places.{split_at}
use Rattle.sk_types_names.specs.Tables.{number_of, Sets, ArePlaces}

abbrev or_place : Option ℕ → Option ℕ → Option ℕ
or_place None o = o
or_place (Some i) o = Some i

-- the place of a name, among one more
last_place : (xs : List (List ℕ)) (x y : List ℕ) → place_of (xs ++ x ∷ []) y ≡ or_place (place_of xs y) (cond (bytes_eq x y) (Some (length xs)) None)
last_place [] x y = refl
last_place (z ∷ zs) x y = by (bytes_eq z y) (place_of zs y) (bytes_eq x y) _ (last_place zs x y)
  where
    by : (b : Bool) (o : Option ℕ) (c : Bool) (r : Option ℕ) → r ≡ or_place o (cond c (Some (length zs)) None)
        → (if b then Some 0 else next_place r) ≡ or_place (if b then Some 0 else next_place o) (cond c (Some (suc (length zs))) None)
    by true o c r h = refl
    by false (Some i) c r h = ap next_place h
    by false None true r h = ap next_place h
    by false None false r h = ap next_place h

pub place_within : (xs : List (List ℕ)) (x : List ℕ) (i : ℕ) → place_of xs x ≡ Some i → i < length xs
place_within [] x i h = cc
place_within (z ∷ zs) x i h = by (bytes_eq z x) (place_of zs x) (λ j. place_within zs x j) h
  where
    by : (b : Bool) (o : Option ℕ) → ((j : ℕ) → o ≡ Some j → j < length zs) → (if b then Some 0 else next_place o) ≡ Some i → i < suc (length zs)
    by true o within h = let e : 0 ≡ i = cc in omega (arith, e)
    by false (Some j) within h = let e : suc j ≡ i = cc in let k = within j refl in omega (arith, e, k)
    by false None within h = cc

pub named_within : {X : Type 0} (name : X → List ℕ) (xs : List X) (x : List ℕ) (i : ℕ) → place_of (map name xs) x ≡ Some i → i < length xs
named_within name xs x i h = subst (λ n. i < n) (length-map xs name) (place_within (map name xs) x i h)

pub names_more : {X : Type 0} (name : X → List ℕ) (xs : List X) (x : X) → map name (xs ++ x ∷ []) ≡ map name xs ++ name x ∷ []
names_more name xs x = map-append name xs (x ∷ [])

pub names_length : {X : Type 0} (name : X → List ℕ) (xs : List X) → length (map name xs) ≡ length xs
names_length name xs = length-map xs name

-- no items
pub no_places : (rows : List (List ℕ × ℕ)) → rows ≡ [] → ArePlaces rows []
unfolding number_of
no_places rows h x = ap (λ rows. number_of rows x) h

-- one more, whose name is there
pub old_place : (rows : List (List ℕ × ℕ)) (names : List (List ℕ)) (x : List ℕ) (j : ℕ) → number_of rows x ≡ Some j → ArePlaces rows names → ArePlaces rows (names ++ x ∷ [])
old_place rows names x j is h y = h y ∙ by (place_of names y) (bytes_eq x y) refl refl ∙ sym (last_place names x y)
  where
    by : (o : Option ℕ) (b : Bool) → place_of names y ≡ o → bytes_eq x y ≡ b → o ≡ or_place o (cond b (Some (length names)) None)
    by (Some i) b at same = refl
    by None true at same = let e : None ≡ Some j = sym at ∙ sym (h y) ∙ ap (number_of rows) (sym ((bytes_decides x y).0 same)) ∙ is in cc
    by None false at same = refl

-- one more, whose name is new
pub new_place : (rows new : List (List ℕ × ℕ)) (names : List (List ℕ)) (x : List ℕ) (n : ℕ) → length names ≡ n → number_of rows x ≡ None → Sets rows new x (Some n) → ArePlaces rows names → ArePlaces new (names ++ x ∷ [])
new_place rows new names x n length_is none sets h y = sets y ∙ by (place_of names y) (bytes_eq x y) refl refl ∙ sym (last_place names x y)
  where
    by : (o : Option ℕ) (b : Bool) → place_of names y ≡ o → bytes_eq x y ≡ b → cond b (Some n) (number_of rows y) ≡ or_place o (cond b (Some (length names)) None)
    by (Some i) true at same = let e : Some i ≡ None = sym at ∙ sym (h y) ∙ ap (number_of rows) (sym ((bytes_decides x y).0 same)) ∙ none in cc
    by None true at same = ap Some (sym length_is)
    by (Some i) false at same = h y ∙ at
    by None false at same = h y ∙ at

-- names that are distinct stay so with a new one
pub distinct_more : (xs : List (List ℕ)) (x : List ℕ) → all_distinct xs ≡ true → place_of xs x ≡ None → all_distinct (xs ++ x ∷ []) ≡ true
distinct_more [] x apart none = refl
distinct_more (z ∷ zs) x apart none = by (bytes_eq z x) (place_of zs x) (list_any (bytes_eq z) zs) (all_distinct zs) refl refl (λ d o. distinct_more zs x d o) refl refl none apart
  where
    by : (b : Bool) (o : Option ℕ) (a d : Bool) → bytes_eq z x ≡ b → list_any (bytes_eq z) zs ≡ a → (all_distinct zs ≡ true → place_of zs x ≡ None → all_distinct (zs ++ x ∷ []) ≡ true)
        → place_of zs x ≡ o → all_distinct zs ≡ d → (if b then Some 0 else next_place o) ≡ None → (not a && d) ≡ true → all_distinct (z ∷ (zs ++ x ∷ [])) ≡ true
    by true o a d same any more at rest none apart = cc
    by false (Some i) a d same any more at rest none apart = cc
    by false None true d same any more at rest none apart = cc
    by false None false false same any more at rest none apart = cc
    by false None false true same any more at rest none apart =
        let others : list_any (bytes_eq z) (zs ++ x ∷ []) ≡ false = list_any-append (bytes_eq z) zs (x ∷ []) ∙ (λ i. any i || (same i || false)) in
        (λ i. not (others i) && more rest at i)

-- names one of which is there already are not distinct
pub distinct_none : (xs : List (List ℕ)) (x : List ℕ) (ys : List (List ℕ)) (j : ℕ) → place_of xs x ≡ Some j → all_distinct (xs ++ x ∷ ys) ≡ false
distinct_none [] x ys j h = cc
distinct_none (z ∷ zs) x ys j h = by (bytes_eq z x) (place_of zs x) refl (λ i. distinct_none zs x ys i) h
  where
    never : (b : Bool) → (b && false) ≡ false
    never true = refl
    never false = refl

    later : (b : Bool) → (b || true) ≡ true
    later true = refl
    later false = refl

    by : (b : Bool) (o : Option ℕ) → bytes_eq z x ≡ b → ((i : ℕ) → o ≡ Some i → all_distinct (zs ++ x ∷ ys) ≡ false) → (if b then Some 0 else next_place o) ≡ Some j → all_distinct (z ∷ (zs ++ x ∷ ys)) ≡ false
    by true o same more h =
        let there : list_any (bytes_eq z) (zs ++ x ∷ ys) ≡ true = list_any-append (bytes_eq z) zs (x ∷ ys) ∙ (λ i. list_any (bytes_eq z) zs || (same i || list_any (bytes_eq z) ys)) ∙ later (list_any (bytes_eq z) zs) in
        ap (λ b. not b && all_distinct (zs ++ x ∷ ys)) there
    by false (Some i) same more h = ap (λ d. not (list_any (bytes_eq z) (zs ++ x ∷ ys)) && d) (more i refl) ∙ never (not (list_any (bytes_eq z) (zs ++ x ∷ ys)))
    by false None same more h = cc

-- the loop that sees whether names are distinct
no_number : (o : Option ℕ) → is_some o ≡ false → o ≡ None
no_number None h = refl
no_number (Some i) h = absurd (true≢false h)

module _ {X : Type 0} (name : X → List ℕ) (items : List X) (i : ℕ) (x : X) (rows : List (List ℕ × ℕ)) (n : List ℕ) where
  pub distinct_step : (new : List (List ℕ × ℕ)) → i < length items → x ≡ get_or items i x → n ≡ name x → ArePlaces rows (map name (take i items)) → all_distinct (map name (take i items)) ≡ true
      → is_some (number_of rows n) ≡ false → Sets rows new n (Some i) → ArePlaces new (map name (take (i + 1) items)) × (all_distinct (map name (take (i + 1) items)) ≡ true)
  distinct_step new within at is places apart none sets =
      let names = map name (take i items) in
      let more : map name (take (i + 1) items) ≡ names ++ n ∷ [] =
      ap (map name) (take_more items i x within ∙ ap (λ y. take i items ++ y ∷ []) (sym at)) ∙ names_more name (take i items) x ∙ ap (λ n. names ++ n ∷ []) (sym is) in
      let long : length names ≡ i = names_length name (take i items) ∙ length-take-le i items (omega (arith, within)) in
      let absent = no_number (number_of rows n) none in
      (subst (ArePlaces new) (sym more) (new_place rows new names n i long absent sets places), ap all_distinct more ∙ distinct_more names n apart (sym (places n) ∙ absent))

  pub distinct_end : i < length items → x ≡ get_or items i x → n ≡ name x → ArePlaces rows (map name (take i items)) → is_some (number_of rows n) ≡ true → all_distinct (map name items) ≡ false
  distinct_end within at is places some =
      let names = map name (take i items) in
      let rest = map name (drop (i + 1) items) in
      let whole : map name items ≡ names ++ n ∷ rest =
      ap (map name) (sym (take-append-drop i items) ∙ ap (λ l. take i items ++ l) (split_at items i x within at)) ∙ map-append name (take i items) (x ∷ drop (i + 1) items) ∙ ap (λ n. names ++ n ∷ rest) (sym is) in
      ap all_distinct whole ∙ by (place_of names n) refl (ap is_some (sym (places n)) ∙ some)
    where
      by : (o : Option ℕ) → place_of (map name (take i items)) n ≡ o → is_some o ≡ true → all_distinct (map name (take i items) ++ n ∷ map name (drop (i + 1) items)) ≡ false
      by None at some = absurd (true≢false (sym some))
      by (Some j) at some = distinct_none (map name (take i items)) n (map name (drop (i + 1) items)) j at
