-- The functions that are marked are those that stay.
use Rattle.std.proofs.Common.{◌≡◌, ◌<◌, ◌≤◌, inl, inr, ℕ, zero, suc, ◌+◌, ◌-◌, Bool, true, false, List, [], ◌∷◌, ◌++◌, length, Option, Some, None, refl, sym, ap, subst, ◌∙◌, arith}
use Rattle.std.proofs.lemmas.Bool.{false≢true}
use Rattle.std.specs.Prelude.{◌⊎◌, Contains, replicate, slice_get, slice_set, slice_index_or, if◌then◌else◌}
use Rattle.sk_prog.specs.declared.ids.FunId.{FunId}
use Rattle.sk_prog.specs.declared.prog.FunKind.{FunKind}
use Rattle.sk_prog.specs.declared.prog.FunKind.TheVariants as kind
use Rattle.sk_prog.specs.declared.prog.Fun.{Fun}
use Rattle.sk_prune.specs.Called.{called}
use Rattle.sk_prune.specs.Stays.{Stays, Harness, Implementation, Reference, Called, AreMarks}
use Rattle.sk_prune.specs.Reached.{Reached, mark, mark_all, of_kind, of_implements, roots_from, called_in, called_at, visit, visits, first}

-- Lists

abbrev Every : {A : Type 0} → (A → Type 0) → List A → Type 0
Every Q [] = Unit {0}
Every Q (x ∷ xs) = Q x × Every Q xs

every_append : {A : Type 0} (Q : A → Type 0) (xs ys : List A) → Every Q xs → Every Q ys → Every Q (xs ++ ys)
every_append Q [] ys h k = k
every_append Q (x ∷ xs) ys h k = (h.0, every_append Q xs ys h.1 k)

every_split : {A : Type 0} (Q : A → Type 0) (xs ys : List A) → Every Q (xs ++ ys) → Every Q xs × Every Q ys
every_split Q [] ys h = (tt, h)
every_split Q (x ∷ xs) ys h = let r = every_split Q xs ys h.1 in ((h.0, r.0), r.1)

every_map : {A : Type 0} (P Q : A → Type 0) (xs : List A) → ((x : A) → P x → Q x) → Every P xs → Every Q xs
every_map P Q [] f h = tt
every_map P Q (x ∷ xs) f h = (f x h.0, every_map P Q xs f h.1)

contained : {A : Type 0} (Q : A → Type 0) (xs : List A) (x : A) (k : ℕ) → Every Q xs → k < length xs → slice_index_or xs k x ≡ x → Q x
contained Q [] x k h less is = absurd (omega (arith, less))
contained Q (y ∷ ys) x zero h less is = subst Q is h.0
contained Q (y ∷ ys) x (suc k) h less is = contained Q ys x k h.1 (omega (arith, less)) is

contains_here : {A : Type 0} (x : A) (xs : List A) → Contains (x ∷ xs) x
contains_here x xs = (0, omega arith, refl)

contains_later : {A : Type 0} (x y : A) (xs : List A) → Contains xs x → Contains (y ∷ xs) x
contains_later x y xs h = (suc h.0, (let less = h.1 in omega (arith, less)), h.2)

every_contained : {A : Type 0} (xs : List A) → Every (Contains xs) xs
every_contained [] = tt
every_contained (x ∷ xs) = (contains_here x xs, every_map (Contains xs) (Contains (x ∷ xs)) xs (λ y h. contains_later y x xs h) (every_contained xs))

get_last : (xs : List ℕ) (y : ℕ) → slice_get (xs ++ y ∷ []) (length xs) ≡ Some y
get_last [] y = refl
get_last (x ∷ xs) y = get_last xs y

get_more : (xs : List ℕ) (y i n : ℕ) → slice_get xs i ≡ Some n → slice_get (xs ++ y ∷ []) i ≡ Some n
get_more [] y i n h = cc
get_more (x ∷ xs) y zero n h = h
get_more (x ∷ xs) y (suc i) n h = get_more xs y i n h

get_back : (xs : List ℕ) (y i n : ℕ) → slice_get (xs ++ y ∷ []) i ≡ Some n → (slice_get xs i ≡ Some n) ⊎ (y ≡ n)
get_back [] y zero n h = let e : y ≡ n = cc in inr e
get_back [] y (suc i) n h = cc
get_back (x ∷ xs) y zero n h = inl h
get_back (x ∷ xs) y (suc i) n h = get_back xs y i n h

get_within : (xs : List ℕ) (i n : ℕ) → slice_get xs i ≡ Some n → i < length xs
get_within [] i n h = cc
get_within (x ∷ xs) zero n h = omega arith
get_within (x ∷ xs) (suc i) n h = let less = get_within xs i n h in omega (arith, less)

length_more : (xs : List ℕ) (y : ℕ) → length (xs ++ y ∷ []) ≡ suc (length xs)
length_more [] y = refl
length_more (x ∷ xs) y = ap suc (length_more xs y)

-- Marks

abbrev Marked : List Bool → ℕ → Type 0
Marked bs n = slice_index_or bs n false ≡ true

abbrev unmarked : List Bool → ℕ
unmarked [] = 0
unmarked (true ∷ bs) = unmarked bs
unmarked (false ∷ bs) = suc (unmarked bs)

set_length : (bs : List Bool) (n : ℕ) → length (slice_set bs n true) ≡ length bs
set_length [] n = refl
set_length (b ∷ bs) zero = refl
set_length (b ∷ bs) (suc n) = ap suc (set_length bs n)

set_here : (bs : List Bool) (n : ℕ) → slice_index_or bs n true ≡ false → Marked (slice_set bs n true) n
set_here [] n h = absurd (false≢true (sym h))
set_here (b ∷ bs) zero h = refl
set_here (b ∷ bs) (suc n) h = set_here bs n h

set_keeps : (bs : List Bool) (n m : ℕ) → Marked bs m → Marked (slice_set bs n true) m
set_keeps [] n m h = h
set_keeps (b ∷ bs) zero zero h = refl
set_keeps (b ∷ bs) zero (suc m) h = h
set_keeps (b ∷ bs) (suc n) zero h = h
set_keeps (b ∷ bs) (suc n) (suc m) h = set_keeps bs n m h

set_back : (bs : List Bool) (n m : ℕ) → Marked (slice_set bs n true) m → (n ≡ m) ⊎ Marked bs m
set_back [] n m h = inr h
set_back (b ∷ bs) zero zero h = inl refl
set_back (b ∷ bs) zero (suc m) h = inr h
set_back (b ∷ bs) (suc n) zero h = inr h
set_back (b ∷ bs) (suc n) (suc m) h = go (set_back bs n m h)
  where
    go : (n ≡ m) ⊎ Marked bs m → (suc n ≡ suc m) ⊎ Marked bs m
    go (inl e) = inl (ap suc e)
    go (inr k) = inr k

set_count : (bs : List Bool) (n : ℕ) → slice_index_or bs n true ≡ false → suc (unmarked (slice_set bs n true)) ≡ unmarked bs
set_count [] n h = absurd (false≢true (sym h))
set_count (true ∷ bs) zero h = absurd (false≢true (sym h))
set_count (false ∷ bs) zero h = refl
set_count (true ∷ bs) (suc n) h = set_count bs n h
set_count (false ∷ bs) (suc n) h = ap suc (set_count bs n h)

marked_there : (bs : List Bool) (n : ℕ) → n < length bs → slice_index_or bs n true ≡ true → Marked bs n
marked_there [] n less h = absurd (omega (arith, less))
marked_there (b ∷ bs) zero less h = h
marked_there (b ∷ bs) (suc n) less h = marked_there bs n (omega (arith, less)) h

none_marked : (n m : ℕ) → slice_index_or (replicate n false) m false ≡ false
none_marked zero m = refl
none_marked (suc n) zero = refl
none_marked (suc n) (suc m) = none_marked n m

all_unmarked : (n : ℕ) → unmarked (replicate n false) ≡ n
all_unmarked zero = refl
all_unmarked (suc n) = ap suc (all_unmarked n)

length_replicate : (n : ℕ) → length (replicate n false) ≡ n
length_replicate zero = refl
length_replicate (suc n) = ap suc (length_replicate n)

-- What is reached

module _ (funs : List Fun) where
  abbrev Stay : ℕ → Type 0
  Stay n = Stays funs n

  abbrev There : ℕ → Type 0
  There n = n < length funs

  -- a function is marked, where it is there
  abbrev Settled : Reached → ℕ → Type 0
  Settled r n = There n → Marked r.marks n

  record Good (r : Reached) : Type 0 where
    each : length r.marks ≡ length funs
    sound : (n : ℕ) → Marked r.marks n → Stay n
    found : (i n : ℕ) → slice_get r.found i ≡ Some n → Marked r.marks n
    noted : (n : ℕ) → Marked r.marks n → (i : ℕ) × (slice_get r.found i ≡ Some n)
    count : length r.found + unmarked r.marks ≡ length funs

  record Grows (r s : Reached) : Type 0 where
    marks : (n : ℕ) → Marked r.marks n → Marked s.marks n
    found : (i n : ℕ) → slice_get r.found i ≡ Some n → slice_get s.found i ≡ Some n

  grows_same : (r : Reached) → Grows r r
  grows_same r = record { marks = λ n h. h; found = λ i n h. h }

  grows_on : (r s t : Reached) → Grows r s → Grows s t → Grows r t
  grows_on r s t g h = record { marks = λ n k. h.marks n (g.marks n k); found = λ i n k. h.found i n (g.found i n k) }

  abbrev with_mark : Reached → ℕ → Reached
  with_mark r f = record { marks = slice_set r.marks f true; found = r.found ++ f ∷ [] }

  record Step (r s : Reached) : Type 0 where
    good : Good s
    grows : Grows r s

  one_more : (r : Reached) (f : ℕ) → Good r → Stay f → slice_index_or r.marks f true ≡ false → Step r (with_mark r f)
  one_more r f g stays new = record {
    good = record {
      each = set_length r.marks f ∙ g.each;
      sound = λ n h. by_set n (set_back r.marks f n h);
      found = λ i n h. by_place i n (get_back r.found f i n h);
      noted = λ n h. by_note n (set_back r.marks f n h);
      count = let a = set_count r.marks f new in let b = length_more r.found f in let c = g.count in omega (arith, a, b, c);
    };
    grows = record { marks = λ n h. set_keeps r.marks f n h; found = λ i n h. get_more r.found f i n h };
  }
    where
      by_set : (n : ℕ) → (f ≡ n) ⊎ Marked r.marks n → Stay n
      by_set n (inl e) = subst Stay e stays
      by_set n (inr h) = g.sound n h

      by_place : (i n : ℕ) → (slice_get r.found i ≡ Some n) ⊎ (f ≡ n) → Marked (slice_set r.marks f true) n
      by_place i n (inl h) = set_keeps r.marks f n (g.found i n h)
      by_place i n (inr e) = subst (Marked (slice_set r.marks f true)) e (set_here r.marks f new)

      by_note : (n : ℕ) → (f ≡ n) ⊎ Marked r.marks n → (i : ℕ) × (slice_get (r.found ++ f ∷ []) i ≡ Some n)
      by_note n (inl e) = (length r.found, subst (λ m. slice_get (r.found ++ f ∷ []) (length r.found) ≡ Some m) e (get_last r.found f))
      by_note n (inr h) = let i = g.noted n h in (i.0, get_more r.found f i.0 n i.1)

  record Marking (r s : Reached) (f : ℕ) : Type 0 where
    step : Step r s
    settled : Settled s f

  mark_step : (r : Reached) (f : ℕ) → Good r → Stay f → Marking r (mark r f) f
  mark_step r f g stays = go (slice_index_or r.marks f true) refl
    where
      go : (b : Bool) → slice_index_or r.marks f true ≡ b → Marking r (if b then r else with_mark r f) f
      go true e = record { step = record { good = g; grows = grows_same r }; settled = λ there. marked_there r.marks f (let each = g.each in omega (arith, each, there)) e }
      go false e = record { step = one_more r f g stays e; settled = λ there. set_here r.marks f e }

  settled_on : (r s : Reached) → Grows r s → (n : ℕ) → Settled r n → Settled s n
  settled_on r s g n h there = g.marks n (h there)

  record MarkingAll (r s : Reached) (fs : List ℕ) : Type 0 where
    step : Step r s
    settled : Every (Settled s) fs

  mark_steps : (fs : List ℕ) (r : Reached) → Good r → Every Stay fs → MarkingAll r (mark_all r fs) fs
  mark_steps [] r g h = record { step = record { good = g; grows = grows_same r }; settled = tt }
  mark_steps (f ∷ fs) r g h =
      let one = mark_step r f g h.0 in
      let first = one.step in
      let rest = mark_steps fs (mark r f) first.good h.1 in
      let more = rest.step in
      record {
        step = record { good = more.good; grows = grows_on r (mark r f) (mark_all (mark r f) fs) first.grows more.grows };
        settled = (settled_on (mark r f) (mark_all (mark r f) fs) more.grows f one.settled, rest.settled);
      }

  -- Visits

  -- what the functions found before this place call is marked
  abbrev Closed : Reached → ℕ → Type 0
  Closed r i = (j n : ℕ) → j < i → slice_get r.found j ≡ Some n → Every (Settled r) (called_in (slice_get funs n))

  calls_stay : (n : ℕ) → Stay n → Every Stay (called_in (slice_get funs n))
  calls_stay n stays = go (slice_get funs n) refl
    where
      go : (o : Option Fun) → slice_get funs n ≡ o → Every Stay (called_in o)
      go None e = tt
      go (Some f) e = every_map (Contains (called f.body)) Stay (called f.body) (λ g h. Called n f stays e h) (every_contained (called f.body))

  called_stay : (r : Reached) (i : ℕ) → Good r → Every Stay (called_at funs (slice_get r.found i))
  called_stay r i g = go (slice_get r.found i) refl
    where
      go : (o : Option ℕ) → slice_get r.found i ≡ o → Every Stay (called_at funs o)
      go None e = tt
      go (Some n) e = calls_stay n (g.sound n (g.found i n e))

  some_at : (xs : List ℕ) (i : ℕ) → i < length xs → (n : ℕ) × (slice_get xs i ≡ Some n)
  some_at [] i less = absurd (omega (arith, less))
  some_at (x ∷ xs) zero less = (x, refl)
  some_at (x ∷ xs) (suc i) less = some_at xs i (omega (arith, less))

  here_or_before : (j i : ℕ) → j < i + 1 → (j < i) ⊎ (j ≡ i)
  here_or_before zero zero h = inr refl
  here_or_before zero (suc i) h = inl (omega arith)
  here_or_before (suc j) zero h = absurd (omega (arith, h))
  here_or_before (suc j) (suc i) h = go (here_or_before j i (omega (arith, h)))
    where
      go : (j < i) ⊎ (j ≡ i) → (suc j < suc i) ⊎ (suc j ≡ suc i)
      go (inl less) = inl (omega (arith, less))
      go (inr e) = inr (ap suc e)

  record Visited (r s : Reached) (i : ℕ) : Type 0 where
    step : Step r s
    closed : Closed s (i + 1)

  -- what is reached after a function is visited
  abbrev after : Reached → ℕ → Reached
  after r m = mark_all r (called_in (slice_get funs m))

  visit_by : (r : Reached) (i : ℕ) (o : Option ℕ) → slice_get r.found i ≡ o → Good r → Closed r i → Visited r (mark_all r (called_at funs o)) i
  visit_by r i None e g closed = record { step = record { good = g; grows = grows_same r }; closed = λ j n less is. by_order j n is (here_or_before j i less) }
    where
      by_order : (j n : ℕ) → slice_get r.found j ≡ Some n → (j < i) ⊎ (j ≡ i) → Every (Settled r) (called_in (slice_get funs n))
      by_order j n is (inl less) = closed j n less is
      by_order j n is (inr same) = let k : None ≡ Some n = sym e ∙ ap (slice_get r.found) (sym same) ∙ is in cc
  visit_by r i (Some m) e g closed = record { step = all.step; closed = λ j n less is. by_order j n is (here_or_before j i less) }
    where
      all : MarkingAll r (after r m) (called_in (slice_get funs m))
      all = mark_steps (called_in (slice_get funs m)) r g (calls_stay m (g.sound m (g.found i m e)))

      grows : Grows r (after r m)
      grows = let step = all.step in step.grows

      before : (j n : ℕ) → j < length r.found → slice_get (after r m).found j ≡ Some n → slice_get r.found j ≡ Some n
      before j n less is =
          let k = some_at r.found j less in
          let same : Some k.0 ≡ Some n = sym (grows.found j k.0 k.1) ∙ is in
          k.1 ∙ same

      by_order : (j n : ℕ) → slice_get (after r m).found j ≡ Some n → (j < i) ⊎ (j ≡ i) → Every (Settled (after r m)) (called_in (slice_get funs n))
      by_order j n is (inl less) =
          let within = get_within r.found i m e in
          every_map (Settled r) (Settled (after r m)) (called_in (slice_get funs n)) (settled_on r (after r m) grows) (closed j n less (before j n (omega (arith, less, within)) is))
      by_order j n is (inr same) =
          let k : Some m ≡ Some n = sym (grows.found i m e) ∙ ap (slice_get (after r m).found) (sym same) ∙ is in
          let d : m ≡ n = cc in
          subst (λ a. Every (Settled (after r m)) (called_in (slice_get funs a))) d all.settled

  record Closes (s : Reached) (i : ℕ) : Type 0 where
    good : Good s
    closed : Closed s i

  visits_close : (n i : ℕ) (r : Reached) → Good r → Closed r i → Closes (visits funs r i n) (i + n)
  visits_close zero i r g closed = let e : i ≡ i + 0 = omega arith in record { good = g; closed = subst (Closed r) e closed }
  visits_close (suc n) i r g closed =
      let v = visit_by r i (slice_get r.found i) refl g closed in
      let step = v.step in
      let rest = visits_close n (i + 1) (visit funs r i) step.good v.closed in
      let e : i + 1 + n ≡ i + suc n = omega arith in
      record { good = rest.good; closed = subst (Closed (visits funs r i (suc n))) e rest.closed }

  visits_grow : (n i : ℕ) (r : Reached) → Good r → Closed r i → Grows r (visits funs r i n)
  visits_grow zero i r g closed = grows_same r
  visits_grow (suc n) i r g closed =
      let v = visit_by r i (slice_get r.found i) refl g closed in
      let step = v.step in
      grows_on r (visit funs r i) (visits funs r i (suc n)) step.grows (visits_grow n (i + 1) (visit funs r i) step.good v.closed)

  -- The first

  abbrev none : Reached
  none = record { marks = replicate (length funs) false; found = [] }

  none_good : Good none
  none_good = record {
    each = length_replicate (length funs);
    sound = λ n h. absurd (false≢true (sym (none_marked (length funs) n) ∙ h));
    found = λ i n h. cc;
    noted = λ n h. absurd (false≢true (sym (none_marked (length funs) n) ∙ h));
    count = (let e = all_unmarked (length funs) in omega (arith, e));
  }

  -- functions of which the first has this number
  abbrev Part : ℕ → List Fun → Type 0
  Part n fs = (j : ℕ) (f : Fun) → slice_get fs j ≡ Some f → slice_get funs (n + j) ≡ Some f

  next : (n : ℕ) (f : Fun) (fs : List Fun) → Part n (f ∷ fs) → Part (n + 1) fs
  next n f fs part j g is = let e : n + suc j ≡ n + 1 + j = omega arith in ap (slice_get funs) (sym e) ∙ part (suc j) g is

  here : (n : ℕ) (f : Fun) (fs : List Fun) → Part n (f ∷ fs) → slice_get funs n ≡ Some f
  here n f fs part = let e : n ≡ n + 0 = omega arith in ap (slice_get funs) e ∙ part 0 f refl

  kind_stays : (n : ℕ) (f : Fun) → slice_get funs n ≡ Some f → (k : FunKind) → f.kind ≡ k → Every Stay (of_kind n k)
  kind_stays n f is kind.Harness e = (Harness f is e, tt)
  kind_stays n f is kind.Plain e = tt
  kind_stays n f is kind.Generator e = tt

  implements_stay : (n : ℕ) (f : Fun) → slice_get funs n ≡ Some f → (o : Option FunId) → f.implements ≡ o → Every Stay (of_implements n o)
  implements_stay n f is None e = tt
  implements_stay n f is (Some g) e = (Implementation f g is e, (Reference n f g is e refl, tt))

  roots_stay : (n : ℕ) (fs : List Fun) → Part n fs → Every Stay (roots_from n fs)
  roots_stay n [] part = tt
  roots_stay n (f ∷ fs) part =
      let is = here n f fs part in
      every_append Stay (of_kind n f.kind) (of_implements n f.implements ++ roots_from (n + 1) fs) (kind_stays n f is f.kind refl)
      (every_append Stay (of_implements n f.implements) (roots_from (n + 1) fs) (implements_stay n f is f.implements refl) (roots_stay (n + 1) fs (next n f fs part)))

  -- what holds of all roots holds of those of one function
  roots_at : (Q : ℕ → Type 0) (n j : ℕ) (fs : List Fun) (f : Fun) → Every Q (roots_from n fs) → slice_get fs j ≡ Some f → Every Q (of_kind (n + j) f.kind) × Every Q (of_implements (n + j) f.implements)
  roots_at Q n j [] f h is = cc
  roots_at Q n zero (g ∷ gs) f h is =
      let same : g ≡ f = cc in
      let e : n ≡ n + 0 = omega arith in
      let a = every_split Q (of_kind n g.kind) (of_implements n g.implements ++ roots_from (n + 1) gs) h in
      let b = every_split Q (of_implements n g.implements) (roots_from (n + 1) gs) a.1 in
      subst (λ (z : ℕ × Fun). Every Q (of_kind z.0 z.1.kind) × Every Q (of_implements z.0 z.1.implements)) (λ i. (e i, same i)) (a.0, b.0)
  roots_at Q n (suc j) (g ∷ gs) f h is =
      let e : n + 1 + j ≡ n + suc j = omega arith in
      let a = every_split Q (of_kind n g.kind) (of_implements n g.implements ++ roots_from (n + 1) gs) h in
      let b = every_split Q (of_implements n g.implements) (roots_from (n + 1) gs) a.1 in
      subst (λ z. Every Q (of_kind z f.kind) × Every Q (of_implements z f.implements)) e (roots_at Q (n + 1) j gs f b.1 is)

  all_part : Part 0 funs
  all_part j f is = let e : j ≡ 0 + j = omega arith in ap (slice_get funs) (sym e) ∙ is

  root_of : (Q : ℕ → Type 0) (n : ℕ) (f : Fun) → Every Q (roots_from 0 funs) → slice_get funs n ≡ Some f → Every Q (of_kind n f.kind) × Every Q (of_implements n f.implements)
  root_of Q n f h is = let e : 0 + n ≡ n = omega arith in subst (λ z. Every Q (of_kind z f.kind) × Every Q (of_implements z f.implements)) e (roots_at Q 0 n funs f h is)

  -- All

  abbrev last : Reached
  last = visits funs (first funs) 0 (length funs)

  start : MarkingAll none (first funs) (roots_from 0 funs)
  start = mark_steps (roots_from 0 funs) none none_good (roots_stay 0 funs all_part)

  start_good : Good (first funs)
  start_good = let step = start.step in step.good

  nothing_closed : Closed (first funs) 0
  nothing_closed j n less is = absurd (omega (arith, less))

  end : Closes last (0 + length funs)
  end = visits_close (length funs) 0 (first funs) start_good nothing_closed

  roots_settled : Every (Settled last) (roots_from 0 funs)
  roots_settled = every_map (Settled (first funs)) (Settled last) (roots_from 0 funs) (settled_on (first funs) last (visits_grow (length funs) 0 (first funs) start_good nothing_closed)) start.settled

  -- what a marked function calls is marked
  closed : (n : ℕ) → Marked last.marks n → Every (Settled last) (called_in (slice_get funs n))
  closed n h =
      let g : Good last = end.good in
      let i = g.noted n h in
      let within = get_within last.found i.0 n i.1 in
      let count = g.count in
      end.closed i.0 n (omega (arith, within, count)) i.1

  fun_within : (fs : List Fun) (n : ℕ) (f : Fun) → slice_get fs n ≡ Some f → n < length fs
  fun_within [] n f h = cc
  fun_within (g ∷ gs) zero f h = omega arith
  fun_within (g ∷ gs) (suc n) f h = let less = fun_within gs n f h in omega (arith, less)

  complete : (n : ℕ) → Stays funs n → Settled last n
  complete n (Harness f is k) =
      let r = root_of (Settled last) n f roots_settled is in
      let s : Every (Settled last) (of_kind n kind.Harness) = subst (λ z. Every (Settled last) (of_kind n z)) k r.0 in
      s.0
  complete n (Implementation f g is k) =
      let r = root_of (Settled last) n f roots_settled is in
      let s : Every (Settled last) (of_implements n (Some g)) = subst (λ z. Every (Settled last) (of_implements n z)) k r.1 in
      s.0
  complete n (Reference m f g is k e) =
      let r = root_of (Settled last) m f roots_settled is in
      let s : Every (Settled last) (of_implements m (Some g)) = subst (λ z. Every (Settled last) (of_implements m z)) k r.1 in
      subst (Settled last) e s.1.0
  complete n (Called m f stays is c) =
      let marked = complete m stays (fun_within funs m f is) in
      let all : Every (Settled last) (called f.body) = subst (λ o. Every (Settled last) (called_in o)) is (closed m marked) in
      contained (Settled last) (called f.body) n c.0 all c.1 c.2

  last_are : AreMarks funs last.marks
  last_are = let g : Good last = end.good in record { each = g.each; stay = g.sound; marked = λ n f is stays. complete n stays (fun_within funs n f is) }

pub are_marks : (funs : List Fun) (r : Reached) → r ≡ visits funs (first funs) 0 (length funs) → AreMarks funs r.marks
are_marks funs r e = subst (λ (s : Reached). AreMarks funs s.marks) (sym e) (last_are funs)

pub visit_on : (funs : List Fun) (r : Reached) (i n : ℕ) → i < n → visits funs r i (n - i) ≡ visits funs (visit funs r i) (i + 1) (n - (i + 1))
visit_on funs r i n less = let e : n - i ≡ suc (n - (i + 1)) = omega (arith, less) in ap (visits funs r i) e

pub visit_first : (funs : List Fun) (r : Reached) (n : ℕ) → visits funs r 0 (n - 0) ≡ visits funs r 0 n
visit_first funs r n = let e : n - 0 ≡ n = omega arith in ap (visits funs r 0) e

pub visit_last : (funs : List Fun) (r : Reached) (i n : ℕ) → n ≤ i → visits funs r i (n - i) ≡ r
visit_last funs r i n less = let e : n - i ≡ 0 = omega (arith, less) in ap (visits funs r i) e

pub ruleset searching = (are_marks, visit_on, visit_first, visit_last)
