-- Lines, read one by one.
use Rattle.std.proofs.Common.{◌≡◌, ◌≢◌, ◌∙◌, ◌++◌, ◌∷◌, ◌<◌, ◌+◌, ℕ, suc, false, List, [], length, take, drop, get_or, refl, sym, ap, subst, arith, append_assoc, cond, inl, inr, length-append, eqb, ltb}
use Rattle.std.specs.Prelude.{Option, Some, None, option_and_then}
use Rattle.std.specs.List.{position, position_or_len}
use Rattle.std.proofs.lemmas.Bool.{ne_eqb, lt-ltb, eqb-true}
use Rattle.std.proofs.lemmas.List.{take-append-drop, get_or-take, length-take-le, take_at, drop_at}
use Rattle.std.proofs.lemmas.List.Quantifiers.{position-Some}
use Rattle.std.proofs.lemmas.List.Elements.{All-head, All-tail, All-from_get_or}
use Rattle.std.proofs.Math.Seq.{drop-cons}
use Rattle.sk_cert.specs.Readers.{one, is_feed, line_up_to, passed}
use Rattle.sk_cert.proofs.Exact.{IsLine, Halts, Exact, ok_of, err_of, ok_same, err_same, ok_err, err_ok}

-- Where the first line feed stands

feed_at : (line rest : List ℕ) → IsLine line → position_or_len is_feed (line ++ 10 ∷ rest) ≡ length line
feed_at [] rest h = refl
feed_at (b ∷ bs) rest h =
    let e : eqb b 10 ≡ false = ne_eqb b 10 (All-head (λ c. c ≢ 10) b bs h) in
    let t : position_or_len is_feed (bs ++ 10 ∷ rest) ≡ length bs = feed_at bs rest (All-tail (λ c. c ≢ 10) b bs h) in
    rw e (omega arith)

pub position_line : (line rest : List ℕ) → IsLine line → position is_feed (line ++ 10 ∷ rest) ≡ Some (length line)
position_line line rest h =
    let within : length line < length (line ++ 10 ∷ rest) = omega (arith, length-append line (10 ∷ rest)) in
    ap (λ k. cond (ltb k (length (line ++ 10 ∷ rest))) (Some k) None) (feed_at line rest h)
    ∙ ap (λ b. cond b (Some (length line)) None) (lt-ltb (length line) (length (line ++ 10 ∷ rest)) within)

pub record Found (bs : List ℕ) (i : ℕ) : Type 0 where
  pub within : i < length bs
  pub line : IsLine (take i bs)
  pub is : bs ≡ take i bs ++ 10 ∷ drop (i + 1) bs

pub line_found : (bs : List ℕ) (i : ℕ) → position is_feed bs ≡ Some i → Found bs i
line_found bs i h =
    let p = position-Some is_feed bs i 0 h in
    let feed : get_or bs i 0 ≡ 10 = eqb-true (get_or bs i 0) 10 p.1 in
    let size : length (take i bs) ≡ i = length-take-le i bs (omega (arith, p.0)) in
    let next : suc i ≡ i + 1 = omega arith in
    record {
      within = p.0;
      line = All-from_get_or (λ b. b ≢ 10) (take i bs) 0 (λ k below. not_feed k (omega arith) (p.2 k (omega arith)));
      is = sym (take-append-drop i bs) ∙ ap (λ t. take i bs ++ t) (drop-cons bs i 0 p.0 ∙ ap (λ b. b ∷ drop (suc i) bs) feed ∙ ap (λ j. 10 ∷ drop j bs) next);
    }
  where
    not_feed : (k : ℕ) → k < i → eqb (get_or bs k 0) 10 ≡ false → get_or (take i bs) k 0 ≢ 10
    not_feed k below e is =
        let same : get_or (take i bs) k 0 ≡ get_or bs k 0 = get_or-take i bs k 0 below in
        Rattle.std.proofs.lemmas.Bool.eqb-false (get_or bs k 0) 10 e (sym same ∙ is)

pub no_feed : (bs line behind : List ℕ) → position is_feed bs ≡ None → IsLine line → bs ≡ line ++ 10 ∷ behind → ⊥
no_feed bs line behind h c e =
    let k : None ≡ Some (length line) = sym h ∙ ap (position is_feed) e ∙ position_line line behind c in
    cc

-- What a function answers of a line is what it reads there.

pub one_at : {A : Type 0} (f : List ℕ → Option A) (line rest : List ℕ) → IsLine line → one f (line ++ 10 ∷ rest) ≡ passed (f line) (line ++ 10 ∷ rest) (length line)
unfolding one
one_at f line rest h =
    ap (line_up_to f (line ++ 10 ∷ rest)) (position_line line rest h)
    ∙ ap (λ l. passed (f l) (line ++ 10 ∷ rest) (length line)) (take_at line (10 ∷ rest) (length line) refl)

pub passed_line : {A : Type 0} (line rest : List ℕ) (a : A) → passed (Some a) (line ++ 10 ∷ rest) (length line) ≡ ok_of (a, rest)
passed_line {A} line rest a =
    let n : length (line ++ 10 ∷ []) ≡ length line + 1 = length-append line (10 ∷ []) in
    ap (λ bs. ok_of {A = A} (a, drop (length line + 1) bs)) (sym (append_assoc line (10 ∷ []) rest))
    ∙ ap (λ (r : List ℕ). ok_of {A = A} (a, r)) (drop_at (line ++ 10 ∷ []) rest (length line + 1) n)

-- The function answers exactly what each line writes.
pub record Spells {A : Type 0} (f : List ℕ → Option A) (line : A → List ℕ) (ok : A → Type 0) : Type 0 where
  pub spelt : (l : List ℕ) (a : A) → f l ≡ Some a → ok a × (l ≡ line a)
  pub found : (a : A) → ok a → f (line a) ≡ Some a
  pub clean : (a : A) → ok a → IsLine (line a)
  pub some : A
  pub fits : ok some

pub exact_one : {A : Type 0} (f : List ℕ → Option A) (line : A → List ℕ) (ok : A → Type 0) → Spells f line ok → Exact (one f) (λ a. line a ++ 10 ∷ []) ok
unfolding one
exact_one {A} f line ok s = record {
  done = λ bs v h. done_at bs v (position is_feed bs) refl h;
  reads = λ a rest k.
      ap (one f) (append_assoc (line a) (10 ∷ []) rest)
      ∙ one_at f (line a) rest (s.clean a k)
      ∙ ap (λ o. passed o (line a ++ 10 ∷ rest) (length (line a))) (s.found a k)
      ∙ passed_line (line a) rest a;
  whole = λ a k. inr (line a, refl);
  halts = λ bs n h. halts_at bs n (position is_feed bs) refl h;
}
  where
    done_in : (bs : List ℕ) (v : A × List ℕ) (i : ℕ) → Found bs i → (o : Option A) → f (take i bs) ≡ o → passed o bs i ≡ ok_of v → ok v.0 × (bs ≡ (line v.0 ++ 10 ∷ []) ++ v.1)
    done_in bs v i l None is h = absurd (err_ok v (length bs) h)
    done_in bs v i l (Some a) is h =
        let k = s.spelt (take i bs) a is in
        subst (λ (u : A × List ℕ). ok u.0 × (bs ≡ (line u.0 ++ 10 ∷ []) ++ u.1)) (ok_same (a, drop (i + 1) bs) v h)
        (k.0, l.is ∙ ap (λ t. t ++ 10 ∷ drop (i + 1) bs) k.1 ∙ sym (append_assoc (line a) (10 ∷ []) (drop (i + 1) bs)))

    done_at : (bs : List ℕ) (v : A × List ℕ) (p : Option ℕ) → position is_feed bs ≡ p → line_up_to f bs p ≡ ok_of v → ok v.0 × (bs ≡ (line v.0 ++ 10 ∷ []) ++ v.1)
    done_at bs v None is h = absurd (err_ok v (length bs) h)
    done_at bs v (Some i) is h = done_in bs v i (line_found bs i is) (f (take i bs)) refl h

    stopped : (bs : List ℕ) (n : ℕ) → length bs ≡ n → ((l behind other : List ℕ) → IsLine l → bs ≡ l ++ 10 ∷ behind → one f (l ++ 10 ∷ other) ≡ err_of (length (l ++ 10 ∷ other))) → Halts (one f) (λ a. line a ++ 10 ∷ []) ok bs n
    stopped bs n e k = record {
      front = [];
      rest = bs;
      is = refl;
      left = sym e;
      a = s.some;
      fits = s.fits;
      more = line s.some ++ 10 ∷ [];
      begins = refl;
      whole = inl refl;
      stays = λ l behind other c d. k l behind other c d;
    }

    halts_in : (bs : List ℕ) (n i : ℕ) → position is_feed bs ≡ Some i → (o : Option A) → f (take i bs) ≡ o → passed o bs i ≡ err_of n → Halts (one f) (λ a. line a ++ 10 ∷ []) ok bs n
    halts_in bs n i p (Some a) is h = absurd (ok_err (a, drop (i + 1) bs) n h)
    halts_in bs n i p None is h = stopped bs n (err_same {A = A} (length bs) n h) (λ l behind other c d. stays_in bs i p is l behind other c d)
      where
        stays_in : (bs : List ℕ) (i : ℕ) → position is_feed bs ≡ Some i → f (take i bs) ≡ None → (l behind other : List ℕ) → IsLine l → bs ≡ l ++ 10 ∷ behind → one f (l ++ 10 ∷ other) ≡ err_of (length (l ++ 10 ∷ other))
        stays_in bs i p is l behind other c d =
            let j : Some i ≡ Some (length l) = sym p ∙ ap (position is_feed) d ∙ position_line l behind c in
            let same : i ≡ length l = cc in
            let cut : take i bs ≡ l = ap (λ m. take m bs) same ∙ ap (take (length l)) d ∙ take_at l (10 ∷ behind) (length l) refl in
            one_at f l other c ∙ ap (λ o. passed o (l ++ 10 ∷ other) (length l)) (ap f (sym cut) ∙ is)

    halts_at : (bs : List ℕ) (n : ℕ) (p : Option ℕ) → position is_feed bs ≡ p → line_up_to f bs p ≡ err_of n → Halts (one f) (λ a. line a ++ 10 ∷ []) ok bs n
    halts_at bs n None is h = stopped bs n (err_same {A = A} (length bs) n h) (λ l behind other c d. absurd (no_feed bs l behind is c d))
    halts_at bs n (Some i) is h = halts_in bs n i is (f (take i bs)) refl h

-- A function of what another answers.
pub record Takes {A B : Type 0} (p : A → Option B) (back : B → A) (ok : A → Type 0) (fine : B → Type 0) : Type 0 where
  pub took : (a : A) (b : B) → ok a → p a ≡ Some b → fine b × (a ≡ back b)
  pub good : (b : B) → fine b → ok (back b)
  pub takes : (b : B) → fine b → p (back b) ≡ Some b
  pub some : B
  pub fits : fine some

pub spells_then : {A B : Type 0} (f : List ℕ → Option A) (p : A → Option B) (back : B → A) (line : A → List ℕ) (ok : A → Type 0) (fine : B → Type 0) → Spells f line ok → Takes p back ok fine → Spells (λ l. option_and_then p (f l)) (λ b. line (back b)) fine
spells_then {A} {B} f p back line ok fine s t = record {
  spelt = λ l b h. spelt_from l b (f l) refl h;
  found = λ b k. ap (option_and_then p) (s.found (back b) (t.good b k)) ∙ t.takes b k;
  clean = λ b k. s.clean (back b) (t.good b k);
  some = t.some;
  fits = t.fits;
}
  where
    spelt_from : (l : List ℕ) (b : B) (o : Option A) → f l ≡ o → option_and_then p o ≡ Some b → fine b × (l ≡ line (back b))
    spelt_from l b None is h = absurd (cc)
    spelt_from l b (Some a) is h =
        let k = s.spelt l a is in
        let u = t.took a b k.0 h in
        (u.0, k.1 ∙ ap line u.1)
