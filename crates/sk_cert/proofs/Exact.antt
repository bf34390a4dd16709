-- Readers that read exactly the texts of what they read.
use Rattle.std.proofs.Common.{◌≡◌, ◌≢◌, ◌∙◌, ◌++◌, ◌∷◌, ℕ, zero, suc, List, [], length, refl, sym, ap, subst, arith, append_assoc, inl, inr}
use Rattle.std.specs.Prelude.{Ok, Err, All, ◌⊎◌}
use Rattle.std.specs.List.{flat_map}
use Rattle.std.proofs.lemmas.List.{append-nil}
use Rattle.std.proofs.lemmas.List.Elements.{All-nil, All-cons, All-head, All-tail}
use Rattle.sk_cert.specs.Readers.{Outcome, Reader, ◌>>=◌, mapped, pair, given, onto, repeated}

-- no line feed
abbrev pub IsLine : List ℕ → Type 0
IsLine line = All (λ b. b ≢ 10) line

-- whole lines
abbrev pub IsWhole : List ℕ → Type 0
IsWhole bs = (bs ≡ []) ⊎ ((before : List ℕ) × (bs ≡ before ++ 10 ∷ []))

-- Where a reader stops, what it has passed are lines with which the text of something begins that it reads; and with the
-- line there, whatever follows, it stops as well.
pub record Halts {A : Type 0} (r : Reader A) (text : A → List ℕ) (ok : A → Type 0) (bs : List ℕ) (n : ℕ) : Type 0 where
  pub front : List ℕ
  pub rest : List ℕ
  pub is : bs ≡ front ++ rest
  pub left : n ≡ length rest
  pub a : A
  pub fits : ok a
  pub more : List ℕ
  pub begins : text a ≡ front ++ more
  pub whole : IsWhole front
  pub stays : (line behind other : List ℕ) → IsLine line → rest ≡ line ++ 10 ∷ behind → r (front ++ (line ++ 10 ∷ other)) ≡ Err (length (line ++ 10 ∷ other))

pub record Exact {A : Type 0} (r : Reader A) (text : A → List ℕ) (ok : A → Type 0) : Type 0 where
  pub done : (bs : List ℕ) (v : A × List ℕ) → r bs ≡ Ok v → ok v.0 × (bs ≡ text v.0 ++ v.1)
  pub reads : (a : A) (rest : List ℕ) → ok a → r (text a ++ rest) ≡ Ok (a, rest)
  pub whole : (a : A) → ok a → IsWhole (text a)
  pub halts : (bs : List ℕ) (n : ℕ) → r bs ≡ Err n → Halts r text ok bs n

-- there is something that it reads
pub some_of : {A : Type 0} (r : Reader A) (text : A → List ℕ) (ok : A → Type 0) → Exact r text ok → (a : A) × ok a
some_of {A} r text ok e = from (r []) refl
  where
    from : (o : Outcome A) → r [] ≡ o → (a : A) × ok a
    from (Ok v) is = (v.0, (e.done [] v is).0)
    from (Err n) is = let h = e.halts [] n is in (h.a, h.fits)

abbrev pub ok_of : {A : Type 0} → A × List ℕ → Outcome A
ok_of v = Ok v

abbrev pub err_of : {A : Type 0} → ℕ → Outcome A
err_of n = Err n

pub ok_same : {A : Type 0} (v w : A × List ℕ) → ok_of v ≡ ok_of w → v ≡ w
ok_same v w h = cc

pub err_same : {A : Type 0} (n m : ℕ) → err_of {A = A} n ≡ err_of m → n ≡ m
err_same n m h = cc

pub ok_err : {A : Type 0} (v : A × List ℕ) (n : ℕ) → ok_of v ≡ err_of n → ⊥
ok_err v n h = cc

pub err_ok : {A : Type 0} (v : A × List ℕ) (n : ℕ) → err_of n ≡ ok_of v → ⊥
err_ok v n h = cc

-- whole lines one behind another
pub whole_both : (a b : List ℕ) → IsWhole a → IsWhole b → IsWhole (a ++ b)
whole_both a b h (inl e) = subst IsWhole (sym (append-nil a) ∙ ap (λ t. a ++ t) (sym e)) h
whole_both a b h (inr k) = inr (a ++ k.0, ap (λ t. a ++ t) k.1 ∙ sym (append_assoc a k.0 (10 ∷ [])))

pub exact_given : {A : Type 0} (a : A) → Exact (given a) (λ b. []) (λ b. b ≡ a)
exact_given {A} a = record {
  done = λ bs v h. let e = ok_same (a, bs) v h in (sym (ap (λ u. u.0) e), ap (λ u. u.1) e);
  reads = λ b rest h. ap (λ (x : A). ok_of (x, rest)) (sym h);
  whole = λ b h. inl refl;
  halts = λ bs n h. absurd (ok_err (a, bs) n h);
}

-- What is read as one thing is read as another that stands for it.
pub record Turns {A B : Type 0} (f : A → B) (g : B → A) (text : A → List ℕ) (ok : A → Type 0) (out : B → List ℕ) (fine : B → Type 0) : Type 0 where
  pub there : (a : A) → ok a → fine (f a)
  pub again : (a : A) → ok a → g (f a) ≡ a
  pub back : (b : B) → fine b → ok (g b)
  pub same : (b : B) → fine b → f (g b) ≡ b
  pub written : (b : B) → fine b → out b ≡ text (g b)

pub exact_mapped : {A B : Type 0} (f : A → B) (g : B → A) (r : Reader A) (text : A → List ℕ) (ok : A → Type 0) (out : B → List ℕ) (fine : B → Type 0) → Exact r text ok → Turns f g text ok out fine → Exact (mapped f r) out fine
exact_mapped {A} {B} f g r text ok out fine e t = record {
  done = λ bs v h. done_from bs v (r bs) refl h;
  reads = λ b rest k. ap (λ x. mapped f r (x ++ rest)) (t.written b k) ∙ ap turned (e.reads (g b) rest (t.back b k)) ∙ ap (λ (x : B). ok_of (x, rest)) (t.same b k);
  whole = λ b k. subst IsWhole (sym (t.written b k)) (e.whole (g b) (t.back b k));
  halts = λ bs n h. halts_from bs n (r bs) refl h;
}
  where
    turned : Outcome A → Outcome B
    turned o = o >>= λ v. Ok (f v.0, v.1)

    done_from : (bs : List ℕ) (v : B × List ℕ) (o : Outcome A) → r bs ≡ o → turned o ≡ ok_of v → fine v.0 × (bs ≡ out v.0 ++ v.1)
    done_from bs v (Ok w) is h =
        let d = e.done bs w is in
        let k : fine (f w.0) = t.there w.0 d.0 in
        subst (λ (u : B × List ℕ). fine u.0 × (bs ≡ out u.0 ++ u.1)) (ok_same (f w.0, w.1) v h)
        (k, d.1 ∙ ap (λ a. text a ++ w.1) (sym (t.again w.0 d.0)) ∙ ap (λ x. x ++ w.1) (sym (t.written (f w.0) k)))
    done_from bs v (Err n) is h = absurd (err_ok v n h)

    halts_from : (bs : List ℕ) (n : ℕ) (o : Outcome A) → r bs ≡ o → turned o ≡ err_of n → Halts (mapped f r) out fine bs n
    halts_from bs n (Ok w) is h = absurd (ok_err (f w.0, w.1) n h)
    halts_from bs n (Err m) is h =
        let k = e.halts bs m is in
        let good : fine (f k.a) = t.there k.a k.fits in
        record {
          front = k.front;
          rest = k.rest;
          is = k.is;
          left = sym (err_same m n h) ∙ k.left;
          a = f k.a;
          fits = good;
          more = k.more;
          begins = t.written (f k.a) good ∙ ap text (t.again k.a k.fits) ∙ k.begins;
          whole = k.whole;
          stays = λ line behind other c d. ap turned (k.stays line behind other c d);
        }

pub exact_pair : {A B : Type 0} (r : Reader A) (s : A → Reader B) (text : A → List ℕ) (ok : A → Type 0) (more : A → B → List ℕ) (fine : A → B → Type 0) → Exact r text ok → ((a : A) → ok a → Exact (s a) (more a) (fine a)) → Exact (pair r s) (λ v. text v.0 ++ more v.0 v.1) (λ v. ok v.0 × fine v.0 v.1)
exact_pair {A} {B} r s text ok more fine e f = record {
  done = λ bs v h. done_from bs v (r bs) refl h;
  reads = λ v rest k.
      ap (pair r s) (append_assoc (text v.0) (more v.0 v.1) rest)
      ∙ ap behind_first (e.reads v.0 (more v.0 v.1 ++ rest) k.0)
      ∙ ap (with_first v.0) ((f v.0 k.0).reads v.1 rest k.1);
  whole = λ v k. whole_both (text v.0) (more v.0 v.1) (e.whole v.0 k.0) ((f v.0 k.0).whole v.1 k.1);
  halts = λ bs n h. halts_from bs n (r bs) refl h;
}
  where
    with_first : A → Outcome B → Outcome (A × B)
    with_first a o = o >>= λ w. Ok ((a, w.0), w.1)

    behind_first : Outcome A → Outcome (A × B)
    behind_first o = o >>= λ v. with_first v.0 (s v.0 v.1)

    done_second : (bs : List ℕ) (v : (A × B) × List ℕ) (w : A × List ℕ) → ok w.0 → bs ≡ text w.0 ++ w.1 → (o : Outcome B) → s w.0 w.1 ≡ o → with_first w.0 o ≡ ok_of v → (ok v.0.0 × fine v.0.0 v.0.1) × (bs ≡ (text v.0.0 ++ more v.0.0 v.0.1) ++ v.1)
    done_second bs v w k d (Ok u) is h =
        let g = (f w.0 k).done w.1 u is in
        subst (λ (x : (A × B) × List ℕ). (ok x.0.0 × fine x.0.0 x.0.1) × (bs ≡ (text x.0.0 ++ more x.0.0 x.0.1) ++ x.1)) (ok_same ((w.0, u.0), u.1) v h)
        ((k, g.0), d ∙ ap (λ x. text w.0 ++ x) g.1 ∙ sym (append_assoc (text w.0) (more w.0 u.0) u.1))
    done_second bs v w k d (Err n) is h = absurd (err_ok v n h)

    done_from : (bs : List ℕ) (v : (A × B) × List ℕ) (o : Outcome A) → r bs ≡ o → behind_first o ≡ ok_of v → (ok v.0.0 × fine v.0.0 v.0.1) × (bs ≡ (text v.0.0 ++ more v.0.0 v.0.1) ++ v.1)
    done_from bs v (Ok w) is h = let d = e.done bs w is in done_second bs v w d.0 d.1 (s w.0 w.1) refl h
    done_from bs v (Err n) is h = absurd (err_ok v n h)

    halts_second : (bs : List ℕ) (n : ℕ) (w : A × List ℕ) → ok w.0 → bs ≡ text w.0 ++ w.1 → (o : Outcome B) → s w.0 w.1 ≡ o → with_first w.0 o ≡ err_of n → Halts (pair r s) (λ v. text v.0 ++ more v.0 v.1) (λ v. ok v.0 × fine v.0 v.1) bs n
    halts_second bs n w k d (Ok u) is h = absurd (ok_err ((w.0, u.0), u.1) n h)
    halts_second bs n w k d (Err m) is h =
        let t = (f w.0 k).halts w.1 m is in
        record {
          front = text w.0 ++ t.front;
          rest = t.rest;
          is = d ∙ ap (λ x. text w.0 ++ x) t.is ∙ sym (append_assoc (text w.0) t.front t.rest);
          left = sym (err_same {A = A × B} m n h) ∙ t.left;
          a = (w.0, t.a);
          fits = (k, t.fits);
          more = t.more;
          begins = ap (λ x. text w.0 ++ x) t.begins ∙ sym (append_assoc (text w.0) t.front t.more);
          whole = whole_both (text w.0) t.front (e.whole w.0 k) t.whole;
          stays = λ line behind other c g.
              ap (pair r s) (append_assoc (text w.0) t.front (line ++ 10 ∷ other))
              ∙ ap behind_first (e.reads w.0 (t.front ++ (line ++ 10 ∷ other)) k)
              ∙ ap (with_first w.0) (t.stays line behind other c g);
        }

    halts_from : (bs : List ℕ) (n : ℕ) (o : Outcome A) → r bs ≡ o → behind_first o ≡ err_of n → Halts (pair r s) (λ v. text v.0 ++ more v.0 v.1) (λ v. ok v.0 × fine v.0 v.1) bs n
    halts_from bs n (Ok w) is h = let d = e.done bs w is in halts_second bs n w d.0 d.1 (s w.0 w.1) refl h
    halts_from bs n (Err m) is h =
        let t = e.halts bs m is in
        let b = some_of (s t.a) (more t.a) (fine t.a) (f t.a t.fits) in
        record {
          front = t.front;
          rest = t.rest;
          is = t.is;
          left = sym (err_same {A = A × B} m n h) ∙ t.left;
          a = (t.a, b.0);
          fits = (t.fits, b.1);
          more = t.more ++ more t.a b.0;
          begins = ap (λ x. x ++ more t.a b.0) t.begins ∙ append_assoc t.front t.more (more t.a b.0);
          whole = t.whole;
          stays = λ line behind other c g. ap behind_first (t.stays line behind other c g);
        }

-- the first and the others; of none, this one and none
abbrev pub apart : {A : Type 0} → A → List A → A × List A
apart d [] = (d, [])
apart d (a ∷ as') = (a, as')

pub exact_repeated : {A : Type 0} (r : Reader A) (text : A → List ℕ) (ok : A → Type 0) → Exact r text ok → (n : ℕ) → Exact (repeated r n) (flat_map text) (λ as'. All ok as' × (length as' ≡ n))
exact_repeated {A} r text ok e zero = record {
  done = λ bs v h. let k = ok_same ([], bs) v h in subst (λ (u : List A × List ℕ). (All ok u.0 × (length u.0 ≡ 0)) × (bs ≡ flat_map text u.0 ++ u.1)) k ((All-nil ok, refl), refl);
  reads = λ as' rest k. none_read as' rest k.1;
  whole = λ as' k. none_whole as' k.1;
  halts = λ bs n h. absurd (ok_err {A = List A} ([], bs) n h);
}
  where
    none_read : (as' : List A) (rest : List ℕ) → length as' ≡ 0 → repeated r 0 (flat_map text as' ++ rest) ≡ ok_of (as', rest)
    none_read [] rest h = refl
    none_read (a ∷ as') rest h = absurd (omega arith)

    none_whole : (as' : List A) → length as' ≡ 0 → IsWhole (flat_map text as')
    none_whole [] h = inl refl
    none_whole (a ∷ as') h = absurd (omega arith)
exact_repeated {A} r text ok e (suc n) =
    let d = some_of r text ok e in
    exact_mapped onto (apart d.0) (pair r (λ a. repeated r n))
    (λ v. text v.0 ++ flat_map text v.1) (λ v. ok v.0 × (All ok v.1 × (length v.1 ≡ n)))
    (flat_map text) (λ as'. All ok as' × (length as' ≡ suc n))
    (exact_pair r (λ a. repeated r n) text ok (λ a. flat_map text) (λ a as'. All ok as' × (length as' ≡ n)) e (λ a k. exact_repeated r text ok e n))
    (record {
      there = λ v k. (All-cons ok v.0 v.1 k.0 k.1.0, ap suc k.1.1);
      again = λ v k. refl;
      back = λ as' k. parts_of d.0 as' k.0 k.1;
      same = λ as' k. whole_again d.0 as' k.1;
      written = λ as' k. written_again d.0 as' k.1;
    })
  where
    parts_of : (d : A) (as' : List A) → All ok as' → length as' ≡ suc n → ok (apart d as').0 × (All ok (apart d as').1 × (length (apart d as').1 ≡ n))
    parts_of d [] h k = absurd (omega arith)
    parts_of d (a ∷ as') h k = (All-head ok a as' h, (All-tail ok a as' h, omega arith))

    whole_again : (d : A) (as' : List A) → length as' ≡ suc n → onto (apart d as') ≡ as'
    whole_again d [] k = absurd (omega arith)
    whole_again d (a ∷ as') k = refl

    written_again : (d : A) (as' : List A) → length as' ≡ suc n → flat_map text as' ≡ text (apart d as').0 ++ flat_map text (apart d as').1
    written_again d [] k = absurd (omega arith)
    written_again d (a ∷ as') k = refl
