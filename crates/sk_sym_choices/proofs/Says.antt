-- What calls and pays in a part under its tests is what stands of it.
use Rattle.std.proofs.Common.{◌≡◌, ℕ, zero, suc, ◌+◌, ◌<◌, ◌≤◌, Bool, true, false, List, [], ◌∷◌, ◌++◌, map, refl, ap, ◌∙◌, arith}
use Rattle.std.specs.Prelude.{◌&&◌, if◌then◌else◌}
use Rattle.std.proofs.lemmas.Bool.{lt-ltb, le-ltb, eq-eqb, ne_eqb}
use Rattle.sk_base.specs.declared.span.Span.{Span}
use Rattle.sk_model.specs.Parts.{Part, counts, value}
use Rattle.sk_model.specs.Stands.{Standing, Payment, own, beside, in_row, first_of, only, by_value, with_calls, with_paid, part_if}
use Rattle.sk_model.proofs.Induction.{Each}
use Rattle.sk_sym_choices.specs.declared.guard.Test.{Test}
use Rattle.sk_sym_choices.specs.declared.guard.Called.{Called}
use Rattle.sk_sym_choices.specs.declared.guard.Owed.{Owed}
use Rattle.sk_sym_choices.specs.Guards.{meets, meets_all, called_under, paid_under, Guards, sites_alone, both, in_line, under, each_under, by_site, takes, exceeds, with_call, with_owed}

-- a list, if it is kept
abbrev pub kept : {A : Type 0} → Bool → List A → List A
kept b xs = if b then xs else []

module _ (values : List ℕ) where
  -- what stands of the one is what calls and pays in the other, where the tests are met
  pub record Says (p : Part Standing) (q : Guards) : Type 0 where
    pub count : q.count ≡ p.count
    pub called : (i : ℕ) (ts : List Test) → called_under values (q.at i ts).called ≡ kept (meets_all values ts) (p.at i).called
    pub paid : (i : ℕ) (ts : List Test) → paid_under values (q.at i ts).owed ≡ kept (meets_all values ts) (p.at i).paid

pub kept_none : {A : Type 0} (b : Bool) → [] ≡ kept {A = A} b []
kept_none true = refl
kept_none false = refl

pub kept_both : {A : Type 0} (b : Bool) (xs ys : List A) → kept b xs ++ kept b ys ≡ kept b (xs ++ ys)
kept_both true xs ys = refl
kept_both false xs ys = refl

pub called_append : (values : List ℕ) (cs ds : List Called) → called_under values (cs ++ ds) ≡ called_under values cs ++ called_under values ds
called_append values [] ds = refl
called_append values (c ∷ cs) ds = by (meets_all values c.tests) (called_append values cs ds)
  where
    by : (b : Bool) → called_under values (cs ++ ds) ≡ called_under values cs ++ called_under values ds
        → (if b then c.f ∷ called_under values (cs ++ ds) else called_under values (cs ++ ds)) ≡ (if b then c.f ∷ called_under values cs else called_under values cs) ++ called_under values ds
    by true h = ap (λ xs. c.f ∷ xs) h
    by false h = h

pub paid_append : (values : List ℕ) (os ps : List Owed) → paid_under values (os ++ ps) ≡ paid_under values os ++ paid_under values ps
paid_append values [] ps = refl
paid_append values (o ∷ os) ps = by (meets_all values o.tests) (paid_append values os ps)
  where
    by : (b : Bool) → paid_under values (os ++ ps) ≡ paid_under values os ++ paid_under values ps
        → (let one : Payment = record { span = o.span; amount = value values o.site } in (if b then one ∷ paid_under values (os ++ ps) else paid_under values (os ++ ps)) ≡ (if b then one ∷ paid_under values os else paid_under values os) ++ paid_under values ps)
    by true h = ap (λ xs. record { span = o.span; amount = value values o.site } ∷ xs) h
    by false h = h

module _ (values : List ℕ) where
  pub says_alone : (n : ℕ) → Says values (own n) (sites_alone n)
  says_alone n = record { count = refl; called = λ i ts. kept_none (meets_all values ts); paid = λ i ts. kept_none (meets_all values ts) }

  pub says_both : (p p' : Part Standing) (q q' : Guards) → Says values p q → Says values p' q' → Says values (beside p p') (both q q')
  says_both p p' q q' h h' = record {
    count = ap (λ n. n + q'.count) h.count ∙ ap (λ n. p.count + n) h'.count;
    called = λ i ts.
        called_append values (q.at i ts).called (q'.at (i + q.count) ts).called
        ∙ ap (λ xs. xs ++ called_under values (q'.at (i + q.count) ts).called) (h.called i ts)
        ∙ ap (λ n. kept (meets_all values ts) (p.at i).called ++ called_under values (q'.at (i + n) ts).called) h.count
        ∙ ap (λ xs. kept (meets_all values ts) (p.at i).called ++ xs) (h'.called (i + p.count) ts)
        ∙ kept_both (meets_all values ts) (p.at i).called (p'.at (i + p.count)).called;
    paid = λ i ts.
        paid_append values (q.at i ts).owed (q'.at (i + q.count) ts).owed
        ∙ ap (λ xs. xs ++ paid_under values (q'.at (i + q.count) ts).owed) (h.paid i ts)
        ∙ ap (λ n. kept (meets_all values ts) (p.at i).paid ++ paid_under values (q'.at (i + n) ts).owed) h.count
        ∙ ap (λ xs. kept (meets_all values ts) (p.at i).paid ++ xs) (h'.paid (i + p.count) ts)
        ∙ kept_both (meets_all values ts) (p.at i).paid (p'.at (i + p.count)).paid;
  }

  part_count : (b : Bool) (p : Part Standing) → p.count ≡ (part_if b p).count
  part_count true p = refl
  part_count false p = refl

  part_called : (b c : Bool) (p : Part Standing) (i : ℕ) → kept (b && c) (p.at i).called ≡ kept c ((part_if b p).at i).called
  part_called true c p i = refl
  part_called false c p i = kept_none c

  part_paid : (b c : Bool) (p : Part Standing) (i : ℕ) → kept (b && c) (p.at i).paid ≡ kept c ((part_if b p).at i).paid
  part_paid true c p i = refl
  part_paid false c p i = kept_none c

  -- a part that stands by a test
  says_under : (b : Bool) (t : Test) (p : Part Standing) (q : Guards) → meets values t ≡ b → Says values p q → Says values (part_if b p) (under t q)
  says_under b t p q e h = record {
    count = h.count ∙ part_count b p;
    called = λ i ts. h.called i (t ∷ ts) ∙ ap (λ c. kept (c && meets_all values ts) (p.at i).called) e ∙ part_called b (meets_all values ts) p i;
    paid = λ i ts. h.paid i (t ∷ ts) ∙ ap (λ c. kept (c && meets_all values ts) (p.at i).paid) e ∙ part_paid b (meets_all values ts) p i;
  }

  module _ {X : Type 0} (f : X → Part Standing) (g : X → Guards) where
    abbrev pub Says_of : X → Type 0
    Says_of x = Says values (f x) (g x)

    pub says_line : (xs : List X) → Each Says_of xs → Says values (in_row (map f xs)) (in_line (map g xs))
    says_line [] h = says_alone 0
    says_line (x ∷ xs) h = says_both (f x) (in_row (map f xs)) (g x) (in_line (map g xs)) h.0 (says_line xs h.1)

    same_counts : (xs : List X) → Each Says_of xs → counts (map g xs) ≡ counts (map f xs)
    same_counts [] h = refl
    same_counts (x ∷ xs) h = ap (λ n. n + counts (map g xs)) h.0.count ∙ ap (λ n. (f x).count + n) (same_counts xs h.1)

    -- none of those from number k on stands
    none_stands : (test : ℕ → Test) (k : ℕ) (xs : List X) → ((m : ℕ) → k ≤ m → meets values (test m) ≡ false) → Each Says_of xs → Says values (in_row (first_of 0 (map f xs))) (each_under test k (map g xs))
    none_stands test k [] not h = says_alone 0
    none_stands test k (x ∷ xs) not h =
        says_both (part_if false (f x)) (in_row (first_of 0 (map f xs))) (under (test k) (g x)) (each_under test (k + 1) (map g xs))
        (says_under false (test k) (f x) (g x) (not k (omega arith)) h.0)
        (none_stands test (k + 1) xs (λ m l. not m (omega (arith, l))) h.1)

    -- the first n from number k on stand
    first_stand : (test : ℕ → Test) (k n : ℕ) (xs : List X) → ((m : ℕ) → m < k + n → meets values (test m) ≡ true) → ((m : ℕ) → k + n ≤ m → meets values (test m) ≡ false) → Each Says_of xs → Says values (in_row (first_of n (map f xs))) (each_under test k (map g xs))
    first_stand test k n [] is not h = says_alone 0
    first_stand test k zero (x ∷ xs) is not h = none_stands test k (x ∷ xs) (λ m l. not m (omega (arith, l))) h
    first_stand test k (suc n) (x ∷ xs) is not h =
        says_both (part_if true (f x)) (in_row (first_of n (map f xs))) (under (test k) (g x)) (each_under test (k + 1) (map g xs))
        (says_under true (test k) (f x) (g x) (is k (omega arith)) h.0)
        (first_stand test (k + 1) n xs (λ m l. is m (omega (arith, l))) (λ m l. not m (omega (arith, l))) h.1)

    -- the one with number n from number k on stands
    one_stands : (test : ℕ → Test) (k n : ℕ) (xs : List X) → ((m : ℕ) → m ≡ k + n → meets values (test m) ≡ true) → ((m : ℕ) → (m ≡ k + n → ⊥) → meets values (test m) ≡ false) → Each Says_of xs → Says values (in_row (only n (map f xs))) (each_under test k (map g xs))
    one_stands test k n [] is not h = says_alone 0
    one_stands test k zero (x ∷ xs) is not h =
        says_both (part_if true (f x)) (in_row (first_of 0 (map f xs))) (under (test k) (g x)) (each_under test (k + 1) (map g xs))
        (says_under true (test k) (f x) (g x) (is k (omega arith)) h.0)
        (none_stands test (k + 1) xs (λ m l. not m (λ e. absurd (omega (arith, l, e)))) h.1)
    one_stands test k (suc n) (x ∷ xs) is not h =
        says_both (part_if false (f x)) (in_row (only n (map f xs))) (under (test k) (g x)) (each_under test (k + 1) (map g xs))
        (says_under false (test k) (f x) (g x) (not k (λ e. absurd (omega (arith, e)))) h.0)
        (one_stands test (k + 1) n xs (λ m e. is m (omega (arith, e))) (λ m d. not m (λ e. d (omega (arith, e)))) h.1)

    -- a site, and parts of which each stands by a test of its value
    by_its_value : (some : ℕ → List (Part Standing) → List (Part Standing)) (test : ℕ → ℕ → Test) (xs : List X) → Each Says_of xs
        → ((site : ℕ) → Says values (in_row (some (value values site) (map f xs))) (each_under (test site) 0 (map g xs)))
        → Says values (by_value values some (map f xs)) (by_site test (map g xs))
    by_its_value some test xs h each = record {
      count = ap suc (same_counts xs h);
      called = λ i ts. (each i).called (i + 1) ts;
      paid = λ i ts. (each i).paid (i + 1) ts;
    }

    pub says_first : (xs : List X) → Each Says_of xs → Says values (by_value values first_of (map f xs)) (by_site exceeds (map g xs))
    says_first xs h = by_its_value first_of exceeds xs h (λ site. first_stand (exceeds site) 0 (value values site) xs (λ m l. lt-ltb m (value values site) (omega (arith, l))) (λ m l. le-ltb m (value values site) (omega (arith, l))) h)

    pub says_only : (xs : List X) → Each Says_of xs → Says values (by_value values only (map f xs)) (by_site takes (map g xs))
    says_only xs h = by_its_value only takes xs h (λ site. one_stands (takes site) 0 (value values site) xs (λ m e. eq-eqb (value values site) m (omega (arith, e))) (λ m d. ne_eqb (value values site) m (λ e. d (omega (arith, e)))) h)

  pub says_call : (n : ℕ) (p : Part Standing) (q : Guards) → Says values p q → Says values (with_calls values n p) (with_call n q)
  says_call n p q h = record {
    count = h.count;
    called = λ i ts. ap (λ xs. if meets_all values ts then n ∷ xs else xs) (h.called i ts) ∙ by (meets_all values ts) (p.at i).called;
    paid = h.paid;
  }
    where
      by : (b : Bool) (xs : List ℕ) → (if b then n ∷ kept b xs else kept b xs) ≡ kept b (n ∷ xs)
      by true xs = refl
      by false xs = refl

  pub says_owed : (span : Span) (p : Part Standing) (q : Guards) → Says values p q → Says values (with_paid values span p) (with_owed span q)
  says_owed span p q h = record {
    count = h.count;
    called = h.called;
    paid = λ i ts. ap (λ xs. if meets_all values ts then record { span = span; amount = value values i } ∷ xs else xs) (h.paid i ts) ∙ by i (meets_all values ts) (p.at i).paid;
  }
    where
      by : (i : ℕ) (b : Bool) (xs : List Payment) → (let one : Payment = record { span = span; amount = value values i } in (if b then one ∷ kept b xs else kept b xs) ≡ kept b (one ∷ xs))
      by i true xs = refl
      by i false xs = refl
