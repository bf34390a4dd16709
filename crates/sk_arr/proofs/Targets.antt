-- The targets that hold: of lists that are joined, of two lists walked together, and when at most one does.
use Rattle.std.proofs.Common.{◌≡◌, ℕ, zero, suc, ◌+◌, ◌<◌, ◌≤◌, Bool, true, false, true≢false, List, [], ◌∷◌, ◌++◌, length, slice_get, Option, Some, None, IsTrue, refl, sym, ap, subst, ◌∙◌, arith, append_assoc, append-nil, if◌then◌else◌}
use Rattle.std.proofs.lemmas.Option.{none-some, same_Some}
use Rattle.std.proofs.lemmas.List.Elements.{All-nil, All-cons, All-tail, All-head, All-append}
use Rattle.sk_dag.specs.declared.env.Env.{Env}
use Rattle.sk_dag.specs.declared.node.BoolId.{BoolId}
use Rattle.sk_dag.specs.Graph.{Graph, HasBool}
use Rattle.sk_dag.specs.Eval.{bool_value, Keeps}
use Rattle.sk_dag.specs.EvalShape.{held_slot}
use Rattle.sk_arr.specs.Held.{held, held_in, held_by, with_target, guard_in, AllIn, AllPass, IsAdded, AreMerged, IsNext}

module _ (holds : BoolId → Bool) where
  pub held-append : (xs ys : List (ℕ × BoolId)) → held holds (xs ++ ys) ≡ held holds xs ++ held holds ys
  held-append [] ys = refl
  held-append (x ∷ xs) ys = by (held-append xs ys) (holds x.1)
    where
      by : held holds (xs ++ ys) ≡ held holds xs ++ held holds ys → (b : Bool) → (if b then x.0 ∷ held holds (xs ++ ys) else held holds (xs ++ ys)) ≡ (if b then x.0 ∷ held holds xs else held holds xs) ++ held holds ys
      by more true = ap (λ l. x.0 ∷ l) more
      by more false = more

  held-with : (slot : ℕ) (guard : Option BoolId) (ts : List (ℕ × BoolId)) → held holds (with_target slot guard ts) ≡ (if held_by holds guard then slot ∷ held holds ts else held holds ts)
  held-with slot None ts = refl
  held-with slot (Some guard) ts = refl

  -- at most one holds
  abbrev pub OneHolds : List (ℕ × BoolId) → Type 0
  OneHolds ts = (i j : ℕ) (s t : ℕ × BoolId) → slice_get ts i ≡ Some s → slice_get ts j ≡ Some t → holds s.1 ≡ true → holds t.1 ≡ true → i ≡ j

  none_held : (ts : List (ℕ × BoolId)) → ((i : ℕ) (s : ℕ × BoolId) → slice_get ts i ≡ Some s → holds s.1 ≡ true → ⊥) → held holds ts ≡ []
  none_held [] h = refl
  none_held (t ∷ ts) h = by (none_held ts (λ i s p q. h (suc i) s p q)) (holds t.1) refl
    where
      by : held holds ts ≡ [] → (b : Bool) → holds t.1 ≡ b → (if b then t.0 ∷ held holds ts else held holds ts) ≡ []
      by more true e = absurd (h zero t refl e)
      by more false e = more

  pub few : (ts : List (ℕ × BoolId)) → OneHolds ts → length (held holds ts) ≤ 1
  few [] h = omega arith
  few (t ∷ ts) h = by (few ts (λ i j s u p q x y. omega (arith, h (suc i) (suc j) s u p q x y))) (holds t.1) refl
    where
      by : length (held holds ts) ≤ 1 → (b : Bool) → holds t.1 ≡ b → length (if b then t.0 ∷ held holds ts else held holds ts) ≤ 1
      by more true e = let none : held holds ts ≡ [] = none_held ts (λ i s p q. absurd (omega (arith, h zero (suc i) t s refl p e q))) in omega (arith, ap length none)
      by more false e = more

  some_held : (ts : List (ℕ × BoolId)) (i : ℕ) (s : ℕ × BoolId) → slice_get ts i ≡ Some s → holds s.1 ≡ true → 1 ≤ length (held holds ts)
  some_held [] i s p q = absurd (none-some s p)
  some_held (t ∷ ts) zero s p q = by (holds t.1) (ap (λ x. holds x.1) (same_Some t s p) ∙ q)
    where
      by : (b : Bool) → b ≡ true → 1 ≤ length (if b then t.0 ∷ held holds ts else held holds ts)
      by true e = omega arith
      by false e = absurd (true≢false (sym e))
  some_held (t ∷ ts) (suc i) s p q = by (some_held ts i s p q) (holds t.1)
    where
      by : 1 ≤ length (held holds ts) → (b : Bool) → 1 ≤ length (if b then t.0 ∷ held holds ts else held holds ts)
      by more true = omega arith
      by more false = more

  one_more : (t : ℕ × BoolId) (ts : List (ℕ × BoolId)) → holds t.1 ≡ true → length (held holds (t ∷ ts)) ≡ suc (length (held holds ts))
  one_more t ts e = ap (λ b. length (if b then t.0 ∷ held holds ts else held holds ts)) e

  no_fewer : (t : ℕ × BoolId) (ts : List (ℕ × BoolId)) → length (held holds ts) ≤ length (held holds (t ∷ ts))
  no_fewer t ts = by (holds t.1)
    where
      by : (b : Bool) → length (held holds ts) ≤ length (if b then t.0 ∷ held holds ts else held holds ts)
      by true = omega arith
      by false = omega arith

  pub one : (ts : List (ℕ × BoolId)) → length (held holds ts) ≤ 1 → OneHolds ts
  one [] l i j s t p q x y = absurd (none-some s p)
  one (u ∷ ts) l zero zero s t p q x y = refl
  one (u ∷ ts) l zero (suc j) s t p q x y =
      let first : holds u.1 ≡ true = ap (λ z. holds z.1) (same_Some u s p) ∙ x in
      absurd (omega (arith, l, one_more u ts first, some_held ts j t q y))
  one (u ∷ ts) l (suc i) zero s t p q x y =
      let first : holds u.1 ≡ true = ap (λ z. holds z.1) (same_Some u t q) ∙ y in
      absurd (omega (arith, l, one_more u ts first, some_held ts i s p x))
  one (u ∷ ts) l (suc i) (suc j) s t p q x y = ap suc (one ts (omega (arith, l, no_fewer u ts)) i j s t p q x y)

-- the first of these
abbrev pub first_of : List ℕ → Option ℕ
first_of [] = None
first_of (x ∷ xs) = Some x

-- what a reference is seen as: the first slot that is held
pub held_slot_first : (g : Graph) (e : Env) (ts : List (ℕ × BoolId)) → held_slot g e ts ≡ first_of (held_in g e ts)
held_slot_first g e [] = refl
held_slot_first g e (t ∷ ts) = by (held_slot_first g e ts) (bool_value g e t.1)
  where
    by : held_slot g e ts ≡ first_of (held_in g e ts) → (b : Bool) → (if b then Some t.0 else held_slot g e ts) ≡ first_of (if b then t.0 ∷ held_in g e ts else held_in g e ts)
    by more true = refl
    by more false = more

-- ---- two lists that are walked together

pub merged_done : {g : Graph} {c : BoolId} {a b before : List (ℕ × BoolId)} → a ≡ [] → b ≡ [] → AllIn g before → AreMerged g c a b before before
merged_done {g} {c} {a} {b} {before} none none' h = record {
  there = h;
  named = λ test p q r. r;
  held = λ k grows e. sym (append-nil (held_in k e before)) ∙ ap (λ l. held_in k e before ++ l) (nothing k e (bool_value k e c));
}
  where
    nothing : (k : Graph) (e : Env) (o : Bool) → [] ≡ (if o then held_in k e a else held_in k e b)
    nothing k e true = sym (ap (held_in k e) none)
    nothing k e false = sym (ap (held_in k e) none')

one_then : (b : Bool) (s : ℕ) (l : List ℕ) → (if b then s ∷ [] else []) ++ l ≡ (if b then s ∷ l else l)
one_then true s l = refl
one_then false s l = refl

rest_passes : (test : ℕ → Bool) (slot : ℕ) (guard : Option BoolId) (ts : List (ℕ × BoolId)) → AllPass test (with_target slot guard ts) → AllPass test ts
rest_passes test slot None ts h = h
rest_passes test slot (Some guard) ts h = record { each = All-tail (λ t. IsTrue (test t.0)) (slot, guard) ts h.each }

slot_passes : (test : ℕ → Bool) (slot : ℕ) (first second : Option BoolId) (more others : List (ℕ × BoolId)) → length more + length others < length (with_target slot first more) + length (with_target slot second others) → AllPass test (with_target slot first more) → AllPass test (with_target slot second others) → IsTrue (test slot)
slot_passes test slot (Some guard) second more others l p q = All-head (λ t. IsTrue (test t.0)) (slot, guard) more p.each
slot_passes test slot None (Some guard) more others l p q = All-head (λ t. IsTrue (test t.0)) (slot, guard) others q.each
slot_passes test slot None None more others l p q = absurd (omega (arith, l))

module _ {mid new : Graph} {c : BoolId} {a b before made after : List (ℕ × BoolId)} {slot : ℕ} {first second : Option BoolId} {more others : List (ℕ × BoolId)} where
  pub merged_on : IsNext a b slot first second more others → IsAdded mid c slot first second before made → Keeps mid new → AreMerged new c more others made after → AreMerged new c a b before after
  merged_on next added keeps merged = record {
    there = merged.there;
    named = λ test p q r.
        let p' : AllPass test (with_target slot first more) = subst (AllPass test) next.front p in
        let q' : AllPass test (with_target slot second others) = subst (AllPass test) next.other q in
        let l : length more + length others < length (with_target slot first more) + length (with_target slot second others) = omega (arith, next.fewer, ap length next.front, ap length next.other) in
        let passes = slot_passes test slot first second more others l p' q' in
        let P : ℕ × BoolId → Type 0 = λ t. IsTrue (test t.0) in
        merged.named test (rest_passes test slot first more p') (rest_passes test slot second others q')
        (subst (AllPass test) (sym added.pushed) (record { each = All-append P before ((slot, added.guard) ∷ []) r.each (All-cons P (slot, added.guard) [] passes (All-nil P)) }));
    held = λ h grows e. merged.held h grows e ∙ by h e (bool_value h e c) (added.value h (keeps.later h grows) e);
  }
    where
      before_it : (h : Graph) (e : Env) → held_in h e made ≡ held_in h e before ++ (if bool_value h e added.guard then slot ∷ [] else [])
      before_it h e = ap (held_in h e) added.pushed ∙ held-append (bool_value h e) before ((slot, added.guard) ∷ [])

      walk : (h : Graph) (e : Env) (guard : Option BoolId) (rest whole : List (ℕ × BoolId)) → whole ≡ with_target slot guard rest → bool_value h e added.guard ≡ held_by (bool_value h e) guard → held_in h e made ++ held_in h e rest ≡ held_in h e before ++ held_in h e whole
      walk h e guard rest whole is v =
          ap (λ l. l ++ held_in h e rest) (before_it h e)
          ∙ append_assoc (held_in h e before) (if bool_value h e added.guard then slot ∷ [] else []) (held_in h e rest)
          ∙ ap (λ l. held_in h e before ++ l)
          (one_then (bool_value h e added.guard) slot (held_in h e rest)
          ∙ ap (λ o. if o then slot ∷ held_in h e rest else held_in h e rest) v
          ∙ sym (held-with (bool_value h e) slot guard rest)
          ∙ sym (ap (held_in h e) is))

      by : (h : Graph) (e : Env) (o : Bool) → bool_value h e added.guard ≡ (if o then held_by (bool_value h e) first else held_by (bool_value h e) second) → held_in h e made ++ (if o then held_in h e more else held_in h e others) ≡ held_in h e before ++ (if o then held_in h e a else held_in h e b)
      by h e true v = walk h e first more a next.front v
      by h e false v = walk h e second others b next.other v

-- what follows from the lists about their parts
first_in : (g : Graph) (slot : ℕ) (o : Option BoolId) (ts : List (ℕ × BoolId)) → AllIn g (with_target slot o ts) → guard_in g o
first_in g slot None ts p = tt
first_in g slot (Some guard) ts p = All-head (λ t. HasBool g.nodes t.1) (slot, guard) ts p.each

rest_in : (g : Graph) (slot : ℕ) (o : Option BoolId) (ts : List (ℕ × BoolId)) → AllIn g (with_target slot o ts) → AllIn g ts
rest_in g slot None ts p = p
rest_in g slot (Some guard) ts p = record { each = All-tail (λ t. HasBool g.nodes t.1) (slot, guard) ts p.each }

pub guard_first : {g : Graph} {a b more others : List (ℕ × BoolId)} {slot : ℕ} {x y : Option BoolId} → IsNext a b slot x y more others → AllIn g a → guard_in g x
guard_first {g} {a} {b} {more} {others} {slot} {x} next h = first_in g slot x more (subst (AllIn g) next.front h)

pub guard_second : {g : Graph} {a b more others : List (ℕ × BoolId)} {slot : ℕ} {x y : Option BoolId} → IsNext a b slot x y more others → AllIn g b → guard_in g y
guard_second {g} {a} {b} {more} {others} {slot} {x} {y} next h = first_in g slot y others (subst (AllIn g) next.other h)

pub more_in : {g : Graph} {a b more others : List (ℕ × BoolId)} {slot : ℕ} {x y : Option BoolId} → IsNext a b slot x y more others → AllIn g a → AllIn g more
more_in {g} {a} {b} {more} {others} {slot} {x} next h = rest_in g slot x more (subst (AllIn g) next.front h)

pub others_in : {g : Graph} {a b more others : List (ℕ × BoolId)} {slot : ℕ} {x y : Option BoolId} → IsNext a b slot x y more others → AllIn g b → AllIn g others
others_in {g} {a} {b} {more} {others} {slot} {x} {y} next h = rest_in g slot y others (subst (AllIn g) next.other h)

pub added_in : {g : Graph} {c : BoolId} {slot : ℕ} {x y : Option BoolId} {before after : List (ℕ × BoolId)} → IsAdded g c slot x y before after → AllIn g before → AllIn g after
added_in {g} {c} {slot} {x} {y} {before} {after} added h =
    let P : ℕ × BoolId → Type 0 = λ t. HasBool g.nodes t.1 in
    subst (AllIn g) (sym added.pushed) (record { each = All-append P before ((slot, added.guard) ∷ []) h.each (All-cons P (slot, added.guard) [] added.there (All-nil P)) })

pub none_in : (g : Graph) → AllIn g []
none_in g = record { each = All-nil (λ t. HasBool g.nodes t.1) }
