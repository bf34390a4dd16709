-- Soundness of propagation, and how `Follows` behaves as the list of clauses changes.
use Rattle.std.proofs.Common.{◌≡◌, ◌≢◌, ◌⊎◌, inl, inr, Bool, true, false, not, ◌||◌, ℕ, zero, suc, ◌<◌, ◌≤◌, ◌++◌, List, [], ◌∷◌, length, get_or, take, refl, sym, ◌∙◌, ap, arith, subst}
use Rattle.std.specs.Prelude.{Contains, if◌then◌else◌}
use Rattle.std.proofs.lemmas.List.{append-nil, append_assoc, get_or_at, length_push}
use Rattle.std.proofs.lemmas.List.Elements.{Contains-push_cases}
use Rattle.std.proofs.Math.Seq.{take-suc}
use Rattle.sk_clause.specs.declared.lit.Lit.{Lit}
use Rattle.sk_clause.specs.Meaning.{negated, lit_true, clause_true, Meets, Closure, denied, forced, Clashes, Falsifies, Follows, EachFollows, Refutes}

-- a literal is true where its negation is false
pub lit_true-negated : (v : ℕ → Bool) (l : Lit) → lit_true v (negated l) ≡ not (lit_true v l)
lit_true-negated v l = both l.neg (v l.var)
  where
    both : (n b : Bool) → (if not n then not b else b) ≡ not (if n then not b else b)
    both true true = refl
    both true false = refl
    both false true = refl
    both false false = refl

pub Contains-here : {X : Type 0} (x : X) (xs : List X) → Contains (x ∷ xs) x
Contains-here x xs = (0, omega arith, refl)

pub Contains-later : {X : Type 0} (y : X) (xs : List X) (x : X) → Contains xs x → Contains (y ∷ xs) x
Contains-later y xs x h = (suc h.0, omega (arith, h.1), h.2)

pub Contains-cases : {X : Type 0} (y : X) (xs : List X) (x : X) → Contains (y ∷ xs) x → (y ≡ x) ⊎ Contains xs x
Contains-cases y xs x h = at h.0 h.1 h.2
  where
    at : (k : ℕ) → k < length (y ∷ xs) → get_or (y ∷ xs) k x ≡ x → (y ≡ x) ⊎ Contains xs x
    at zero l e = inl e
    at (suc k) l e = inr (k, omega arith, e)

pub Contains-none : {X : Type 0} (x : X) → Contains [] x → ⊥
Contains-none x h = omega (arith, h.1)

-- a clause that is true has a true literal
pub true_literal : (v : ℕ → Bool) (c : List Lit) → clause_true v c ≡ true → (m : Lit) × Contains c m × (lit_true v m ≡ true)
true_literal v [] h = cc
true_literal v (l ∷ ls) h = by (lit_true v l) refl (true_literal v ls)
  where
    by : (b : Bool) → lit_true v l ≡ b → (clause_true v ls ≡ true → (m : Lit) × Contains ls m × (lit_true v m ≡ true)) → (m : Lit) × Contains (l ∷ ls) m × (lit_true v m ≡ true)
    by true e rest = (l, Contains-here l ls, e)
    by false e rest =
        let k : clause_true v ls ≡ true = rw e at h in
        let r = rest k in
        (r.0, Contains-later l ls r.0 r.1, r.2)

-- a clause is true with each true literal
pub true_by : (v : ℕ → Bool) (c : List Lit) (m : Lit) → Contains c m → lit_true v m ≡ true → clause_true v c ≡ true
true_by v [] m h k = absurd (Contains-none m h)
true_by v (l ∷ ls) m h k = elim (Contains-cases l ls m h) [
  | inl e ↦ let t : lit_true v l ≡ true = rw e k in rw t refl
  | inr there ↦ let t : clause_true v ls ≡ true = true_by v ls m there k in either (lit_true v l) (clause_true v ls) t
]
  where
    either : (a b : Bool) → b ≡ true → a || b ≡ true
    either true b e = refl
    either false b e = e

-- a literal whose negation is in a clause that is not true is true
denied_true : (v : ℕ → Bool) (c : List Lit) (l : Lit) → clause_true v c ≡ false → Contains c (negated l) → lit_true v l ≡ true
denied_true v c l false_now h = by (lit_true v l) refl
  where
    by : (b : Bool) → lit_true v l ≡ b → lit_true v l ≡ true
    by true e = e
    by false e = let n : lit_true v (negated l) ≡ true = lit_true-negated v l ∙ ap not e in let t = true_by v c (negated l) h n in cc

-- a clause that is true, and of which each literal but one is false, has that one true
forced_true : (v : ℕ → Bool) (d : List Lit) (l : Lit) → clause_true v d ≡ true → ((m : Lit) → Contains d m → m ≢ l → lit_true v (negated m) ≡ true) → lit_true v l ≡ true
forced_true v d l h others = by (lit_true v l) refl
  where
    by : (b : Bool) → lit_true v l ≡ b → lit_true v l ≡ true
    by true e = e
    by false e =
        let r = true_literal v d h in
        let other : r.0 ≢ l = λ same. (let a : lit_true v r.0 ≡ lit_true v l = ap (lit_true v) same in let b = r.2 in cc) in
        let n = others r.0 r.1 other in
        let p = lit_true-negated v r.0 in
        let q : not (lit_true v r.0) ≡ false = ap not r.2 in cc

-- where the clauses are met and c is not, each literal of the closure is true
pub closure_true : (v : ℕ → Bool) (cs : List (List Lit)) (c : List Lit) → Meets v cs → clause_true v c ≡ false → (l : Lit) → Closure cs c l → lit_true v l ≡ true
closure_true v cs c met unmet l (denied h) = denied_true v c l unmet h
closure_true v cs c met unmet l (forced d within there others) = forced_true v d l (met d within) (λ m h other. closure_true v cs c met unmet (negated m) (others m h other))

pub follows_sound : (v : ℕ → Bool) (cs : List (List Lit)) (c : List Lit) → Follows cs c → Meets v cs → clause_true v c ≡ true
follows_sound v cs c f met = by (clause_true v c) refl
  where
    clash : clause_true v c ≡ false → Clashes cs c → ⊥
    clash e h =
        let a = closure_true v cs c met e h.0 h.1 in
        let b = closure_true v cs c met e (negated h.0) h.2 in
        let n = lit_true-negated v h.0 in
        let q : not (lit_true v h.0) ≡ false = ap not a in cc

    falsified : clause_true v c ≡ false → Falsifies cs c → ⊥
    falsified e h =
        let r = true_literal v h.0 (met h.0 h.1) in
        let b = closure_true v cs c met e (negated r.0) (h.2 r.0 r.1) in
        let n = lit_true-negated v r.0 in
        let q : not (lit_true v r.0) ≡ false = ap not r.2 in cc

    by : (b : Bool) → clause_true v c ≡ b → clause_true v c ≡ true
    by true e = e
    by false e = elim f [ inl h ↦ absurd (clash e h) | inr h ↦ absurd (falsified e h) ]

pub Meets-push : (v : ℕ → Bool) (cs : List (List Lit)) (c : List Lit) → Meets v cs → clause_true v c ≡ true → Meets v (cs ++ c ∷ [])
Meets-push v cs c met now d within = elim (Contains-push_cases cs c d within) [
  | inl there ↦ met d there
  | inr same ↦ subst (λ x. clause_true v x ≡ true) same now
]

-- what meets the clauses meets each front of the log
fronts : (v : ℕ → Bool) (cs log : List (List Lit)) → EachFollows cs log → Meets v cs → (n : ℕ) → n ≤ length log → Meets v (cs ++ take n log)
fronts v cs log each met zero h = rw append-nil met
fronts v cs log each met (suc n) h =
    let m : Meets v (cs ++ take n log) = fronts v cs log each met n (omega arith) in
    let t : clause_true v (get_or log n []) ≡ true = follows_sound v (cs ++ take n log) (get_or log n []) (each n (omega arith)) m in
    let p = Meets-push v (cs ++ take n log) (get_or log n []) m t in
    let e : take (suc n) log ≡ take n log ++ get_or log n [] ∷ [] = take-suc log n [] (omega arith) in
    subst (Meets v) (append_assoc cs (take n log) (get_or log n [] ∷ []) ∙ ap (λ x. cs ++ x) (sym e)) p

pub refuted : (v : ℕ → Bool) (cs log : List (List Lit)) → Refutes cs log → Meets v cs → ⊥
refuted v cs log r met =
    let front = r.1.0 in
    let e : log ≡ front ++ [] ∷ [] = r.1.1 in
    let last : get_or log (length front) [] ≡ [] = ap (λ x. get_or x (length front) []) e ∙ get_or_at front [] [] [] (length front) refl in
    let long : length front < length log = omega (arith, ap length e ∙ length_push front []) in
    let m = fronts v cs log r.0 met (length front) (omega arith) in
    let t : clause_true v (get_or log (length front) []) ≡ true = follows_sound v (cs ++ take (length front) log) (get_or log (length front) []) (r.0 (length front) long) m in
    let u : clause_true v [] ≡ true = subst (λ x. clause_true v x ≡ true) last t in cc

-- with more clauses the closure is no smaller
pub closure_more : (cs ds : List (List Lit)) (c : List Lit) → ((d : List Lit) → Contains cs d → Contains ds d) → (l : Lit) → Closure cs c l → Closure ds c l
closure_more cs ds c more l (denied h) = denied h
closure_more cs ds c more l (forced d within there others) = forced d (more d within) there (λ m w o. closure_more cs ds c more (negated m) (others m w o))

pub falsifies_more : (cs ds : List (List Lit)) (c : List Lit) → ((d : List Lit) → Contains cs d → Contains ds d) → Falsifies cs c → Falsifies ds c
falsifies_more cs ds c more h = (h.0, more h.0 h.1, λ m w. closure_more cs ds c more (negated m) (h.2 m w))

-- and what follows still follows
pub follows_more : (cs ds : List (List Lit)) (c : List Lit) → ((d : List Lit) → Contains cs d → Contains ds d) → Follows cs c → Follows ds c
follows_more cs ds c more (inl h) = inl (h.0, closure_more cs ds c more h.0 h.1, closure_more cs ds c more (negated h.0) h.2)
follows_more cs ds c more (inr h) = inr (falsifies_more cs ds c more h)
