-- How additions are put one after another, and the addition of one variable that clauses define.
use Rattle.std.proofs.Common.{◌≡◌, inl, inr, ⊎_elim, ℕ, ◌+◌, ◌<◌, ◌≤◌, Bool, true, false, not, ◌&&◌, List, [], ◌∷◌, ◌++◌, take, drop, refl, sym, ap, subst, ◌∙◌, arith, if◌then◌else◌, eqb, true≢false, Result, Ok, Err}
use Rattle.std.specs.Result.{OnErr}
use Rattle.std.proofs.lemmas.Bool.{cases_lt}
use Rattle.std.proofs.lemmas.Bool.Decides.{nat_tests}
use Rattle.std.proofs.lemmas.List.{append-nil, append_assoc, append_cancel_left, take-append-drop}
use Rattle.std.proofs.lemmas.List.Elements.{All-nil, All-head, All-tail, All-append, All-take, All-weaker, Contains-append_left, Contains-append_right, Contains-append_cases, Contains-push_cases}
use Rattle.std.specs.List.{list_all}
use Rattle.sk_clause.specs.declared.lit.Lit.{Lit}
use Rattle.sk_clause.specs.Meaning.{lit_true, clause_true, Meets}
use Rattle.sk_clause.specs.Problem.{Problem, IsWithin, AreWithin}
use Rattle.sk_gates.specs.Extension.{AgreeBelow, Continues, Adds}

-- what holds anyhow holds after a refusal
pub on_err : {T E P : Type 0} (r : Result T E) → P → OnErr r P
on_err (Ok x) p = tt
on_err (Err e) p = p

-- each clause is true, as one test
abbrev pub all_true : (ℕ → Bool) → List (List Lit) → Bool
all_true v cs = list_all (clause_true v) cs

pub both_true : (a b : Bool) → (a && b) ≡ true → (a ≡ true) × (b ≡ true)
both_true true b h = (refl, h)
both_true false b h = absurd (true≢false (sym h))

pub Meets-append : (v : ℕ → Bool) (cs ds : List (List Lit)) → Meets v cs → Meets v ds → Meets v (cs ++ ds)
Meets-append v cs ds m n c within = elim (Contains-append_cases cs ds c within) [ inl h ↦ m c h | inr h ↦ n c h ]

pub Meets-left : (v : ℕ → Bool) (cs ds : List (List Lit)) → Meets v (cs ++ ds) → Meets v cs
Meets-left v cs ds m c within = m c (Contains-append_left cs ds c within)

pub Meets-right : (v : ℕ → Bool) (cs ds : List (List Lit)) → Meets v (cs ++ ds) → Meets v ds
Meets-right v cs ds m c within = m c (Contains-append_right cs ds c within)

pub Meets-nil : (v : ℕ → Bool) → Meets v []
Meets-nil v c within = absurd (omega (arith, within.1))

all_from_met : (v : ℕ → Bool) (cs : List (List Lit)) → Meets v cs → all_true v cs ≡ true
all_from_met v [] m = refl
all_from_met v (c ∷ cs) m =
    let first : clause_true v c ≡ true = m c (0, omega arith, refl) in
    rw first (all_from_met v cs (Meets-right v (c ∷ []) cs m))

met_from_all : (v : ℕ → Bool) (cs : List (List Lit)) → all_true v cs ≡ true → Meets v cs
met_from_all v [] h = Meets-nil v
met_from_all v (c ∷ cs) h =
    let p = both_true (clause_true v c) (all_true v cs) h in
    Meets-append v (c ∷ []) cs
    (λ d within. elim (Contains-push_cases [] c d within) [ inl none ↦ absurd (omega (arith, none.1)) | inr same ↦ subst (λ x. clause_true v x ≡ true) same p.0 ])
    (met_from_all v cs p.1)

pub lit_true-same : (n : ℕ) (u v : ℕ → Bool) (l : Lit) → AgreeBelow n u v → l.var < n → lit_true u l ≡ lit_true v l
lit_true-same n u v l h within = rw (h.same l.var within)

pub clause_true-same : (n : ℕ) (u v : ℕ → Bool) (c : List Lit) → AgreeBelow n u v → IsWithin n c → clause_true u c ≡ clause_true v c
clause_true-same n u v [] h within = refl
clause_true-same n u v (l ∷ c) h within =
    rw (lit_true-same n u v l h (All-head (λ m. m.var < n) l c within), clause_true-same n u v c h (All-tail (λ m. m.var < n) l c within))

pub Meets-same : (n : ℕ) (u v : ℕ → Bool) (cs : List (List Lit)) → AgreeBelow n u v → AreWithin n cs → Meets u cs → Meets v cs
Meets-same n u v [] h within m = Meets-nil v
Meets-same n u v (c ∷ cs) h within m =
    let first : clause_true v c ≡ true = sym (clause_true-same n u v c h (All-head (IsWithin n) c cs within)) ∙ m c (0, omega arith, refl) in
    Meets-append v (c ∷ []) cs
    (λ d w. elim (Contains-push_cases [] c d w) [ inl none ↦ absurd (omega (arith, none.1)) | inr same ↦ subst (λ x. clause_true v x ≡ true) same first ])
    (Meets-same n u v cs h (All-tail (IsWithin n) c cs within) (Meets-right u (c ∷ []) cs m))

pub AreWithin-later : (m n : ℕ) (cs : List (List Lit)) → m ≤ n → AreWithin m cs → AreWithin n cs
AreWithin-later m n cs h w = All-weaker (IsWithin m) (IsWithin n) (λ c k. All-weaker (λ l. l.var < m) (λ l. l.var < n) (λ l j. omega arith) c k) cs w

pub Continues-refl : (a : Problem) → Continues a a
Continues-refl a = record {
  vars = omega arith;
  added = [];
  clauses = sym (append-nil a.clauses);
  within = All-nil (IsWithin a.vars);
  total = λ v. (v, record { same = λ i l. refl }, Meets-nil v);
}

pub Continues-same : {a b : Problem} → b ≡ a → Continues a b
Continues-same {a} {b} e = subst (λ x. Continues a x) (sym e) (Continues-refl a)

pub Continues-trans : {a b c : Problem} → Continues a b → Continues b c → Continues a c
Continues-trans {a} {b} {c} h k = record {
  vars = omega (arith, h.vars, k.vars);
  added = h.added ++ k.added;
  clauses = k.clauses ∙ ap (λ x. x ++ k.added) h.clauses ∙ append_assoc a.clauses h.added k.added;
  within = All-append (IsWithin c.vars) h.added k.added (AreWithin-later b.vars c.vars h.added k.vars h.within) k.within;
  total = λ v.
      let u = h.total v in
      let w = k.total u.0 in
      (w.0, record { same = λ i l. u.1.same i l ∙ w.1.same i (omega (arith, h.vars)) }, Meets-append w.0 h.added k.added (Meets-same b.vars u.0 w.0 h.added w.1 h.within u.2) w.2);
}

pub Continues-adds : {a b : Problem} {P : (ℕ → Bool) → Type 0} → Adds a b P → Continues a b
Continues-adds h = record { vars = h.vars; added = h.added; clauses = h.clauses; within = h.within; total = h.total }

-- of the clauses that an addition would add, the first k are there
pub Continues-part : {old new whole : Problem} {P : (ℕ → Bool) → Type 0} (k : ℕ) (all : List (List Lit)) → Adds old whole P → whole.vars ≡ new.vars → whole.clauses ≡ old.clauses ++ all → new.clauses ≡ old.clauses ++ take k all → Continues old new
Continues-part {old} {new} {whole} k all h vars clauses some = record {
  vars = omega (arith, h.vars, vars);
  added = take k all;
  clauses = some;
  within = All-take (IsWithin new.vars) k all (subst (AreWithin new.vars) same (subst (λ n. AreWithin n h.added) vars h.within));
  total = λ v. let u = h.total v in (u.0, u.1, Meets-left u.0 (take k all) (drop k all) (subst (Meets u.0) (same ∙ sym (take-append-drop k all)) u.2));
}
  where
    same : h.added ≡ all
    same = append_cancel_left old.clauses h.added all (sym h.clauses ∙ clauses)

-- nothing is added
pub Adds-none : (a : Problem) (P : (ℕ → Bool) → Type 0) → ((v : ℕ → Bool) → P v) → Adds a a P
Adds-none a P p = record {
  vars = omega arith;
  added = [];
  clauses = sym (append-nil a.clauses);
  within = All-nil (IsWithin a.vars);
  total = λ v. (v, record { same = λ i l. refl }, Meets-nil v);
  unique = λ u v h m n. h;
  says = λ v m. p v;
}

-- what follows from what an addition says is said too
pub Adds-weaker : {a b : Problem} (P Q : (ℕ → Bool) → Type 0) → Adds a b P → ((v : ℕ → Bool) → P v → Q v) → Adds a b Q
Adds-weaker P Q h f = record {
  vars = h.vars;
  added = h.added;
  clauses = h.clauses;
  within = h.within;
  total = h.total;
  unique = h.unique;
  says = λ v m. f v (h.says v m);
}

-- one addition after another
pub Adds-then : {a b c : Problem} (P Q R : (ℕ → Bool) → Type 0) → Adds a b P → Adds b c Q → ((v : ℕ → Bool) → P v → Q v → R v) → Adds a c R
Adds-then {a} {b} {c} P Q R h k f = record {
  vars = omega (arith, h.vars, k.vars);
  added = h.added ++ k.added;
  clauses = k.clauses ∙ ap (λ x. x ++ k.added) h.clauses ∙ append_assoc a.clauses h.added k.added;
  within = All-append (IsWithin c.vars) h.added k.added (AreWithin-later b.vars c.vars h.added k.vars h.within) k.within;
  total = λ v.
      let u = h.total v in
      let w = k.total u.0 in
      (w.0, record { same = λ i l. u.1.same i l ∙ w.1.same i (omega (arith, h.vars)) }, Meets-append w.0 h.added k.added (Meets-same b.vars u.0 w.0 h.added w.1 h.within u.2) w.2);
  unique = λ u v below m n.
      k.unique u v
      (h.unique u v below (Meets-left u h.added k.added m) (Meets-left v h.added k.added n))
      (Meets-right u h.added k.added m) (Meets-right v h.added k.added n);
  says = λ v m. f v (h.says v (Meets-left v h.added k.added m)) (k.says v (Meets-right v h.added k.added m));
}

pub Adds-both : {a b c : Problem} (P Q : (ℕ → Bool) → Type 0) → Adds a b P → Adds b c Q → Adds a c (λ v. P v × Q v)
Adds-both P Q h k = Adds-then P Q (λ v. P v × Q v) h k (λ v p q. (p, q))

-- v, with b as the value of the variable x
with_value : (ℕ → Bool) → ℕ → Bool → ℕ → Bool
with_value v x b i = if eqb i x then b else v i

with_value-at : (v : ℕ → Bool) (x : ℕ) (b : Bool) → with_value v x b x ≡ b
unfolding with_value
with_value-at v x b = grind (arith, nat_tests)

with_value-below : (v : ℕ → Bool) (x : ℕ) (b : Bool) → AgreeBelow x v (with_value v x b)
unfolding with_value
with_value-below v x b = record { same = λ i h. let t : eqb i x ≡ false = grind (arith, nat_tests) in rw t }

-- whether two truth values are the same
abbrev pub same_truth : Bool → Bool → Bool
same_truth a b = if a then b else not b

same_truth-true : (a b : Bool) → same_truth a b ≡ true → a ≡ b
same_truth-true true b h = sym h
same_truth-true false true h = absurd (true≢false (sym h))
same_truth-true false false h = refl

same_truth-refl : (a b : Bool) → a ≡ b → same_truth a b ≡ true
same_truth-refl true b h = sym h
same_truth-refl false true h = absurd (true≢false (sym h))
same_truth-refl false false h = refl

abbrev pub positive : ℕ → Lit
positive x = record { var = x; neg = false }

-- one more variable, which the added clauses make what f gives
pub Adds-define : (old new : Problem) (added : List (List Lit)) (f : (ℕ → Bool) → Bool) (r : Lit) → r ≡ positive old.vars → new.vars ≡ old.vars + 1 → new.clauses ≡ old.clauses ++ added → AreWithin new.vars added
    → ((u v : ℕ → Bool) → AgreeBelow old.vars u v → f u ≡ f v) → ((v : ℕ → Bool) → all_true v added ≡ same_truth (v old.vars) (f v)) → Adds old new (λ v. lit_true v r ≡ f v)
Adds-define old new added f r at one more within depends gate = record {
  vars = omega (arith, one);
  added = added;
  clauses = more;
  within = within;
  total = total;
  unique = unique;
  says = λ v m. ap (lit_true v) at ∙ defined v m;
}
  where
    defined : (v : ℕ → Bool) → Meets v added → v old.vars ≡ f v
    defined v m = same_truth-true (v old.vars) (f v) (sym (gate v) ∙ all_from_met v added m)

    total : (v : ℕ → Bool) → (u : ℕ → Bool) × AgreeBelow old.vars v u × Meets u added
    total v =
        let u = with_value v old.vars (f v) in
        let below = with_value-below v old.vars (f v) in
        let is : u old.vars ≡ f u = with_value-at v old.vars (f v) ∙ depends v u below in
        (u, below, met_from_all u added (gate u ∙ same_truth-refl (u old.vars) (f u) is))

    unique : (u v : ℕ → Bool) → AgreeBelow old.vars u v → Meets u added → Meets v added → AgreeBelow new.vars u v
    unique u v below m n = record {
      same = λ i l.
          ⊎_elim
          (λ (k : i < old.vars). below.same i k)
          (λ (k : old.vars ≤ i).
          let e : i ≡ old.vars = omega (arith, one) in
          ap u e ∙ defined u m ∙ depends u v below ∙ sym (defined v n) ∙ ap v (sym e))
          (cases_lt i old.vars);
    }

pub ruleset continuing = (Continues-same, Continues-trans, Continues-refl)

pub ruleset growing = (Continues-same, Continues-trans, Continues-refl, Continues-adds)
