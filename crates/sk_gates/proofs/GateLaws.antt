-- The tables of the base gates: what their clauses say.
use Rattle.std.proofs.Common.{◌≡◌, ℕ, ◌+◌, ◌<◌, Bool, true, false, not, ◌&&◌, ◌||◌, List, [], ◌∷◌, ◌++◌, take, refl, sym, ap, ◌∙◌, arith, if◌then◌else◌}
use Rattle.std.proofs.lemmas.List.{append-nil, append_assoc}
use Rattle.std.proofs.lemmas.List.Elements.{All-nil, All-cons}
use Rattle.sk_clause.specs.declared.lit.Lit.{Lit}
use Rattle.sk_clause.specs.Meaning.{lit_true, negated}
use Rattle.sk_clause.specs.Problem.{Problem, IsWithin, AreWithin}
use Rattle.sk_gates.specs.Extension.{Adds, Continues}
use Rattle.sk_gates.specs.Bits.{differ, choose}
use Rattle.sk_gates.proofs.ExtensionLaws.{Adds-define, Continues-part, Continues-trans, Continues-same, lit_true-same, same_truth, positive, all_true}

-- one variable more, and these clauses more
pub record Defining (old new : Problem) (added : List (List Lit)) : Type 0 where
  pub one : new.vars ≡ old.vars + 1
  pub more : new.clauses ≡ old.clauses ++ added

pub Defining-start : {old new : Problem} → new ≡ record old { vars = old.vars + 1 } → Defining old new []
Defining-start {old} {new} e = record { one = ap (λ (p : Problem). p.vars) e; more = ap (λ (p : Problem). p.clauses) e ∙ sym (append-nil old.clauses) }

pub Defining-more : {old mid new : Problem} (added : List (List Lit)) (c : List Lit) → Defining old mid added → new ≡ record mid { clauses = mid.clauses ++ c ∷ [] } → Defining old new (added ++ c ∷ [])
Defining-more {old} {mid} {new} added c d e = record {
  one = ap (λ (p : Problem). p.vars) e ∙ d.one;
  more = ap (λ (p : Problem). p.clauses) e ∙ ap (λ x. x ++ c ∷ []) d.more ∙ append_assoc old.clauses added (c ∷ []);
}

pub lit_true-negated : (v : ℕ → Bool) (l : Lit) → lit_true v (negated l) ≡ not (lit_true v l)
lit_true-negated v l = by l.neg (v l.var)
  where
    by : (n x : Bool) → (if not n then not x else x) ≡ not (if n then not x else x)
    by true true = refl
    by true false = refl
    by false true = refl
    by false false = refl

is_negated : (v : ℕ → Bool) (m l : Lit) → m ≡ negated l → lit_true v m ≡ not (lit_true v l)
is_negated v m l e = ap (lit_true v) e ∙ lit_true-negated v l

and_table : (x a b : Bool) → ((not x || (a || false)) && ((not x || (b || false)) && ((x || (not a || (not b || false))) && true))) ≡ same_truth x (a && b)
and_table true true true = refl
and_table true true false = refl
and_table true false true = refl
and_table true false false = refl
and_table false true true = refl
and_table false true false = refl
and_table false false true = refl
and_table false false false = refl

xor_table : (x a b : Bool) → ((not x || (a || (b || false))) && ((not x || (not a || (not b || false))) && ((x || (not a || (b || false))) && ((x || (a || (not b || false))) && true)))) ≡ same_truth x (differ a b)
xor_table true true true = refl
xor_table true true false = refl
xor_table true false true = refl
xor_table true false false = refl
xor_table false true true = refl
xor_table false true false = refl
xor_table false false true = refl
xor_table false false false = refl

mux_table : (x c a b : Bool) → ((not x || (not c || (a || false))) && ((x || (not c || (not a || false))) && ((not x || (c || (b || false))) && ((x || (c || (not b || false))) && true)))) ≡ same_truth x (choose c a b)
mux_table true true true true = refl
mux_table true true true false = refl
mux_table true true false true = refl
mux_table true true false false = refl
mux_table true false true true = refl
mux_table true false true false = refl
mux_table true false false true = refl
mux_table true false false false = refl
mux_table false true true true = refl
mux_table false true true false = refl
mux_table false true false true = refl
mux_table false true false false = refl
mux_table false false true true = refl
mux_table false false true false = refl
mux_table false false false true = refl
mux_table false false false false = refl

and_by : (x r nr a na b nb : Bool) → r ≡ x → nr ≡ not r → na ≡ not a → nb ≡ not b → ((nr || (a || false)) && ((nr || (b || false)) && ((r || (na || (nb || false))) && true))) ≡ same_truth x (a && b)
and_by x r nr a na b nb e f g h = rw (f, g, h, e) (and_table x a b)

xor_by : (x r nr a na b nb : Bool) → r ≡ x → nr ≡ not r → na ≡ not a → nb ≡ not b → ((nr || (a || (b || false))) && ((nr || (na || (nb || false))) && ((r || (na || (b || false))) && ((r || (a || (nb || false))) && true)))) ≡ same_truth x (differ a b)
xor_by x r nr a na b nb e f g h = rw (f, g, h, e) (xor_table x a b)

mux_by : (x r nr c nc a na b nb : Bool) → r ≡ x → nr ≡ not r → nc ≡ not c → na ≡ not a → nb ≡ not b → ((nr || (nc || (a || false))) && ((r || (nc || (na || false))) && ((nr || (c || (b || false))) && ((r || (c || (nb || false))) && true)))) ≡ same_truth x (choose c a b)
mux_by x r nr c nc a na b nb e d f g h = rw (d, f, g, h, e) (mux_table x c a b)

one : (n : ℕ) (x : Lit) → x.var < n → IsWithin n (x ∷ [])
one n x h = All-cons (λ l. l.var < n) x [] h (All-nil (λ l. l.var < n))

two : (n : ℕ) (x y : Lit) → x.var < n → y.var < n → IsWithin n (x ∷ y ∷ [])
two n x y h k = All-cons (λ l. l.var < n) x (y ∷ []) h (one n y k)

three : (n : ℕ) (x y z : Lit) → x.var < n → y.var < n → z.var < n → IsWithin n (x ∷ y ∷ z ∷ [])
three n x y z h k j = All-cons (λ l. l.var < n) x (y ∷ z ∷ []) h (two n y z k j)

-- the variable of a literal that is the negation of one of the first n, or of a new one
of_negated : (n : ℕ) (m l : Lit) → m ≡ negated l → l.var < n → m.var < n
of_negated n m l e h = omega (arith, ap (λ (x : Lit). x.var) e)

of_new : (n : ℕ) (r : Lit) → r ≡ positive n → r.var < n + 1
of_new n r e = omega (arith, ap (λ (x : Lit). x.var) e)

clauses3 : (n : ℕ) (c d e : List Lit) → IsWithin n c → IsWithin n d → IsWithin n e → AreWithin n (c ∷ d ∷ e ∷ [])
clauses3 n c d e h k j = All-cons (IsWithin n) c (d ∷ e ∷ []) h (All-cons (IsWithin n) d (e ∷ []) k (All-cons (IsWithin n) e [] j (All-nil (IsWithin n))))

clauses4 : (n : ℕ) (c d e f : List Lit) → IsWithin n c → IsWithin n d → IsWithin n e → IsWithin n f → AreWithin n (c ∷ d ∷ e ∷ f ∷ [])
clauses4 n c d e f h k j i = All-cons (IsWithin n) c (d ∷ e ∷ f ∷ []) h (clauses3 n d e f k j i)

pub known_made : (old new : Problem) (r fact : Lit) (b : Bool) → r ≡ positive old.vars → fact ≡ (if b then r else negated r) → Defining old new ((fact ∷ []) ∷ []) → Adds old new (λ v. lit_true v r ≡ b)
known_made old new r fact b at is d =
    Adds-define old new ((fact ∷ []) ∷ []) (λ v. b) r at d.one d.more
    (rw d.one (All-cons (IsWithin (old.vars + 1)) (fact ∷ []) [] (one (old.vars + 1) fact (below b is)) (All-nil (IsWithin (old.vars + 1)))))
    (λ u v h. refl)
    (λ v. known v b is)
  where
    below : (x : Bool) → fact ≡ (if x then r else negated r) → fact.var < old.vars + 1
    below true e = omega (arith, ap (λ (l : Lit). l.var) e, of_new old.vars r at)
    below false e = omega (arith, ap (λ (l : Lit). l.var) e, of_new old.vars r at)

    known : (v : ℕ → Bool) (x : Bool) → fact ≡ (if x then r else negated r) → all_true v ((fact ∷ []) ∷ []) ≡ same_truth (v old.vars) x
    known v true e = let f : lit_true v fact ≡ v old.vars = ap (lit_true v) e ∙ ap (lit_true v) at in by (lit_true v fact) (v old.vars) f
      where
        by : (a x : Bool) → a ≡ x → ((a || false) && true) ≡ same_truth x true
        by a true e = rw e
        by a false e = rw e
    known v false e = let f : lit_true v fact ≡ not (v old.vars) = is_negated v fact r e ∙ ap (λ x. not (lit_true v x)) at in by (lit_true v fact) (v old.vars) f
      where
        by : (a x : Bool) → a ≡ not x → ((a || false) && true) ≡ same_truth x false
        by a true e = rw e
        by a false e = rw e

module _ (old new : Problem) (r nr a na b nb : Lit) (at : r ≡ positive old.vars) (er : nr ≡ negated r) (ea : na ≡ negated a) (eb : nb ≡ negated b) (ha : a.var < old.vars) (hb : b.var < old.vars) where
  pub and_made : Defining old new ((nr ∷ a ∷ []) ∷ (nr ∷ b ∷ []) ∷ (r ∷ na ∷ nb ∷ []) ∷ []) → Adds old new (λ v. lit_true v r ≡ (lit_true v a && lit_true v b))
  and_made d =
      let n = old.vars + 1 in
      let r_in = of_new old.vars r at in
      let nr_in = of_negated n nr r er r_in in
      let a_in : a.var < n = omega arith in
      let b_in : b.var < n = omega arith in
      let na_in = of_negated n na a ea a_in in
      let nb_in = of_negated n nb b eb b_in in
      Adds-define old new _ (λ v. lit_true v a && lit_true v b) r at d.one d.more
      (rw d.one (clauses3 n _ _ _ (two n nr a nr_in a_in) (two n nr b nr_in b_in) (three n r na nb r_in na_in nb_in)))
      (λ u v h. rw (lit_true-same old.vars u v a h ha, lit_true-same old.vars u v b h hb))
      (λ v. and_by (v old.vars) (lit_true v r) (lit_true v nr) (lit_true v a) (lit_true v na) (lit_true v b) (lit_true v nb) (ap (lit_true v) at) (is_negated v nr r er) (is_negated v na a ea) (is_negated v nb b eb))

  pub xor_made : Defining old new ((nr ∷ a ∷ b ∷ []) ∷ (nr ∷ na ∷ nb ∷ []) ∷ (r ∷ na ∷ b ∷ []) ∷ (r ∷ a ∷ nb ∷ []) ∷ []) → Adds old new (λ v. lit_true v r ≡ differ (lit_true v a) (lit_true v b))
  xor_made d =
      let n = old.vars + 1 in
      let r_in = of_new old.vars r at in
      let nr_in = of_negated n nr r er r_in in
      let a_in : a.var < n = omega arith in
      let b_in : b.var < n = omega arith in
      let na_in = of_negated n na a ea a_in in
      let nb_in = of_negated n nb b eb b_in in
      Adds-define old new _ (λ v. differ (lit_true v a) (lit_true v b)) r at d.one d.more
      (rw d.one (clauses4 n _ _ _ _ (three n nr a b nr_in a_in b_in) (three n nr na nb nr_in na_in nb_in) (three n r na b r_in na_in b_in) (three n r a nb r_in a_in nb_in)))
      (λ u v h. rw (lit_true-same old.vars u v a h ha, lit_true-same old.vars u v b h hb))
      (λ v. xor_by (v old.vars) (lit_true v r) (lit_true v nr) (lit_true v a) (lit_true v na) (lit_true v b) (lit_true v nb) (ap (lit_true v) at) (is_negated v nr r er) (is_negated v na a ea) (is_negated v nb b eb))

  pub mux_made : (c nc : Lit) → nc ≡ negated c → c.var < old.vars → Defining old new ((nr ∷ nc ∷ a ∷ []) ∷ (r ∷ nc ∷ na ∷ []) ∷ (nr ∷ c ∷ b ∷ []) ∷ (r ∷ c ∷ nb ∷ []) ∷ []) → Adds old new (λ v. lit_true v r ≡ choose (lit_true v c) (lit_true v a) (lit_true v b))
  mux_made c nc ec hc d =
      let n = old.vars + 1 in
      let r_in = of_new old.vars r at in
      let nr_in = of_negated n nr r er r_in in
      let a_in : a.var < n = omega arith in
      let b_in : b.var < n = omega arith in
      let c_in : c.var < n = omega arith in
      let na_in = of_negated n na a ea a_in in
      let nb_in = of_negated n nb b eb b_in in
      let nc_in = of_negated n nc c ec c_in in
      Adds-define old new _ (λ v. choose (lit_true v c) (lit_true v a) (lit_true v b)) r at d.one d.more
      (rw d.one (clauses4 n _ _ _ _ (three n nr nc a nr_in nc_in a_in) (three n r nc na r_in nc_in na_in) (three n nr c b nr_in c_in b_in) (three n r c nb r_in c_in nb_in)))
      (λ u v h. rw (lit_true-same old.vars u v c h hc, lit_true-same old.vars u v a h ha, lit_true-same old.vars u v b h hb))
      (λ v. mux_by (v old.vars) (lit_true v r) (lit_true v nr) (lit_true v c) (lit_true v nc) (lit_true v a) (lit_true v na) (lit_true v b) (lit_true v nb) (ap (lit_true v) at) (is_negated v nr r er) (is_negated v nc c ec) (is_negated v na a ea) (is_negated v nb b eb))

-- ---- gates of which only the first clauses are there, since a call was refused

-- The call left all as it was where k of the clauses were there that make a gate of a new variable.
pub Defining-refused : {old mid new : Problem} {P : (ℕ → Bool) → Type 0} (k : ℕ) (all : List (List Lit)) → new ≡ mid → Defining old mid (take k all) → ((whole : Problem) → Defining old whole all → Adds old whole P) → Continues old new
Defining-refused {old} {mid} {new} k all same d made =
    let whole : Problem = record { vars = old.vars + 1; clauses = old.clauses ++ all } in
    Continues-trans (Continues-part {old = old} {new = mid} {whole = whole} k all (made whole (record { one = refl; more = refl })) (sym d.one) refl d.more) (Continues-same same)

pub known_refused : {old mid new : Problem} (r fact : Lit) (b : Bool) → r ≡ positive old.vars → fact ≡ (if b then r else negated r) → new ≡ mid → Defining old mid [] → Continues old new
known_refused {old} r fact b at is same d = Defining-refused 0 ((fact ∷ []) ∷ []) same d (λ whole w. known_made old whole r fact b at is w)

module _ {old mid new : Problem} (k : ℕ) (r nr a na b nb : Lit) (at : r ≡ positive old.vars) (er : nr ≡ negated r) (ea : na ≡ negated a) (eb : nb ≡ negated b) (ha : a.var < old.vars) (hb : b.var < old.vars) (same : new ≡ mid) where
  pub and_refused : Defining old mid (take k ((nr ∷ a ∷ []) ∷ (nr ∷ b ∷ []) ∷ (r ∷ na ∷ nb ∷ []) ∷ [])) → Continues old new
  and_refused d = Defining-refused k _ same d (λ whole w. and_made old whole r nr a na b nb at er ea eb ha hb w)

  pub xor_refused : Defining old mid (take k ((nr ∷ a ∷ b ∷ []) ∷ (nr ∷ na ∷ nb ∷ []) ∷ (r ∷ na ∷ b ∷ []) ∷ (r ∷ a ∷ nb ∷ []) ∷ [])) → Continues old new
  xor_refused d = Defining-refused k _ same d (λ whole w. xor_made old whole r nr a na b nb at er ea eb ha hb w)

  pub mux_refused : (c nc : Lit) → nc ≡ negated c → c.var < old.vars → Defining old mid (take k ((nr ∷ nc ∷ a ∷ []) ∷ (r ∷ nc ∷ na ∷ []) ∷ (nr ∷ c ∷ b ∷ []) ∷ (r ∷ c ∷ nb ∷ []) ∷ [])) → Continues old new
  mux_refused c nc ec hc d = Defining-refused k _ same d (λ whole w. mux_made old whole r nr a na b nb at er ea eb ha hb c nc ec hc w)
