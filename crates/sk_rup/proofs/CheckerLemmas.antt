-- Denying a clause, why a look at all clauses that changes nothing decides, and what keeps a checker ready.
use Rattle.std.proofs.Common.{◌≡◌, ◌≢◌, ◌⊎◌, inl, inr, Bool, true, false, ℕ, ◌+◌, ◌<◌, ◌≤◌, ◌++◌, List, [], ◌∷◌, length, get_or, take, refl, sym, ◌∙◌, ap, arith, subst, Option}
use Rattle.std.specs.Prelude.{All, Contains, IsTrue, ◌↔◌}
use Rattle.std.proofs.lemmas.List.{take_at, take_all, take_more, take-take, length_push}
use Rattle.std.proofs.lemmas.List.Elements.{All-contains, All-push, Contains-get_or, Contains-push_cases, Contains-append_left}
use Rattle.sk_clause.specs.declared.lit.Lit.{Lit}
use Rattle.sk_clause.specs.Problem.{IsWithin}
use Rattle.sk_clause.specs.Meaning.{negated, Closure, denied, forced, Falsifies, Follows}
use Rattle.sk_clause.specs.Values.{Holds, Fails, IsOpen, IsSettled, assigned}
use Rattle.sk_clause.proofs.MeaningLemmas.{closure_more, falsifies_more, Contains-none}
use Rattle.sk_clause.proofs.ValueLemmas.{negated_holds, Holds-assigned_kept, Holds-assigned_own, negated-negated, lit_cases, not_both, not_open_both, open_negated, length-assigned}
use Rattle.sk_rup.specs.declared.trail.Trail.{Trail}
use Rattle.sk_rup.specs.declared.checker.Checker.{Checker}
use Rattle.sk_rup.specs.Steps.{Covers, AreRoots, Grows, Steps}
use Rattle.sk_rup.specs.Visit.{IsSpread}
use Rattle.sk_rup.specs.Checker.{Denies, IsComplete, IsReady}
use Rattle.sk_rup.proofs.StepLemmas.{steps_same, steps_more, within_after, conflict_back}

pub grows_same : (t : Trail) → Covers t.values.items t.lits.items → Grows t t
grows_same t c = record { long = refl; covers = c; front = take_all (length t.lits.items) t.lits.items (omega arith); more = omega arith }

pub grows_more : (a b c : Trail) → Grows a b → Grows b c → Grows a c
grows_more a b c x y = record {
  long = y.long ∙ x.long;
  covers = y.covers;
  front = sym (take-take (length a.lits.items) (length b.lits.items) c.lits.items x.more) ∙ ap (take (length a.lits.items)) y.front ∙ x.front;
  more = omega (arith, x.more, y.more);
}

pub grows_steps : (known : List (List Lit)) (a b : Trail) → Steps known a b → Grows a b
grows_steps known a b s = record { long = s.long; covers = s.covers; front = s.front; more = s.more }

-- the first literals of a clause are false, and nothing else was made so
pub record Denying (c : List Lit) (i : ℕ) (old new : Trail) : Type 0 where
  pub grows : Grows old new
  pub each : (m : Lit) → Contains (take i c) m → Holds new.values.items (negated m)
  pub only : (m : Lit) → Contains new.lits.items m → Contains old.lits.items m ⊎ Contains c (negated m)

pub denying_begins : (c : List Lit) (t : Trail) → Covers t.values.items t.lits.items → Denying c 0 t t
denying_begins c t h = record { grows = grows_same t h; each = λ m k. absurd (Contains-none m k); only = λ m k. inl k }

module _ (c : List Lit) (i : ℕ) (d : Lit) (l : i < length c) (old now : Trail) (h : Denying c i old now) where
  cases : (m : Lit) → Contains (take (i + 1) c) m → Contains (take i c) m ⊎ (get_or c i d ≡ m)
  cases m k = Contains-push_cases (take i c) (get_or c i d) m (subst (λ y. Contains y m) (take_more c i d l) k)

  pub denying_already : Fails now.values.items (get_or c i d) → Denying c (i + 1) old now
  denying_already f = record {
    grows = h.grows;
    each = λ m k. elim (cases m k) [
      | inl before ↦ h.each m before
      | inr same ↦ negated_holds now.values.items m (subst (Fails now.values.items) same f)
    ];
    only = h.only;
  }

  pub denying_now : (new : Trail) → IsOpen now.values.items (get_or c i d) → (get_or c i d).var < length now.values.items → Covers new.values.items new.lits.items
      → new.values.items ≡ assigned now.values.items (negated (get_or c i d)) → new.lits.items ≡ now.lits.items ++ negated (get_or c i d) ∷ [] → Denying c (i + 1) old new
  denying_now new o w cov vs ls = record {
    grows = grows_more old now new h.grows (record {
      long = ap length vs ∙ length-assigned now.values.items (negated (get_or c i d));
      covers = cov;
      front = ap (take (length now.lits.items)) ls ∙ take_at now.lits.items (negated (get_or c i d) ∷ []) (length now.lits.items) refl;
      more = omega (arith, ap length ls, length_push now.lits.items (negated (get_or c i d)));
    });
    each = λ m k. subst (λ x. Holds x (negated m)) (sym vs) (elim (cases m k) [
      | inl before ↦ Holds-assigned_kept now.values.items (negated (get_or c i d)) (negated m) (open_negated now.values.items (get_or c i d) o) (h.each m before)
      | inr same ↦ subst (λ x. Holds (assigned now.values.items (negated (get_or c i d))) (negated x)) same (Holds-assigned_own now.values.items (negated (get_or c i d)) w)
    ]);
    only = λ m k. elim (Contains-push_cases now.lits.items (negated (get_or c i d)) m (subst (λ x. Contains x m) ls k)) [
      | inl before ↦ h.only m before
      | inr same ↦ inr (subst (Contains c) (sym (ap negated (sym same) ∙ negated-negated (get_or c i d))) (Contains-get_or c i d l))
    ];
  }

  derived_now : (known : List (List Lit)) → AreRoots known old.lits.items → (m : Lit) → Contains now.lits.items m → Closure known c m
  derived_now known r m k = elim (h.only m k) [ inl root ↦ (r.derived c).each m root | inr put ↦ denied put ]

  pub denying_clash : Holds now.values.items (get_or c i d) → (known : List (List Lit)) → AreRoots known old.lits.items → Follows known c
  denying_clash t known r = inl (get_or c i d, derived_now known r (get_or c i d) (h.grows.covers.there (get_or c i d) t), denied (subst (Contains c) (sym (negated-negated (get_or c i d))) (Contains-get_or c i d l)))

pub denying_grows : (c : List Lit) (i : ℕ) (old new : Trail) → Denying c i old new → Grows old new
denying_grows c i old new h = h.grows

pub denying_ends : (c : List Lit) (i : ℕ) (old new : Trail) → length c ≤ i → Denying c i old new → Denies c old new
denying_ends c i old new l h = record { each = λ m k. h.each m (subst (λ x. Contains x m) (sym (take_all i c l)) k); only = h.only }

pub ruleset denials = (denying_begins, denying_already, denying_now, denying_clash, denying_grows, denying_ends)

pub ruleset completes = (steps_same, steps_more, within_after)

-- in a settled clause whose other literals are false, the one is true
forced_holds : (values : List (Option Bool)) (d : List Lit) (l : Lit) → IsSettled values d → ((m : Lit) → Contains d m → m ≢ l → Holds values (negated m)) → Holds values l
forced_holds values d l (inl t) others = elim (lit_cases t.0 l) [
  | inl same ↦ subst (Holds values) same t.2
  | inr other ↦ absurd (not_both values t.0 t.2 (others t.0 t.1 other))
]
forced_holds values d l (inr t) others = elim (lit_cases t.0 l) [
  | inl same ↦ absurd (not_open_both values t.1 t.6 (others t.1 t.3 (λ e. t.4 (same ∙ sym e))))
  | inr other ↦ absurd (not_open_both values t.0 t.5 (others t.0 t.2 other))
]

-- a settled clause has a literal that is not false
settled_not_false : (values : List (Option Bool)) (d : List Lit) → IsSettled values d → ((m : Lit) → Contains d m → Holds values (negated m)) → ⊥
settled_not_false values d (inl t) all = not_both values t.0 t.2 (all t.0 t.1)
settled_not_false values d (inr t) all = not_open_both values t.0 t.5 (all t.0 t.2)

-- where each clause is settled, the closure is what is true
saturated : (clauses : List (List Lit)) (c : List Lit) (values : List (Option Bool)) → ((m : Lit) → Contains c m → Holds values (negated m)) → All (IsSettled values) clauses → (l : Lit) → Closure clauses c l → Holds values l
saturated clauses c values start all l (denied h) = subst (Holds values) (negated-negated l) (start (negated l) h)
saturated clauses c values start all l (forced d within there others) =
    forced_holds values d l (All-contains (IsSettled values) clauses d all within) (λ m w other. saturated clauses c values start all (negated m) (others m w other))

-- and then the clause does not follow
done_follows_not : (clauses : List (List Lit)) (c : List Lit) (values : List (Option Bool)) → ((m : Lit) → Contains c m → Holds values (negated m)) → All (IsSettled values) clauses → Follows clauses c → ⊥
done_follows_not clauses c values start all (inl h) = not_both values h.0 (saturated clauses c values start all h.0 h.1) (saturated clauses c values start all (negated h.0) h.2)
done_follows_not clauses c values start all (inr h) = settled_not_false values h.0 (All-contains (IsSettled values) clauses h.0 all h.1) (λ m w. saturated clauses c values start all (negated m) (h.2 m w))

pub decided : (known : List (List Lit)) (c : List Lit) (old mid new : Trail) → AreRoots known old.lits.items → Denies c old mid → Steps known mid new → (b : Bool) → IsComplete known new b → IsTrue b ↔ Follows known c
decided known c old mid new r d s true h = ((λ _. inr (h.falsifies c (s.derives c (record { each = λ m k. elim (d.only m k) [ inl root ↦ (r.derived c).each m root | inr put ↦ denied put ] })))), λ _. refl)
decided known c old mid new r d s false h = ((λ t. absurd (cc)), λ f. absurd (done_follows_not known c new.values.items (λ m k. s.keeps (negated m) (d.each m k)) h f))

pub ruleset decisions = (decided, grows_steps, grows_more)

roots_more : (known : List (List Lit)) (c ls : List Lit) → AreRoots known ls → AreRoots (known ++ c ∷ []) ls
roots_more known c ls r = record { derived = λ e. record { each = λ m k. closure_more known (known ++ c ∷ []) e (λ d w. Contains-append_left known (c ∷ []) d w) m ((r.derived e).each m k) } }

pub roots_none : (known : List (List Lit)) (ls : List Lit) → ls ≡ [] → AreRoots known ls
roots_none known ls e = record { derived = λ c. record { each = λ m k. absurd (Contains-none m (subst (λ x. Contains x m) e k)) } }

-- a clause more, where nothing is left to do
pub ready_over : (a b : Checker) (c : List Lit) → IsReady a → a.refuted ≡ true → IsWithin (length a.trail.values.items) c → b.known ≡ a.known ++ c ∷ [] → b.trail ≡ a.trail → b.refuted ≡ a.refuted → IsReady b
ready_over a b c h over w k t r = record {
  covers = subst (λ (x : Trail). Covers x.values.items x.lits.items) (sym t) h.covers;
  within = rw (k, t) (All-push (IsWithin (length a.trail.values.items)) a.known c h.within w);
  roots = rw (k, t) (roots_more a.known c a.trail.lits.items h.roots);
  over = λ _ e. rw k (falsifies_more a.known (a.known ++ c ∷ []) e (λ d w. Contains-append_left a.known (c ∷ []) d w) (h.over over e));
}

-- a clause more, with what it forces
pub ready_add : (a b : Checker) (known : List (List Lit)) (c : List Lit) → IsReady a → known ≡ a.known ++ c ∷ [] → b.known ≡ known → Steps known a.trail b.trail → IsSpread known b.trail b.refuted → IsWithin (length a.trail.values.items) c → IsReady b
ready_add a b known c h k j s f w =
    let r : AreRoots known a.trail.lits.items = subst (λ x. AreRoots x a.trail.lits.items) (sym k) (roots_more a.known c a.trail.lits.items h.roots) in
    let r' : AreRoots known b.trail.lits.items = record { derived = λ e. s.derives e (r.derived e) } in
    record {
      covers = s.covers;
      within = rw (j, k, s.long) (All-push (IsWithin (length a.trail.values.items)) a.known c h.within w);
      roots = subst (λ x. AreRoots x b.trail.lits.items) (sym j) r';
      over = λ o e. subst (λ x. Falsifies x e) (sym j) ((f o).falsifies e (r'.derived e));
    }

-- back to the literals that were there
pub ready_back : (a b : Checker) → IsReady a → b.known ≡ a.known → b.refuted ≡ a.refuted → Covers b.trail.values.items b.trail.lits.items → b.trail.lits.items ≡ a.trail.lits.items → length b.trail.values.items ≡ length a.trail.values.items → IsReady b
ready_back a b h k r c l e = record {
  covers = c;
  within = rw (k, e) h.within;
  roots = rw (k, l) h.roots;
  over = λ o d. rw k (h.over (sym r ∙ o) d);
}

pub ruleset checkers = (roots_none)
