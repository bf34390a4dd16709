-- What an engine has, and how it keeps up.
use Rattle.std.proofs.Common.{◌≡◌, inl, inr, ℕ, ◌+◌, ◌<◌, ◌≤◌, ◌++◌, List, [], ◌∷◌, length, get_or, take, drop, sym, ◌∙◌, ap, arith, subst, Option, Some, None}
use Rattle.std.specs.Prelude.{Contains, IfSome}
use Rattle.std.proofs.lemmas.List.{append-nil, append_assoc, take_all, drop_all, drop_more, take-append-le, take-append-drop, length_push}
use Rattle.std.proofs.lemmas.List.Elements.{All-weaker, Contains-append_left, Contains-append_right, Contains-append_cases}
use Rattle.sk_clause.specs.declared.lit.Lit.{Lit}
use Rattle.sk_clause.specs.Problem.{IsWithin, AreWithin}
use Rattle.sk_sat.specs.declared.engine.Engine.{Engine}
use Rattle.sk_sat.specs.Engine.{IsReady, HasSame, Serves, IsCurrent}

pub same_lists : (cs ds : List (List Lit)) → cs ≡ ds → HasSame cs ds
same_lists cs ds e = record { into = λ c h. subst (λ x. Contains x c) e h; back = λ c h. subst (λ x. Contains x c) (sym e) h }

pub same_append : (cs ds more : List (List Lit)) → HasSame cs ds → HasSame (cs ++ more) (ds ++ more)
same_append cs ds more s = record {
  into = λ c h. elim (Contains-append_cases cs more c h) [ inl a ↦ Contains-append_left ds more c (s.into c a) | inr b ↦ Contains-append_right ds more c b ];
  back = λ c h. elim (Contains-append_cases ds more c h) [ inl a ↦ Contains-append_left cs more c (s.back c a) | inr b ↦ Contains-append_right cs more c b ];
}

-- the rest of the added clauses
pub same_rest : (known added learnt : List (List Lit)) (n : ℕ) → HasSame known (take n added ++ learnt) → HasSame (known ++ drop n added) (added ++ learnt)
same_rest known added learnt n s =
    let whole : take n added ++ drop n added ≡ added = take-append-drop n added in
    let front = λ (c : List Lit) (h : Contains (take n added) c). subst (λ x. Contains x c) whole (Contains-append_left (take n added) (drop n added) c h) in
    let behind = λ (c : List Lit) (h : Contains (drop n added) c). subst (λ x. Contains x c) whole (Contains-append_right (take n added) (drop n added) c h) in
    record {
      into = λ c h. elim (Contains-append_cases known (drop n added) c h) [
        | inl k ↦ elim (Contains-append_cases (take n added) learnt c (s.into c k)) [
          | inl a ↦ Contains-append_left added learnt c (front c a)
          | inr l ↦ Contains-append_right added learnt c l
        ]
        | inr d ↦ Contains-append_left added learnt c (behind c d)
      ];
      back = λ c h. elim (Contains-append_cases added learnt c h) [
        | inl a ↦ elim (Contains-append_cases (take n added) (drop n added) c (subst (λ x. Contains x c) (sym whole) a)) [
          | inl f ↦ Contains-append_left known (drop n added) c (s.back c (Contains-append_left (take n added) learnt c f))
          | inr d ↦ Contains-append_right known (drop n added) c d
        ]
        | inr l ↦ Contains-append_left known (drop n added) c (s.back c (Contains-append_right (take n added) learnt c l))
      ];
    }

pub within_wider : (n m : ℕ) (cs : List (List Lit)) → n ≤ m → AreWithin n cs → AreWithin m cs
within_wider n m cs l h = All-weaker (IsWithin n) (IsWithin m) (λ c w. All-weaker (λ x. x.var < n) (λ x. x.var < m) (λ x k. omega arith) c w) cs h

-- one added clause more
pub catch_step : (known added all : List (List Lit)) (i : ℕ) → i < length added → known ++ drop i added ≡ all → (known ++ get_or added i [] ∷ []) ++ drop (i + 1) added ≡ all
catch_step known added all i h e = append_assoc known (get_or added i [] ∷ []) (drop (i + 1) added) ∙ ap (λ x. known ++ x) (sym (drop_more added i [] h)) ∙ e

pub catch_end : (known added all : List (List Lit)) (i : ℕ) → length added ≤ i → known ++ drop i added ≡ all → known ≡ all
catch_end known added all i h e = sym (ap (λ x. known ++ x) (drop_all i added h) ∙ append-nil known) ∙ e

pub serves_new : (vars : ℕ) (added learnt : List (List Lit)) (e : Engine) → IsReady e → length e.trail.values.items ≡ vars → e.known ≡ learnt → e.taken ≡ 0 → Serves vars added learnt e
serves_new vars added learnt e r v k t = record {
  ready = r;
  long = omega arith;
  taken = omega arith;
  same = same_lists e.known (take e.taken added ++ learnt) (k ∙ ap (λ n. take n added ++ learnt) (sym t));
}

pub current_from : (vars : ℕ) (added learnt : List (List Lit)) (e e' : Engine) → Serves vars added learnt e → IsReady e' → length e'.trail.values.items ≡ vars → e'.known ≡ e.known ++ drop e.taken added → e'.taken ≡ length added → IsCurrent vars added learnt e'
current_from vars added learnt e e' s r v k t = record {
  ready = r;
  long = v;
  taken = t;
  same = subst (λ x. HasSame x (added ++ learnt)) (sym k) (same_rest e.known added learnt e.taken s.same);
}

-- after a search it has what was learnt
pub serves_searched : (vars : ℕ) (added learnt fresh all : List (List Lit)) (e e' : Engine) → IsCurrent vars added learnt e → IsReady e' → length e'.trail.values.items ≡ length e.trail.values.items → e'.taken ≡ e.taken → e'.known ≡ e.known ++ fresh → all ≡ learnt ++ fresh → Serves vars added all e'
serves_searched vars added learnt fresh all e e' s r v t k a = record {
  ready = r;
  long = omega (arith, s.long);
  taken = omega (arith, s.taken);
  same =
      let whole : take e'.taken added ≡ added = take_all e'.taken added (omega (arith, s.taken)) in
      let right : (added ++ learnt) ++ fresh ≡ take e'.taken added ++ all = append_assoc added learnt fresh ∙ ap (λ x. added ++ x) (sym a) ∙ ap (λ x. x ++ all) (sym whole) in
      subst (λ x. HasSame x (take e'.taken added ++ all)) (sym k) (subst (HasSame (e.known ++ fresh)) right (same_append e.known (added ++ learnt) fresh s.same));
}

serves_wider : (n m : ℕ) (added learnt : List (List Lit)) (e : Engine) → n ≤ m → Serves n added learnt e → Serves m added learnt e
serves_wider n m added learnt e l s = record { ready = s.ready; long = omega (arith, s.long); taken = s.taken; same = s.same }

pub serve_vars : (n m : ℕ) (added learnt : List (List Lit)) (o : Option Engine) → n ≤ m → IfSome o (Serves n added learnt) → IfSome o (Serves m added learnt)
serve_vars n m added learnt None l h = h
serve_vars n m added learnt (Some e) l h = serves_wider n m added learnt e l h

serves_more : (vars : ℕ) (added learnt : List (List Lit)) (c : List Lit) (e : Engine) → Serves vars added learnt e → Serves vars (added ++ c ∷ []) learnt e
serves_more vars added learnt c e s = record {
  ready = s.ready;
  long = s.long;
  taken = omega (arith, s.taken, length_push added c);
  same = subst (λ x. HasSame e.known (x ++ learnt)) (sym (take-append-le e.taken added (c ∷ []) s.taken)) s.same;
}

pub serve_add : (vars : ℕ) (added learnt : List (List Lit)) (c : List Lit) (o : Option Engine) → IfSome o (Serves vars added learnt) → IfSome o (Serves vars (added ++ c ∷ []) learnt)
serve_add vars added learnt c None h = h
serve_add vars added learnt c (Some e) h = serves_more vars added learnt c e h

pub ruleset engines = (serves_new)
