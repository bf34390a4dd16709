-- The chains of the known clauses.
use Rattle.std.proofs.Common.{◌≡◌, ◌≢◌, inl, inr, Bool, true, false, ℕ, ◌+◌, ◌<◌, ◌≤◌, ◌++◌, List, [], ◌∷◌, length, get_or, set, take, refl, sym, ◌∙◌, ap, arith, subst, Some, None}
use Rattle.std.specs.Prelude.{Contains}
use Rattle.std.proofs.lemmas.List.{take_all, length_push, get_or_append_left, get_or_push, get_or-set_same, get_or-set_other, get_or_past}
use Rattle.std.proofs.lemmas.Bool.{cases_eq, cases_lt}
use Rattle.sk_clause.specs.declared.lit.Lit.{Lit}
use Rattle.sk_clause.specs.Meaning.{Includes}
use Rattle.sk_clause.proofs.MeaningLemmas.{Contains-here, Contains-none}
use Rattle.sk_sat.specs.Round.{IsUnlike}
use Rattle.sk_sat.specs.Known.{first_var, IsIndexed, IsApart}
use Rattle.sk_sat.proofs.InsideLemmas.{more_cases, is_inside}
use Rattle.sk_sat.proofs.TrailLemmas.{each_push}

pub indexed_none : IsIndexed [] [] [] false
indexed_none = record {
  long = refl;
  head = λ i v h e. absurd (omega arith);
  link = λ i j v l h e f. absurd (omega arith);
  filled = λ b i h. absurd (omega arith);
}

-- only what the numbers are matters
pub indexed_same : (known : List (List Lit)) (heads heads' links : List ℕ) (blank : Bool) → ((w : ℕ) → get_or heads' w 0 ≡ get_or heads w 0) → IsIndexed known heads links blank → IsIndexed known heads' links blank
indexed_same known heads heads' links blank same h = record {
  long = h.long;
  head = λ i v l e. subst (λ n. i < n) (sym (same v)) (h.head i v l e);
  link = h.link;
  filled = h.filled;
}

module _ (known : List (List Lit)) (heads links : List ℕ) (blank : Bool) (c : List Lit) (h : IsIndexed known heads links blank) where
  at_left : (i : ℕ) → i < length known → get_or (known ++ c ∷ []) i [] ≡ get_or known i []
  at_left i l = get_or_append_left known (c ∷ []) [] i l

  at_last : get_or (known ++ c ∷ []) (length known) [] ≡ c
  at_last = get_or_push known c [] (length known) refl

  var_left : (i v : ℕ) → i < length known → first_var (get_or (known ++ c ∷ []) i []) ≡ Some v → first_var (get_or known i []) ≡ Some v
  var_left i v l e = ap first_var (sym (at_left i l)) ∙ e

  var_last : (v : ℕ) → first_var (get_or (known ++ c ∷ []) (length known) []) ≡ Some v → first_var c ≡ Some v
  var_last v e = ap first_var (sym at_last) ∙ e

  link_left : (n j : ℕ) → j < length known → get_or (links ++ n ∷ []) j 0 ≡ get_or links j 0
  link_left n j l = get_or_append_left links (n ∷ []) 0 j (omega (arith, h.long))

  link_last : (n : ℕ) → get_or (links ++ n ∷ []) (length known) 0 ≡ n
  link_last n = get_or_push links n 0 (length known) h.long

  long_more : (n : ℕ) → length (links ++ n ∷ []) ≡ length (known ++ c ∷ [])
  long_more n = length_push links n ∙ ap (λ k. k + 1) h.long ∙ sym (length_push known c)

  pub indexed_blank : first_var c ≡ None → IsIndexed (known ++ c ∷ []) heads (links ++ 0 ∷ []) true
  indexed_blank none = record {
    long = long_more 0;
    head = λ i v. each_push known c (λ i. first_var (get_or (known ++ c ∷ []) i []) ≡ Some v → i < get_or heads v 0)
        (λ i l e. h.head i v l (var_left i v l e))
        (λ e. absurd (let f = var_last v e in cc)) i;
    link = λ i j v less. (λ l. each_push known c (λ j. i < j → first_var (get_or (known ++ c ∷ []) i []) ≡ Some v → first_var (get_or (known ++ c ∷ []) j []) ≡ Some v → i < get_or (links ++ 0 ∷ []) j 0)
        (λ j l less e f. subst (λ n. i < n) (sym (link_left 0 j l)) (h.link i j v less l (var_left i v (omega arith) e) (var_left j v l f)))
        (λ less e f. absurd (let g = var_last v f in cc)) j l less);
    filled = λ b. absurd (cc);
  }

  pub indexed_at : (v : ℕ) → first_var c ≡ Some v → v < length heads → IsIndexed (known ++ c ∷ []) (set heads v (length known + 1)) (links ++ get_or heads v 0 ∷ []) blank
  indexed_at v first wide = record {
    long = long_more (get_or heads v 0);
    head = λ i w. each_push known c (λ i. first_var (get_or (known ++ c ∷ []) i []) ≡ Some w → i < get_or (set heads v (length known + 1)) w 0)
        (λ i l e. elim (cases_eq w v) [
          | inl same ↦ (let q : get_or (set heads v (length known + 1)) w 0 ≡ length known + 1 = ap (λ x. get_or (set heads v (length known + 1)) x 0) same ∙ get_or-set_same heads v (length known + 1) 0 wide in omega arith)
          | inr other ↦ subst (λ n. i < n) (sym (get_or-set_other heads v w (length known + 1) 0 other)) (h.head i w l (var_left i w l e))
        ])
        (λ e. (let f : Some w ≡ Some v = sym (var_last w e) ∙ first in
        let same : w ≡ v = cc in
        let q : get_or (set heads v (length known + 1)) w 0 ≡ length known + 1 = ap (λ x. get_or (set heads v (length known + 1)) x 0) same ∙ get_or-set_same heads v (length known + 1) 0 wide in omega arith)) i;
    link = λ i j w less l. each_push known c (λ j. i < j → first_var (get_or (known ++ c ∷ []) i []) ≡ Some w → first_var (get_or (known ++ c ∷ []) j []) ≡ Some w → i < get_or (links ++ get_or heads v 0 ∷ []) j 0)
        (λ j l less e f. subst (λ n. i < n) (sym (link_left (get_or heads v 0) j l)) (h.link i j w less l (var_left i w (omega arith) e) (var_left j w l f)))
        (λ less e f. (let g : Some w ≡ Some v = sym (var_last w f) ∙ first in
        let same : w ≡ v = cc in
        subst (λ n. i < n) (sym (link_last (get_or heads v 0))) (h.head i v less (subst (λ x. first_var (get_or known i []) ≡ Some x) same (var_left i w less e))))) j l less;
    filled = λ b. each_push known c (λ i. first_var (get_or (known ++ c ∷ []) i []) ≢ None)
        (λ i l e. h.filled b i l (ap first_var (sym (at_left i l)) ∙ e))
        (λ e. (let f : first_var c ≡ None = ap first_var (sym at_last) ∙ e in cc));
  }

pub ruleset stores = (indexed_none, indexed_same, indexed_blank, indexed_at)

pub links_past : (known : List (List Lit)) (links : List ℕ) (v j i : ℕ) → ((heads : List ℕ) × (blank : Bool) × IsIndexed known heads links blank) → i < j → j < length known
    → first_var (get_or known i []) ≡ Some v → first_var (get_or known j []) ≡ Some v → i < get_or links j 0
links_past known links v j i h less l e f = h.2.link i j v less l e f

-- the clause includes none from a place on that begins with the variable
pub record IsApartFrom (known : List (List Lit)) (c : List Lit) (v top : ℕ) : Type 0 where
  pub each : (i : ℕ) → i < length known → top ≤ i → first_var (get_or known i []) ≡ Some v → Includes c (get_or known i []) → ⊥

pub apart_begins : (known : List (List Lit)) (heads links : List ℕ) (c : List Lit) (v top : ℕ) → ((blank : Bool) × IsIndexed known heads links blank) → get_or heads v 0 ≤ top → IsApartFrom known c v top
apart_begins known heads links c v top h l = record { each = λ i w k e inside. (let q = h.1.head i v w e in omega arith) }

pub apart_past : (known : List (List Lit)) (heads links : List ℕ) (c : List Lit) (v : ℕ) → ((blank : Bool) × IsIndexed known heads links blank) → length heads ≤ v → IsApartFrom known c v 0
apart_past known heads links c v h l = apart_begins known heads links c v 0 h (let z = get_or_past heads v 0 l in omega arith)

pub apart_more : (known : List (List Lit)) (c : List Lit) (v top j top' : ℕ) → top ≡ j + 1 → IsApartFrom known c v top → (j < length known → Includes c (get_or known j []) → ⊥)
    → ((i : ℕ) → i < j → first_var (get_or known i []) ≡ Some v → i < top') → IsApartFrom known c v top'
apart_more known c v top j top' e h here before = record {
  each = λ i w k f inside. elim (cases_lt j i) [
    | inl above ↦ h.each i w (omega arith) f inside
    | inr below ↦ elim (cases_eq i j) [
      | inl same ↦ here (subst (λ x. x < length known) same w) (subst (λ x. Includes c (get_or known x [])) same inside)
      | inr other ↦ (let q = before i (omega arith) f in omega arith)
    ]
  ];
}

pub apart_ends : (known : List (List Lit)) (c : List Lit) (v : ℕ) → IsApartFrom known c v 0 → IsApart known c v
apart_ends known c v h = record { each = λ i w f inside. h.each i w (omega arith) f inside }

pub ruleset chains = (links_past, apart_begins, apart_past, apart_more, apart_ends, is_inside)

-- the clause includes none that begins with a variable of its first literals
pub record AreApart (known : List (List Lit)) (c part : List Lit) : Type 0 where
  pub each : (m : Lit) → Contains part m → IsApart known c m.var

pub are_apart_begins : (known : List (List Lit)) (c : List Lit) → AreApart known c (take 0 c)
are_apart_begins known c = record { each = λ m h. absurd (Contains-none m h) }

pub are_apart_more : (known : List (List Lit)) (c : List Lit) (i : ℕ) (d : Lit) → i < length c → AreApart known c (take i c) → IsApart known c (get_or c i d).var → AreApart known c (take (i + 1) c)
are_apart_more known c i d l h now = record {
  each = λ m w. elim (more_cases c i d m l w) [ inl before ↦ h.each m before | inr same ↦ subst (λ (x : Lit). IsApart known c x.var) same now ];
}

has_first : (d : List Lit) → first_var d ≢ None → (m : Lit) × Contains d m × (first_var d ≡ Some m.var)
has_first [] h = absurd (h refl)
has_first (l ∷ d) h = (l, Contains-here l d, refl)

pub are_apart_ends : (known : List (List Lit)) (heads links : List ℕ) (c : List Lit) (i : ℕ) → IsIndexed known heads links false → length c ≤ i → AreApart known c (take i c) → IsUnlike known c
are_apart_ends known heads links c i h l a = record {
  apart = λ d w inside.
      (let e : get_or known w.0 [] ≡ d = Rattle.std.proofs.lemmas.List.get_or_default known w.0 [] d w.1 ∙ w.2 in
      let first = has_first d (λ none. h.filled refl w.0 w.1 (ap first_var e ∙ none)) in
      let m = first.0 in
      let there : Contains (take i c) m = subst (λ x. Contains x m) (sym (take_all i c l)) (inside m first.1) in
      (a.each m there).each w.0 w.1 (ap first_var e ∙ first.2) (subst (Includes c) (sym e) inside));
}

pub ruleset finders = (are_apart_begins, are_apart_more, are_apart_ends)
