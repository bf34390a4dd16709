-- A choice that is 0 where no site stands.
use Rattle.std.proofs.Common.{◌≡◌, ℕ, zero, suc, ◌+◌, ◌<◌, ◌≤◌, Bool, true, false, List, [], ◌∷◌, length, refl, sym, ap, subst, ◌∙◌, arith}
use Rattle.std.specs.Prelude.{slice_index_or, if◌then◌else◌, IsTrue}
use Rattle.std.proofs.lemmas.Bool.{false≢true}
use Rattle.sk_model.specs.declared.expanded.Site.{Site}
use Rattle.sk_model.specs.declared.expanded.Choice.{Choice}
use Rattle.sk_model.specs.declared.expanded.Expanded.{Expanded}
use Rattle.sk_model.specs.Parts.{value}
use Rattle.sk_model.specs.Stands.{AgreeWhereStands, SiteStands, standing, sites_stand}
use Rattle.sk_model.specs.Fill.{Fits, InRange, fill}
use Rattle.sk_model.proofs.WhatStands.{filled_by_what_stands}
use Rattle.sk_holes_marks.specs.Zeroed.{IsCanonical, zeroed}
use Rattle.sk_holes_marks.proofs.SameMarks.{same_stands}

chosen_of : (b : Bool) (v : ℕ) → IsTrue b → (if b then v else 0) ≡ v
chosen_of true v h = refl
chosen_of false v h = absurd (false≢true h)

-- a value whose mark is true stays
stays : (marks : List Bool) (i k : ℕ) (vs : List ℕ) → IsTrue (slice_index_or marks (i + k) false) → value (zeroed marks i vs) k ≡ value vs k
stays marks i zero [] h = refl
stays marks i (suc k) [] h = refl
stays marks i zero (v ∷ vs) h = let e : i + 0 ≡ i = omega arith in chosen_of (slice_index_or marks i false) v (subst (λ n. IsTrue (slice_index_or marks n false)) e h)
stays marks i (suc k) (v ∷ vs) h = let e : i + suc k ≡ i + 1 + k = omega arith in stays marks (i + 1) k vs (subst (λ n. IsTrue (slice_index_or marks n false)) e h)

below_if : (b : Bool) (v size : ℕ) → v < size → (if b then v else 0) < size
below_if true v size h = h
below_if false v size h = omega (arith, h)

fits : (marks : List Bool) (i : ℕ) (ss : List Site) (vs : List ℕ) → Fits ss vs → Fits ss (zeroed marks i vs)
fits marks i [] [] h = tt
fits marks i [] (v ∷ vs) h = absurd h
fits marks i (s ∷ ss) [] h = absurd h
fits marks i (s ∷ ss) (v ∷ vs) h = (below_if (slice_index_or marks i false) v s.size h.0, fits marks (i + 1) ss vs h.1)

pub is_in_range : (e : Expanded) (a c : Choice) (marks : List Bool) → InRange e a → c.values ≡ zeroed marks 0 a.values → InRange e c
is_in_range e a c marks h is = record { fits = subst (λ vs. Fits e.sites vs) (sym is) (fits marks 0 e.sites a.values h.fits) }

pub agrees : (e : Expanded) (a c : List ℕ) → c ≡ zeroed (sites_stand (standing e a)) 0 a → AgreeWhereStands e a c
agrees e a c is = record {
  agree = λ k h.
      let marks : List Bool = sites_stand (standing e a) in
      let z : k ≡ 0 + k = omega arith in
      sym (ap (λ vs. value vs k) is ∙ stays marks 0 k a (subst (λ n. IsTrue (slice_index_or marks n false)) z h.stands));
}

pub fills : (e : Expanded) (a c : Choice) → c.values ≡ zeroed (sites_stand (standing e a.values)) 0 a.values → fill e c ≡ fill e a
fills e a c is = sym (filled_by_what_stands e a c (agrees e a.values c.values is))

pub same_marks : (e : Expanded) (a c : List ℕ) → c ≡ zeroed (sites_stand (standing e a)) 0 a → sites_stand (standing e c) ≡ sites_stand (standing e a)
same_marks e a c is = ap sites_stand (same_stands e a c (agrees e a c is))

no_value : (b : Bool) (v : ℕ) → (IsTrue b → ⊥) → (if b then v else 0) ≡ 0
no_value true v h = absurd (h refl)
no_value false v h = refl

-- a value whose mark is not true is 0
vanishes : (marks : List Bool) (i k : ℕ) (vs : List ℕ) → (IsTrue (slice_index_or marks (i + k) false) → ⊥) → value (zeroed marks i vs) k ≡ 0
vanishes marks i zero [] h = refl
vanishes marks i (suc k) [] h = refl
vanishes marks i zero (v ∷ vs) h = let e : i ≡ i + 0 = omega arith in no_value (slice_index_or marks i false) v (λ is. h (subst (λ n. IsTrue (slice_index_or marks n false)) e is))
vanishes marks i (suc k) (v ∷ vs) h = let e : i + 1 + k ≡ i + suc k = omega arith in vanishes marks (i + 1) k vs (λ is. h (subst (λ n. IsTrue (slice_index_or marks n false)) e is))

pub is_canonical : (e : Expanded) (a c : List ℕ) → c ≡ zeroed (sites_stand (standing e a)) 0 a → IsCanonical e c
is_canonical e a c is = record {
  is_zero = λ k other.
      let none : IsTrue (slice_index_or (sites_stand (standing e a)) k false) → ⊥ = λ h. other (record { stands = subst (λ ms. IsTrue (slice_index_or ms k false)) (sym (same_marks e a c is)) h }) in
      let z : 0 + k ≡ k = omega arith in
      ap (λ vs. value vs k) is ∙ vanishes (sites_stand (standing e a)) 0 k a (λ h. none (subst (λ n. IsTrue (slice_index_or (sites_stand (standing e a)) n false)) z h));
}

pub ruleset canonical = (is_in_range, agrees, fills, same_marks, is_canonical)
