-- What is found is the nearest.
use Rattle.std.proofs.Common.{◌≡◌, ◌≢◌, ℕ, zero, suc, ◌+◌, ◌<◌, Bool, true, false, List, [], ◌∷◌, Option, Some, None, refl, sym, ap, subst, ◌∙◌, arith, inl, inr}
use Rattle.std.specs.Prelude.{slice_get, if◌then◌else◌, ◌⊎◌}
use Rattle.std.specs.Str.{bytes_eq}
use Rattle.std.proofs.lemmas.Slice.Eq.{bytes_eq-Decides}
use Rattle.sk_prog.specs.declared.ty.Ty.{Ty}
use Rattle.sk_types_rules.specs.declared.scope.Variable.{Variable}
use Rattle.sk_types_rules.specs.declared.scope.Place.{Place}
use Rattle.sk_types_rules.specs.Scope.{latest, lookup, Nearest}

abbrev var : List ℕ → Ty → Variable
var x t = record { name = x; ty = t }

abbrev place : ℕ → Ty → Place
place i t = record { slot = i; ty = t }

-- none of these has the name
abbrev None_of : List Variable → List ℕ → Type 0
None_of vs x = (i : ℕ) (v : Variable) → slice_get vs i ≡ Some v → v.name ≢ x

abbrev Found : List Variable → List ℕ → ℕ → Option Place → Option Place → Type 0
Found vs x k found result = (None_of vs x × (result ≡ found)) ⊎ ((i : ℕ) × (t : Ty) × Nearest vs x i t × (result ≡ Some (record { slot = k + i; ty = t })))

none_more : (v : Variable) (vs : List Variable) (x : List ℕ) → v.name ≢ x → None_of vs x → None_of (v ∷ vs) x
none_more v vs x h none zero w e = let same : v ≡ w = cc in subst (λ w. w.name ≢ x) same h
none_more v vs x h none (suc i) w e = none i w e

near_more : (v : Variable) (vs : List Variable) (x : List ℕ) (i : ℕ) (t : Ty) → Nearest vs x i t → Nearest (v ∷ vs) x (suc i) t
near_more v vs x i t n = record { there = n.there; last = later }
  where
    later : (j : ℕ) (w : Variable) → suc i < j → slice_get (v ∷ vs) j ≡ Some w → w.name ≢ x
    later zero w h e = absurd (omega arith)
    later (suc j) w h e = n.last j w (omega arith) e

near_first : (v : Variable) (vs : List Variable) (x : List ℕ) → v.name ≡ x → None_of vs x → Nearest (v ∷ vs) x 0 v.ty
near_first v vs x h none = record { there = ap (λ n. Some (record { name = n; ty = v.ty })) h; last = later }
  where
    later : (j : ℕ) (w : Variable) → 0 < j → slice_get (v ∷ vs) j ≡ Some w → w.name ≢ x
    later zero w h e = absurd (omega arith)
    later (suc j) w h e = none j w e

other_name : (x y : List ℕ) → bytes_eq x y ≡ false → x ≢ y
other_name x y is e = let same = (bytes_eq-Decides x y).1 e in cc

one_more : (v : Variable) (vs : List Variable) (k : ℕ) (x : List ℕ) (found r : Option Place) (b : Bool) → bytes_eq v.name x ≡ b → Found vs x (suc k) (if b then Some (record { slot = k; ty = v.ty }) else found) r → Found (v ∷ vs) x k found r
one_more v vs k x found r true is (inl h) =
    let e : k ≡ k + 0 = omega arith in
    inr (0, v.ty, near_first v vs x ((bytes_eq-Decides v.name x).0 is) h.0, h.1 ∙ ap (λ n. Some (record { slot = n; ty = v.ty })) e)
one_more v vs k x found r false is (inl h) = inl (none_more v vs x (other_name v.name x is) h.0, h.1)
one_more v vs k x found r b is (inr h) =
    let e : suc k + h.0 ≡ k + suc h.0 = omega arith in
    inr (suc h.0, h.1, near_more v vs x h.0 h.1 h.2, h.3 ∙ ap (λ n. Some (record { slot = n; ty = h.1 })) e)

found_in : (vs : List Variable) (k : ℕ) (x : List ℕ) (found : Option Place) → Found vs x k found (latest k found vs x)
found_in [] k x found = inl ((λ i v e. cc), refl)
found_in (v ∷ vs) k x found = one_more v vs k x found _ (bytes_eq v.name x) refl (found_in vs (suc k) x (if bytes_eq v.name x then Some (record { slot = k; ty = v.ty }) else found))

not_before : (vs : List Variable) (x : List ℕ) (i j : ℕ) (t u : Ty) → Nearest vs x i t → Nearest vs x j u → i < j → ⊥
not_before vs x i j t u n m h =
    n.last j (record { name = x; ty = u }) h m.there refl

nearest_once : (vs : List Variable) (x : List ℕ) (i j : ℕ) (t u : Ty) → Nearest vs x i t → Nearest vs x j u → (i ≡ j) × (t ≡ u)
nearest_once vs x i j t u n m =
    let a = not_before vs x i j t u n m in
    let b = not_before vs x j i u t m n in
    let e : i ≡ j = grind arith in
    let s = sym n.there ∙ ap (slice_get vs) e ∙ m.there in
    let v : var x t ≡ var x u = cc in
    (e, ap (λ (v : Variable). v.ty) v)

-- lookup finds the nearest
pub lookup_nearest : (scope : List Variable) (x : List ℕ) (p : Place) → lookup scope x ≡ Some p → Nearest scope x p.slot p.ty
lookup_nearest scope x p h = elim (found_in scope 0 x None) [
  | inl f ↦ let e = sym h ∙ f.1 in cc
  | inr f ↦
      let e = sym f.3 ∙ h in
      let same : place (0 + f.0) f.1 ≡ p = cc in
      let z : f.0 ≡ 0 + f.0 = omega arith in
      subst (λ (p : Place). Nearest scope x p.slot p.ty) same (subst (λ i. Nearest scope x i f.1) z f.2)
]

-- and finds each
pub nearest_lookup : (scope : List Variable) (x : List ℕ) (slot : ℕ) (t : Ty) → Nearest scope x slot t → lookup scope x ≡ Some (record { slot = slot; ty = t })
nearest_lookup scope x slot t n = elim (found_in scope 0 x None) [
  | inl f ↦ absurd (f.0 slot _ n.there refl)
  | inr f ↦
      let same = nearest_once scope x f.0 slot f.1 t f.2 n in
      let z : 0 + f.0 ≡ f.0 = omega arith in
      f.3 ∙ ap (λ n. Some (place n f.1)) z ∙ (λ i. Some (place (same.0 i) (same.1 i)))
]
