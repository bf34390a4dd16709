-- The places of records in a value: what operators give has none, and what is taken from arrays or put into them has no others.
use Rattle.std.proofs.Common.{◌≡◌, ℕ, zero, suc, ◌-◌, pos, negsuc, ℤ, List, [], ◌∷◌, ◌++◌, map, length, take, drop, replicate, slice_get, Option, Some, None, Bool, true, false, refl, sym, ap, subst, ◌∙◌}
use Rattle.std.specs.Prelude.{slice_set, option_and_then, if◌then◌else◌}
use Rattle.sk_prog.specs.declared.ty.Elem.{Elem}
use Rattle.sk_prog.specs.declared.ty.Elem.TheVariants as elem
use Rattle.sk_prog.specs.declared.ty.Ty.{Ty}
use Rattle.sk_prog.specs.declared.ty.Ty.TheVariants as ty
use Rattle.sk_prog.specs.declared.value.Value.{Value}
use Rattle.sk_prog.specs.declared.value.Value.TheVariants as value
use Rattle.sk_prog.specs.declared.value.Value.TheOpen as V
use Rattle.sk_prog.specs.declared.value.Value.TheViews.{roll-Value, rolls-Array, out-roll-Value}
use Rattle.sk_prog.specs.declared.value.Value.TheFolds.{map-Value, fold-Value, fold-roll-Value, ind-Value}
use Rattle.sk_model.specs.Values.{zero_of_elem, zero_of, elements_of, elements, element, replaced, is_array, first_is_array, lengthened, padded}
use Rattle.sk_model.proofs.Induction.{Each}

-- Lists

pub each_map : {A : Type 0} (P Q : A → Type 0) → ((a : A) → P a → Q a) → (xs : List A) → Each P xs → Each Q xs
each_map P Q f [] h = tt
each_map P Q f (x ∷ xs) h = (f x h.0, each_map P Q f xs h.1)

pub each_append : {A : Type 0} (P : A → Type 0) (xs ys : List A) → Each P xs → Each P ys → Each P (xs ++ ys)
each_append P [] ys h k = k
each_append P (x ∷ xs) ys h k = (h.0, each_append P xs ys h.1 k)

pub each_front : {A : Type 0} (P : A → Type 0) (xs ys : List A) → Each P (xs ++ ys) → Each P xs × Each P ys
each_front P [] ys h = (tt, h)
each_front P (x ∷ xs) ys h = let r = each_front P xs ys h.1 in ((h.0, r.0), r.1)

pub each_same : {A : Type 0} (P : A → Type 0) (n : ℕ) (x : A) → P x → Each P (replicate n x)
each_same P zero x h = tt
each_same P (suc n) x h = (h, each_same P n x h)

pub each_take : {A : Type 0} (P : A → Type 0) (n : ℕ) (xs : List A) → Each P xs → Each P (take n xs)
each_take P zero xs h = tt
each_take P (suc n) [] h = tt
each_take P (suc n) (x ∷ xs) h = (h.0, each_take P n xs h.1)

pub each_drop : {A : Type 0} (P : A → Type 0) (n : ℕ) (xs : List A) → Each P xs → Each P (drop n xs)
each_drop P zero xs h = h
each_drop P (suc n) [] h = tt
each_drop P (suc n) (x ∷ xs) h = each_drop P n xs h.1

pub each_got : {A : Type 0} (P : A → Type 0) (xs : List A) (i : ℕ) (x : A) → Each P xs → slice_get xs i ≡ Some x → P x
each_got P [] i x h e = cc
each_got P (y ∷ ys) zero x h e = let same : y ≡ x = cc in subst P same h.0
each_got P (y ∷ ys) (suc i) x h e = each_got P ys i x h.1 e

pub each_set : {A : Type 0} (P : A → Type 0) (xs : List A) (i : ℕ) (x : A) → Each P xs → P x → Each P (slice_set xs i x)
each_set P [] i x h p = tt
each_set P (y ∷ ys) zero x h p = (p, h.1)
each_set P (y ∷ ys) (suc i) x h p = (h.0, each_set P ys i x h.1 p)

-- Places

abbrev pub together : {A : Type 0} → List (List A) → List A
together [] = []
together (xs ∷ more) = xs ++ together more

abbrev pub places_step : V.Value-F (List ℕ) → List ℕ
places_step (V.Place p) = p ∷ []
places_step (V.Array ps) = together ps
places_step (V.Bit b) = []
places_step (V.Int n) = []
places_step V.Null = []

-- the places of all records in a value
abbrev pub places : Value → List ℕ
places = fold-Value (List ℕ) places_step

rolled : (v : Value) → (x : V.Value-F Value) × (roll-Value x ≡ v)
rolled = ind-Value (λ v. (x : V.Value-F Value) × (roll-Value x ≡ v)) (λ x y is. (x, refl))

places_are : (x : V.Value-F Value) (v : Value) → roll-Value x ≡ v → places v ≡ places_step (map-Value Value (List ℕ) places x)
places_are x v is = sym (ap places is) ∙ fold-roll-Value (List ℕ) places_step x

module _ (P : ℕ → Type 0) where
  -- this holds of all places in a value
  abbrev pub Holds : Value → Type 0
  Holds v = Each P (places v)

  none : (x : V.Value-F Value) (v : Value) → roll-Value x ≡ v → places_step (map-Value Value (List ℕ) places x) ≡ [] → Holds v
  none x v is e = subst (Each P) (sym (places_are x v is ∙ e)) tt

  pub holds_int : (n : ℤ) → Holds (value.Int n)
  holds_int n = none (V.Int n) (value.Int n) (value.rolls-Int n) refl

  pub holds_bit : (b : Bool) → Holds (value.Bit b)
  holds_bit b = none (V.Bit b) (value.Bit b) (value.rolls-Bit b) refl

  pub holds_null : Holds value.Null
  holds_null = none V.Null value.Null value.rolls-Null refl

  pub holds_place : (p : ℕ) → P p → Holds (value.Place p)
  holds_place p h = subst (Each P) (sym (places_are (V.Place p) (value.Place p) (value.rolls-Place p))) (h, tt)

  pub place_holds : (p : ℕ) → Holds (value.Place p) → P p
  place_holds p h = (subst (Each P) (places_are (V.Place p) (value.Place p) (value.rolls-Place p)) h).0

  each_together : (vs : List Value) → Each Holds vs → Each P (together (map places vs))
  each_together [] h = tt
  each_together (v ∷ vs) h = each_append P (places v) (together (map places vs)) h.0 (each_together vs h.1)

  together_each : (vs : List Value) → Each P (together (map places vs)) → Each Holds vs
  together_each [] h = tt
  together_each (v ∷ vs) h = let r = each_front P (places v) (together (map places vs)) h in (r.0, together_each vs r.1)

  pub holds_array : (vs : List Value) → Each Holds vs → Holds (value.Array vs)
  holds_array vs h = subst (Each P) (sym (places_are (V.Array vs) (value.Array vs) (rolls-Array vs))) (each_together vs h)

  elements_hold : (x : V.Value-F Value) → Each P (places_step (map-Value Value (List ℕ) places x)) → Each Holds (elements_of x)
  elements_hold (V.Array vs) h = together_each vs h
  elements_hold (V.Place p) h = tt
  elements_hold (V.Bit b) h = tt
  elements_hold (V.Int n) h = tt
  elements_hold V.Null h = tt

  pub holds_elements : (v : Value) → Holds v → Each Holds (elements v)
  holds_elements v h =
      let r = rolled v in
      let e : elements_of r.0 ≡ elements v = sym (ap elements_of (out-roll-Value r.0)) ∙ ap elements r.1 in
      subst (Each Holds) e (elements_hold r.0 (subst (Each P) (places_are r.0 v r.1) h))

  pub holds_element : (v w : Value) (i : ℤ) → Holds v → element v i ≡ Some w → Holds w
  holds_element v w (pos i) h e = each_got Holds (elements v) i w (holds_elements v h) e
  holds_element v w (negsuc i) h e = cc

  pub holds_slice : (v : Value) (n i : ℕ) → Holds v → Holds (value.Array (take n (drop i (elements v))))
  holds_slice v n i h = holds_array (take n (drop i (elements v))) (each_take Holds n (drop i (elements v)) (each_drop Holds i (elements v) (holds_elements v h)))

  holds_zero_elem : (e : Elem) → Holds (zero_of_elem e)
  holds_zero_elem elem.Bit = holds_bit false
  holds_zero_elem elem.Int = holds_int (pos 0)
  holds_zero_elem (elem.Reference s) = holds_null

  pub holds_zero : (t : Ty) → Holds (zero_of t)
  holds_zero (ty.One e) = holds_zero_elem e
  holds_zero (ty.Array e n) = holds_array (replicate n (zero_of_elem e)) (each_same Holds n (zero_of_elem e) (holds_zero_elem e))
  holds_zero (ty.Grid e n m) =
      let row = holds_array (replicate n (zero_of_elem e)) (each_same Holds n (zero_of_elem e) (holds_zero_elem e)) in
      holds_array (replicate m (value.Array (replicate n (zero_of_elem e)))) (each_same Holds m (value.Array (replicate n (zero_of_elem e))) row)

  these_or_one : (b : Bool) (v : Value) → Holds v → Each Holds (if b then elements v else v ∷ [])
  these_or_one true v h = holds_elements v h
  these_or_one false v h = (h, tt)

  holds_longer : (n : ℕ) (z : Value) (vs : List Value) → Holds z → Each Holds vs → Holds (lengthened n z vs)
  holds_longer n z vs hz h = holds_array (vs ++ replicate (n - length vs) z) (each_append Holds vs (replicate (n - length vs) z) h (each_same Holds (n - length vs) z hz))

  pub holds_padded : (t : Ty) (v : Value) → Holds v → Holds (padded t v)
  holds_padded (ty.One e) v h = h
  holds_padded (ty.Array e n) v h = holds_longer n (zero_of (ty.One e)) (if is_array v then elements v else v ∷ []) (holds_zero (ty.One e)) (these_or_one (is_array v) v h)
  holds_padded (ty.Grid e n m) v h = holds_longer m (zero_of (ty.Array e n)) (if first_is_array (elements v) then elements v else v ∷ []) (holds_zero (ty.Array e n)) (these_or_one (first_is_array (elements v)) v h)

  set_holds : (vs : List Value) (i : ℕ) (new w : Value) → Each Holds vs → Holds new → Some (value.Array (slice_set vs i new)) ≡ Some w → Holds w
  set_holds vs i new w h k e = let same : value.Array (slice_set vs i new) ≡ w = cc in subst Holds same (holds_array (slice_set vs i new) (each_set Holds vs i new h k))

  inside : (is : List ℤ) (v part w old : Value) (i : ℕ) (o : Option Value) → Each Holds (elements v) → ((new : Value) → replaced is old part ≡ Some new → Holds new) → replaced is old part ≡ o → option_and_then (λ new. Some (value.Array (slice_set (elements v) i new))) o ≡ Some w → Holds w
  inside is v part w old i None h rest same e = cc
  inside is v part w old i (Some new) h rest same e = set_holds (elements v) i new w h (rest new same) e

  within : (is : List ℤ) (v part w : Value) (i : ℕ) (o : Option Value) → Each Holds (elements v) → ((old new : Value) → Holds old → replaced is old part ≡ Some new → Holds new) → slice_get (elements v) i ≡ o → option_and_then (λ old. option_and_then (λ new. Some (value.Array (slice_set (elements v) i new))) (replaced is old part)) o ≡ Some w → Holds w
  within is v part w i None h rest same e = cc
  within is v part w i (Some old) h rest same e = inside is v part w old i (replaced is old part) h (λ new. rest old new (each_got Holds (elements v) i old h same)) refl e

  pub holds_replaced : (is : List ℤ) (v part w : Value) → Holds v → Holds part → replaced is v part ≡ Some w → Holds w
  holds_replaced [] v part w h k e = let same : part ≡ w = cc in subst Holds same k
  holds_replaced (negsuc i ∷ is) v part w h k e = cc
  holds_replaced (pos i ∷ is) v part w h k e = within is v part w i (slice_get (elements v) i) (holds_elements v h) (λ old new g. holds_replaced is old part new g k) refl e
