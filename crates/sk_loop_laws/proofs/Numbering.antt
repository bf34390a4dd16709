-- Each list of arguments in range has its number: its digits are the values, the first the least, and each place has a base
-- of its own, which is how many values there may stand.
use Rattle.std.proofs.Common.{◌≡◌, ℕ, zero, suc, ◌+◌, ◌*◌, ◌/◌, ◌%◌, ◌^◌, ◌<◌, ◌≤◌, pos, negsuc, List, [], ◌∷◌, map, length, Bool, true, false, zero-add, refl, sym, ap, subst, ◌∙◌, arith}
use Rattle.std.specs.Prelude.{◌==◌, ◌&&◌}
use Rattle.std.specs.List.{list_all}
use Rattle.std.proofs.Math.Nat.{add-mul-div_left, add-mul-mod_self_left, mod-eq_of_lt, div-eq_of_lt, mul-le-mul_left, pow-succ', pow-zero}
use Rattle.std.proofs.lemmas.Bool.{and_parts, ltb-true, eqb-true}
use Rattle.sk_prog.specs.declared.ty.Elem.{Elem}
use Rattle.sk_prog.specs.declared.ty.Elem.TheVariants as elem
use Rattle.sk_prog.specs.declared.ty.Ty.{Ty}
use Rattle.sk_prog.specs.declared.ty.Ty.TheVariants as ty
use Rattle.sk_prog.specs.declared.value.Value.{Value}
use Rattle.sk_prog.specs.declared.value.Value.TheVariants as value
use Rattle.sk_prog.specs.declared.value.Value.TheOpen as V
use Rattle.sk_prog.specs.declared.value.Value.TheViews.{roll-Value}
use Rattle.sk_prog.specs.declared.value.Value.TheFolds.{map-Value, fold-roll-Value, ind-Value}
use Rattle.sk_prog.specs.declared.prog.ParamDef.{ParamDef}
use Rattle.sk_model.specs.Inputs.{in_range, in_range_step, args_in_range}
use Rattle.sk_loop_laws.specs.Counts.{elem_size, ty_size, args_count}

-- Values by their numbers

abbrev pub elem_at : Elem → ℕ → Value
elem_at elem.Int n = value.Int (pos n)
elem_at elem.Bit n = value.Bit (n == 1)
elem_at (elem.Reference s) n = value.Null

-- so many values, each the one of so many that has the digit as its number
abbrev pub each_at : (ℕ → Value) → ℕ → ℕ → ℕ → List Value
each_at at size zero n = []
each_at at size (suc k) n = at (n % size) ∷ each_at at size k (n / size)

-- so many elements, where there are so many values of each
abbrev pub row_at : Elem → ℕ → ℕ → ℕ → List Value
row_at e size k n = each_at (elem_at e) size k n

-- so many arrays of a length
abbrev pub rows_at : Elem → ℕ → ℕ → ℕ → ℕ → List Value
rows_at e size length k n = each_at (λ i. value.Array (row_at e size length i)) (size ^ length) k n

-- the value of a type with this number
abbrev pub value_at : ℕ → Ty → ℕ → Value
value_at inbits (ty.One e) n = elem_at e n
value_at inbits (ty.Array e k) n = value.Array (row_at e (elem_size inbits e) k n)
value_at inbits (ty.Grid e k m) n = value.Array (rows_at e (elem_size inbits e) k m n)

-- the arguments with this number
abbrev pub args_at : ℕ → List ParamDef → ℕ → List Value
args_at inbits [] n = []
args_at inbits (p ∷ ps) n = value_at inbits p.ty (n % ty_size inbits p.ty) ∷ args_at inbits ps (n / ty_size inbits p.ty)

-- Digits

-- one digit before a number
record Joined (d size m count : ℕ) : Type 0 where
  below : d + size * m < size * count
  low : (d + size * m) % size ≡ d
  high : (d + size * m) / size ≡ m

joined : (d size m count : ℕ) → d < size → m < count → Joined d size m count
joined d size m count h k =
    let up : size * suc m ≤ size * count = mul-le-mul_left size k in
    let e : size * suc m ≡ size + size * m = omega arith in
    let p : 0 < size = omega arith in
    record {
      below = omega (arith, h, subst (λ x. x ≤ size * count) e up);
      low = add-mul-mod_self_left d size m ∙ mod-eq_of_lt h;
      high = add-mul-div_left d m p ∙ ap (λ q. q + m) (div-eq_of_lt h) ∙ zero-add m;
    }

-- Values

rolled : (v : Value) → (x : V.Value-F Value) × (roll-Value x ≡ v)
rolled = ind-Value (λ v. (x : V.Value-F Value) × (roll-Value x ≡ v)) (λ x y is. (x, refl))

module _ (inbits : ℕ) where
  -- whether a layer is in range
  abbrev layer_in_range : V.Value-F Value → Ty → Type 0
  layer_in_range x t = in_range_step inbits (map-Value Value (Ty → Bool) (in_range inbits) x) t ≡ true

  of_layer : (x : V.Value-F Value) (t : Ty) → in_range inbits (roll-Value x) t ≡ in_range_step inbits (map-Value Value (Ty → Bool) (in_range inbits) x) t
  of_layer x t = ap (λ p. p t) (fold-roll-Value (Ty → Bool) (in_range_step inbits) x)

  pub of_rolled : (x : V.Value-F Value) (v : Value) → roll-Value x ≡ v → (t : Ty) → in_range inbits v t ≡ in_range_step inbits (map-Value Value (Ty → Bool) (in_range inbits) x) t
  of_rolled x v e t = ap (λ w. in_range inbits w t) (sym e) ∙ of_layer x t

  layer_of : (v : Value) (t : Ty) → in_range inbits v t ≡ true → (x : V.Value-F Value) × (roll-Value x ≡ v) × layer_in_range x t
  layer_of v t h =
      let r = rolled v in
      (r.0, r.1, sym (of_layer r.0 t) ∙ ap (λ w. in_range inbits w t) r.1 ∙ h)

  elem_layer : (e : Elem) (x : V.Value-F Value) → layer_in_range x (ty.One e) → (n : ℕ) × (n < elem_size inbits e) × (elem_at e n ≡ roll-Value x)
  elem_layer elem.Int (V.Int (pos n)) h = (n, ltb-true n (2 ^ inbits) h, sym (value.rolls-Int (pos n)))
  elem_layer elem.Int (V.Int (negsuc n)) h = cc
  elem_layer elem.Int (V.Bit b) h = cc
  elem_layer elem.Int V.Null h = cc
  elem_layer elem.Int (V.Place p) h = cc
  elem_layer elem.Int (V.Array vs) h = cc
  elem_layer elem.Bit (V.Bit true) h = (1, omega arith, sym (value.rolls-Bit true))
  elem_layer elem.Bit (V.Bit false) h = (0, omega arith, sym (value.rolls-Bit false))
  elem_layer elem.Bit (V.Int (pos n)) h = cc
  elem_layer elem.Bit (V.Int (negsuc n)) h = cc
  elem_layer elem.Bit V.Null h = cc
  elem_layer elem.Bit (V.Place p) h = cc
  elem_layer elem.Bit (V.Array vs) h = cc
  elem_layer (elem.Reference s) (V.Int (pos n)) h = cc
  elem_layer (elem.Reference s) (V.Int (negsuc n)) h = cc
  elem_layer (elem.Reference s) (V.Bit b) h = cc
  elem_layer (elem.Reference s) V.Null h = cc
  elem_layer (elem.Reference s) (V.Place p) h = cc
  elem_layer (elem.Reference s) (V.Array vs) h = cc

  -- a value in range of a type has a number below a size, by this numbering
  abbrev IsNumbered : Ty → (ℕ → Value) → ℕ → Type 0
  IsNumbered t at size = (v : Value) → in_range inbits v t ≡ true → (n : ℕ) × (n < size) × (at n ≡ v)

  elem_numbered : (e : Elem) → IsNumbered (ty.One e) (elem_at e) (elem_size inbits e)
  elem_numbered e v h =
      let l = layer_of v (ty.One e) h in
      let n = elem_layer e l.0 l.2 in
      (n.0, n.1, n.2 ∙ l.1)

  -- Arrays

  abbrev pub all_in_range : Ty → List Value → Bool
  all_in_range t vs = list_all (λ p. p t) (map (in_range inbits) vs)

  module _ (t : Ty) (at : ℕ → Value) (size : ℕ) where
    each_numbered : IsNumbered t at size → (vs : List Value) → all_in_range t vs ≡ true → (n : ℕ) × (n < size ^ length vs) × (each_at at size (length vs) n ≡ vs)
    each_numbered numbered [] h = (0, subst (λ x. 0 < x) (sym (pow-zero size)) (omega arith), refl)
    each_numbered numbered (v ∷ vs) h =
        let hs = and_parts (in_range inbits v t) (all_in_range t vs) h in
        let d = numbered v hs.0 in
        let r = each_numbered numbered vs hs.1 in
        let j = joined d.0 size r.0 (size ^ length vs) d.1 r.1 in
        let low : (d.0 + size * r.0) % size ≡ d.0 = j.low in
        let high : (d.0 + size * r.0) / size ≡ r.0 = j.high in
        (d.0 + size * r.0, subst (λ x. d.0 + size * r.0 < x) (sym (pow-succ' size (length vs))) j.below, rw (low, high) (λ i. d.2 i ∷ r.2 i))

  -- so many of a type, where their array is of a type
  module _ (t : Ty) (at : ℕ → Value) (size k : ℕ) (whole : Ty) (is : (ps : List (Ty → Bool)) → in_range_step inbits (V.Array ps) whole ≡ ((length ps == k) && list_all (λ p. p t) ps)) where
    mapped_length : (vs : List Value) → length (map (in_range inbits) vs) ≡ length vs
    mapped_length [] = refl
    mapped_length (v ∷ vs) = ap suc (mapped_length vs)

    array_of : IsNumbered t at size → (vs : List Value) → in_range_step inbits (V.Array (map (in_range inbits) vs)) whole ≡ true → (n : ℕ) × (n < size ^ k) × (value.Array (each_at at size k n) ≡ roll-Value (V.Array vs))
    array_of numbered vs h =
        let hs = and_parts (length (map (in_range inbits) vs) == k) (all_in_range t vs) (sym (is (map (in_range inbits) vs)) ∙ h) in
        let count : length vs ≡ k = sym (mapped_length vs) ∙ eqb-true (length (map (in_range inbits) vs)) k hs.0 in
        let r = each_numbered t at size numbered vs hs.1 in
        (r.0, subst (λ c. r.0 < size ^ c) count r.1, ap value.Array (ap (λ c. each_at at size c r.0) (sym count) ∙ r.2) ∙ sym (value.rolls-Array vs))

  row_layer : (e : Elem) (k : ℕ) (x : V.Value-F Value) → layer_in_range x (ty.Array e k) → (n : ℕ) × (n < elem_size inbits e ^ k) × (value.Array (row_at e (elem_size inbits e) k n) ≡ roll-Value x)
  row_layer e k (V.Array vs) h = array_of (ty.One e) (elem_at e) (elem_size inbits e) k (ty.Array e k) (λ ps. refl) (elem_numbered e) vs h
  row_layer e k (V.Int (pos n)) h = cc
  row_layer e k (V.Int (negsuc n)) h = cc
  row_layer e k (V.Bit b) h = cc
  row_layer e k V.Null h = cc
  row_layer e k (V.Place p) h = cc

  row_numbered : (e : Elem) (k : ℕ) → IsNumbered (ty.Array e k) (λ n. value.Array (row_at e (elem_size inbits e) k n)) (elem_size inbits e ^ k)
  row_numbered e k v h =
      let l = layer_of v (ty.Array e k) h in
      let n = row_layer e k l.0 l.2 in
      (n.0, n.1, n.2 ∙ l.1)

  grid_layer : (e : Elem) (k m : ℕ) (x : V.Value-F Value) → layer_in_range x (ty.Grid e k m) → (n : ℕ) × (n < ty_size inbits (ty.Grid e k m)) × (value_at inbits (ty.Grid e k m) n ≡ roll-Value x)
  grid_layer e k m (V.Array vs) h = array_of (ty.Array e k) (λ n. value.Array (row_at e (elem_size inbits e) k n)) (elem_size inbits e ^ k) m (ty.Grid e k m) (λ ps. refl) (row_numbered e k) vs h
  grid_layer e k m (V.Int (pos n)) h = cc
  grid_layer e k m (V.Int (negsuc n)) h = cc
  grid_layer e k m (V.Bit b) h = cc
  grid_layer e k m V.Null h = cc
  grid_layer e k m (V.Place p) h = cc

  value_number : (t : Ty) → IsNumbered t (value_at inbits t) (ty_size inbits t)
  value_number (ty.One e) v h = elem_numbered e v h
  value_number (ty.Array e k) v h = row_numbered e k v h
  value_number (ty.Grid e k m) v h =
      let l = layer_of v (ty.Grid e k m) h in
      let n = grid_layer e k m l.0 l.2 in
      (n.0, n.1, n.2 ∙ l.1)

  -- Arguments

  pub args_number : (ps : List ParamDef) (vs : List Value) → args_in_range inbits ps vs ≡ true → (n : ℕ) × (n < args_count inbits ps) × (args_at inbits ps n ≡ vs)
  args_number [] [] h = (0, omega arith, refl)
  args_number [] (v ∷ vs) h = cc
  args_number (p ∷ ps) [] h = cc
  args_number (p ∷ ps) (v ∷ vs) h =
      let size : ℕ = ty_size inbits p.ty in
      let hs = and_parts (in_range inbits v p.ty) (args_in_range inbits ps vs) h in
      let d = value_number p.ty v hs.0 in
      let r = args_number ps vs hs.1 in
      let j = joined d.0 size r.0 (args_count inbits ps) d.1 r.1 in
      let low : (d.0 + size * r.0) % size ≡ d.0 = j.low in
      let high : (d.0 + size * r.0) / size ≡ r.0 = j.high in
      (d.0 + size * r.0, j.below, rw (low, high) (λ i. d.2 i ∷ r.2 i))
