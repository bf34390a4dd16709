-- The value with some scalars is read exactly where it is in range.
use Rattle.std.proofs.Common.{◌≡◌, ℕ, zero, suc, ◌^◌, pos, negsuc, List, [], ◌∷◌, ◌++◌, map, length, drop, take, Some, None, Bool, true, false, refl, sym, ap, subst, ◌∙◌, arith}
use Rattle.std.specs.Prelude.{◌==◌, ◌&&◌, nat_lt, option_map, if◌then◌else◌, ℤ}
use Rattle.std.specs.List.{flat_map, list_all}
use Rattle.std.proofs.lemmas.Bool.{and_parts, ltb-true, eqb-true, eq-eqb}
use Rattle.std.proofs.lemmas.List.{take_at, drop_at, take-append-drop}
use Rattle.std.proofs.lemmas.Option.{none-some, same_Some}
use Rattle.sk_prog.specs.declared.ty.Elem.{Elem}
use Rattle.sk_prog.specs.declared.ty.Elem.TheVariants as elem
use Rattle.sk_prog.specs.declared.ty.Ty.{Ty}
use Rattle.sk_prog.specs.declared.ty.Ty.TheVariants as ty
use Rattle.sk_prog.specs.declared.value.Value.{Value}
use Rattle.sk_prog.specs.declared.value.Value.TheVariants as value
use Rattle.sk_prog.specs.declared.value.Value.TheOpen as V
use Rattle.sk_prog.specs.declared.value.Value.TheViews.{roll-Value}
use Rattle.sk_prog.specs.declared.value.Value.TheFolds.{map-Value, fold-roll-Value, ind-Value}
use Rattle.sk_model.specs.Inputs.{in_range, in_range_step}
use Rattle.sk_cert_inputs.specs.Inputs.{scalars, scalars_step}
use Rattle.sk_cert_inputs.specs.Reading.{both, int_listed, bit_listed, elem_listed, row_listed, array_listed, rows_listed, one_listed, value_listed}
use Rattle.sk_cert_inputs.proofs.Options.{both_some, map_some, when_some}

abbrev all_scalars : List Value → List ℤ
all_scalars vs = flat_map (λ part. part) (map scalars vs)

abbrev layer_scalars : V.Value-F Value → List ℤ
layer_scalars x = scalars_step (map-Value Value (List ℤ) scalars x)

scalars_of : (x : V.Value-F Value) (v : Value) → roll-Value x ≡ v → scalars v ≡ layer_scalars x
scalars_of x v e = ap scalars (sym e) ∙ fold-roll-Value (List ℤ) scalars_step x

rolled : (v : Value) → (x : V.Value-F Value) × (roll-Value x ≡ v)
rolled = ind-Value (λ v. (x : V.Value-F Value) × (roll-Value x ≡ v)) (λ x y is. (x, refl))

module _ (inbits : ℕ) where
  abbrev range_of_layer : V.Value-F Value → Ty → Bool
  range_of_layer x t = in_range_step inbits (map-Value Value (Ty → Bool) (in_range inbits) x) t

  range_of : (x : V.Value-F Value) (v : Value) → roll-Value x ≡ v → (t : Ty) → in_range inbits v t ≡ range_of_layer x t
  range_of x v e t = ap (λ w. in_range inbits w t) (sym e) ∙ ap (λ p. p t) (fold-roll-Value (Ty → Bool) (in_range_step inbits) x)

  abbrev all_in_range : Ty → List Value → Bool
  all_in_range t vs = list_all (λ p. p t) (map (in_range inbits) vs)

  mapped_length : (vs : List Value) → length (map (in_range inbits) vs) ≡ length vs
  mapped_length [] = refl
  mapped_length (v ∷ vs) = ap suc (mapped_length vs)

  -- the value is in range, and has these scalars
  abbrev Reads : Ty → List ℤ → Value → Type 0
  Reads t ss v = (in_range inbits v t ≡ true) × (scalars v ≡ ss)

  -- What is read

  int_sound : (s : ℤ) (v : Value) → int_listed inbits s ≡ Some v → Reads (ty.One elem.Int) (s ∷ []) v
  int_sound (pos n) v h =
      let w = when_some (nat_lt n (2 ^ inbits)) (Some (value.Int (pos n))) v h in
      subst (Reads (ty.One elem.Int) (pos n ∷ [])) (same_Some (value.Int (pos n)) v w.1) (
        range_of (V.Int (pos n)) (value.Int (pos n)) (value.rolls-Int (pos n)) (ty.One elem.Int) ∙ w.0,
        scalars_of (V.Int (pos n)) (value.Int (pos n)) (value.rolls-Int (pos n)),
      )
  int_sound (negsuc n) v h = absurd (none-some v h)

  bit_reads : (b : Bool) (s : ℤ) (v : Value) → layer_scalars (V.Bit b) ≡ s ∷ [] → value.Bit b ≡ v → Reads (ty.One elem.Bit) (s ∷ []) v
  bit_reads b s v e h = subst (Reads (ty.One elem.Bit) (s ∷ [])) h (
    range_of (V.Bit b) (value.Bit b) (value.rolls-Bit b) (ty.One elem.Bit),
    scalars_of (V.Bit b) (value.Bit b) (value.rolls-Bit b) ∙ e,
  )

  bit_sound : (s : ℤ) (v : Value) → bit_listed s ≡ Some v → Reads (ty.One elem.Bit) (s ∷ []) v
  bit_sound (pos zero) v h = bit_reads false (pos 0) v refl (same_Some (value.Bit false) v h)
  bit_sound (pos (suc zero)) v h = bit_reads true (pos 1) v refl (same_Some (value.Bit true) v h)
  bit_sound (pos (suc (suc n))) v h =
      let w = when_some (nat_lt (suc (suc n)) 2) (Some (value.Bit (suc (suc n) == 1))) v h in
      let low = ltb-true (suc (suc n)) 2 w.0 in
      absurd (omega (arith, low))
  bit_sound (negsuc n) v h = absurd (none-some v h)

  elem_sound : (e : Elem) (s : ℤ) (v : Value) → elem_listed inbits e s ≡ Some v → Reads (ty.One e) (s ∷ []) v
  elem_sound elem.Int s v h = int_sound s v h
  elem_sound elem.Bit s v h = bit_sound s v h
  elem_sound (elem.Reference r) s v h = absurd (none-some v h)

  -- so many values in range, with these scalars one after another
  abbrev AllRead : Ty → ℕ → List ℤ → List Value → Type 0
  AllRead t n ss vs = (length vs ≡ n) × (all_in_range t vs ≡ true) × (all_scalars vs ≡ ss)

  one_more : (t : Ty) (n : ℕ) (ss rest whole : List ℤ) (v : Value) (vs : List Value) → ss ++ rest ≡ whole → Reads t ss v → AllRead t n rest vs → AllRead t (suc n) whole (v ∷ vs)
  one_more t n ss rest whole v vs e one more = (
    ap suc more.0,
    ap (λ b. b && all_in_range t vs) one.0 ∙ more.1,
    ap (λ xs. xs ++ all_scalars vs) one.1 ∙ ap (λ xs. ss ++ xs) more.2 ∙ e,
  )

  row_sound : (e : Elem) (ss : List ℤ) (vs : List Value) → row_listed inbits e ss ≡ Some vs → AllRead (ty.One e) (length ss) ss vs
  row_sound e [] vs h = subst (AllRead (ty.One e) 0 []) (same_Some [] vs h) (refl, refl, refl)
  row_sound e (s ∷ ss) vs h =
      let b = both_some (elem_listed inbits e s) (row_listed inbits e ss) vs h in
      subst (AllRead (ty.One e) (suc (length ss)) (s ∷ ss)) b.4 (one_more (ty.One e) (length ss) (s ∷ []) ss (s ∷ ss) b.0 b.1 refl (elem_sound e s b.0 b.2) (row_sound e ss b.1 b.3))

  array_sound : (e : Elem) (n : ℕ) (ss : List ℤ) (v : Value) → array_listed inbits e n ss ≡ Some v → Reads (ty.Array e n) ss v
  array_sound e n ss v h =
      let w = when_some (length ss == n) (option_map value.Array (row_listed inbits e ss)) v h in
      let m = map_some value.Array (row_listed inbits e ss) v w.1 in
      let vs : List Value = m.0 in
      let r = row_sound e ss vs m.1 in
      let long : length ss ≡ n = eqb-true (length ss) n w.0 in
      subst (Reads (ty.Array e n) ss) m.2 (
        range_of (V.Array vs) (value.Array vs) (value.rolls-Array vs) (ty.Array e n)
            ∙ ap (λ b. b && all_in_range (ty.One e) vs) (eq-eqb (length (map (in_range inbits) vs)) n (mapped_length vs ∙ r.0 ∙ long))
            ∙ r.1,
        scalars_of (V.Array vs) (value.Array vs) (value.rolls-Array vs) ∙ r.2,
      )

  rows_sound : (e : Elem) (n m : ℕ) (ss : List ℤ) (vs : List Value) → rows_listed inbits e n m ss ≡ Some vs → AllRead (ty.Array e n) m ss vs
  rows_sound e n zero [] vs h = subst (AllRead (ty.Array e n) 0 []) (same_Some [] vs h) (refl, refl, refl)
  rows_sound e n zero (s ∷ ss) vs h = absurd (none-some vs h)
  rows_sound e n (suc m) ss vs h =
      let b = both_some (array_listed inbits e n (take n ss)) (rows_listed inbits e n m (drop n ss)) vs h in
      subst (AllRead (ty.Array e n) (suc m) ss) b.4 (one_more (ty.Array e n) m (take n ss) (drop n ss) ss b.0 b.1 (take-append-drop n ss) (array_sound e n (take n ss) b.0 b.2) (rows_sound e n m (drop n ss) b.1 b.3))

  pub value_sound : (t : Ty) (ss : List ℤ) (v : Value) → value_listed inbits t ss ≡ Some v → Reads t ss v
  value_sound (ty.One e) [] v h = absurd (none-some v h)
  value_sound (ty.One e) (s ∷ []) v h = elem_sound e s v h
  value_sound (ty.One e) (s ∷ r ∷ ss) v h = absurd (none-some v h)
  value_sound (ty.Array e n) ss v h = array_sound e n ss v h
  value_sound (ty.Grid e n k) ss v h =
      let m = map_some value.Array (rows_listed inbits e n k ss) v h in
      let vs : List Value = m.0 in
      let r = rows_sound e n k ss vs m.1 in
      subst (Reads (ty.Grid e n k) ss) m.2 (
        range_of (V.Array vs) (value.Array vs) (value.rolls-Array vs) (ty.Grid e n k)
            ∙ ap (λ b. b && all_in_range (ty.Array e n) vs) (eq-eqb (length (map (in_range inbits) vs)) k (mapped_length vs ∙ r.0))
            ∙ r.1,
        scalars_of (V.Array vs) (value.Array vs) (value.rolls-Array vs) ∙ r.2,
      )

  -- What is in range

  layer_of : (v : Value) (t : Ty) → in_range inbits v t ≡ true → (x : V.Value-F Value) × (roll-Value x ≡ v) × (range_of_layer x t ≡ true)
  layer_of v t h = let r = rolled v in (r.0, r.1, sym (range_of r.0 v r.1 t) ∙ h)

  elem_layer : (e : Elem) (x : V.Value-F Value) → range_of_layer x (ty.One e) ≡ true → (s : ℤ) × (layer_scalars x ≡ s ∷ []) × (elem_listed inbits e s ≡ Some (roll-Value x))
  elem_layer elem.Int (V.Int (pos n)) h = (pos n, refl, ap (λ b. if b then Some (value.Int (pos n)) else None) h ∙ ap (λ w. Some w) (sym (value.rolls-Int (pos n))))
  elem_layer elem.Int (V.Int (negsuc n)) h = cc
  elem_layer elem.Int (V.Bit b) h = cc
  elem_layer elem.Int V.Null h = cc
  elem_layer elem.Int (V.Place p) h = cc
  elem_layer elem.Int (V.Array vs) h = cc
  elem_layer elem.Bit (V.Bit true) h = (pos 1, refl, ap (λ w. Some w) (sym (value.rolls-Bit true)))
  elem_layer elem.Bit (V.Bit false) h = (pos 0, refl, ap (λ w. Some w) (sym (value.rolls-Bit false)))
  elem_layer elem.Bit (V.Int (pos n)) h = cc
  elem_layer elem.Bit (V.Int (negsuc n)) h = cc
  elem_layer elem.Bit V.Null h = cc
  elem_layer elem.Bit (V.Place p) h = cc
  elem_layer elem.Bit (V.Array vs) h = cc
  elem_layer (elem.Reference r) (V.Int (pos n)) h = cc
  elem_layer (elem.Reference r) (V.Int (negsuc n)) h = cc
  elem_layer (elem.Reference r) (V.Bit b) h = cc
  elem_layer (elem.Reference r) V.Null h = cc
  elem_layer (elem.Reference r) (V.Place p) h = cc
  elem_layer (elem.Reference r) (V.Array vs) h = cc

  elem_complete : (e : Elem) (v : Value) → in_range inbits v (ty.One e) ≡ true → (s : ℤ) × (scalars v ≡ s ∷ []) × (elem_listed inbits e s ≡ Some v)
  elem_complete e v h =
      let l = layer_of v (ty.One e) h in
      let n = elem_layer e l.0 l.2 in
      (n.0, scalars_of l.0 v l.1 ∙ n.1, n.2 ∙ ap (λ w. Some w) l.1)

  row_complete : (e : Elem) (vs : List Value) → all_in_range (ty.One e) vs ≡ true → (row_listed inbits e (all_scalars vs) ≡ Some vs) × (length (all_scalars vs) ≡ length vs)
  row_complete e [] h = (refl, refl)
  row_complete e (v ∷ vs) h =
      let hs = and_parts (in_range inbits v (ty.One e)) (all_in_range (ty.One e) vs) h in
      let d = elem_complete e v hs.0 in
      let r = row_complete e vs hs.1 in
      let ss : all_scalars (v ∷ vs) ≡ d.0 ∷ all_scalars vs = ap (λ xs. xs ++ all_scalars vs) d.1 in (
        ap (row_listed inbits e) ss ∙ ap (λ o. both o (row_listed inbits e (all_scalars vs))) d.2 ∙ ap (both (Some v)) r.0,
        ap length ss ∙ ap suc r.1,
      )

  -- the scalars are as many as its type has, and it is read
  abbrev IsArray : Elem → ℕ → List ℤ → Value → Type 0
  IsArray e n ss v = (array_listed inbits e n ss ≡ Some v) × (length ss ≡ n)

  array_layer : (e : Elem) (n : ℕ) (x : V.Value-F Value) → range_of_layer x (ty.Array e n) ≡ true → IsArray e n (layer_scalars x) (roll-Value x)
  array_layer e n (V.Array vs) h =
      let hs = and_parts (length (map (in_range inbits) vs) == n) (all_in_range (ty.One e) vs) h in
      let r = row_complete e vs hs.1 in
      let long : length (all_scalars vs) ≡ n = r.1 ∙ sym (mapped_length vs) ∙ eqb-true (length (map (in_range inbits) vs)) n hs.0 in (
        ap (λ b. if b then option_map value.Array (row_listed inbits e (all_scalars vs)) else None) (eq-eqb (length (all_scalars vs)) n long)
            ∙ ap (option_map value.Array) r.0
            ∙ ap (λ w. Some w) (sym (value.rolls-Array vs)),
        long,
      )
  array_layer e n (V.Int (pos k)) h = cc
  array_layer e n (V.Int (negsuc k)) h = cc
  array_layer e n (V.Bit b) h = cc
  array_layer e n V.Null h = cc
  array_layer e n (V.Place p) h = cc

  array_complete : (e : Elem) (n : ℕ) (v : Value) → in_range inbits v (ty.Array e n) ≡ true → IsArray e n (scalars v) v
  array_complete e n v h =
      let l = layer_of v (ty.Array e n) h in
      let a = array_layer e n l.0 l.2 in
      let same : scalars v ≡ layer_scalars l.0 = scalars_of l.0 v l.1 in
      (ap (array_listed inbits e n) same ∙ a.0 ∙ ap (λ w. Some w) l.1, ap length same ∙ a.1)

  rows_complete : (e : Elem) (n : ℕ) (vs : List Value) → all_in_range (ty.Array e n) vs ≡ true → rows_listed inbits e n (length vs) (all_scalars vs) ≡ Some vs
  rows_complete e n [] h = refl
  rows_complete e n (v ∷ vs) h =
      let hs = and_parts (in_range inbits v (ty.Array e n)) (all_in_range (ty.Array e n) vs) h in
      let a = array_complete e n v hs.0 in
      let ss : List ℤ = all_scalars (v ∷ vs) in
      ap (λ xs. both (array_listed inbits e n xs) (rows_listed inbits e n (length vs) (drop n ss))) (take_at (scalars v) (all_scalars vs) n a.1)
      ∙ ap (λ o. both o (rows_listed inbits e n (length vs) (drop n ss))) a.0
      ∙ ap (λ xs. both (Some v) (rows_listed inbits e n (length vs) xs)) (drop_at (scalars v) (all_scalars vs) n a.1)
      ∙ ap (both (Some v)) (rows_complete e n vs hs.1)

  grid_layer : (e : Elem) (n m : ℕ) (x : V.Value-F Value) → range_of_layer x (ty.Grid e n m) ≡ true → value_listed inbits (ty.Grid e n m) (layer_scalars x) ≡ Some (roll-Value x)
  grid_layer e n m (V.Array vs) h =
      let hs = and_parts (length (map (in_range inbits) vs) == m) (all_in_range (ty.Array e n) vs) h in
      let count : m ≡ length vs = sym (eqb-true (length (map (in_range inbits) vs)) m hs.0) ∙ mapped_length vs in
      ap (λ k. option_map value.Array (rows_listed inbits e n k (all_scalars vs))) count
      ∙ ap (option_map value.Array) (rows_complete e n vs hs.1)
      ∙ ap (λ w. Some w) (sym (value.rolls-Array vs))
  grid_layer e n m (V.Int (pos k)) h = cc
  grid_layer e n m (V.Int (negsuc k)) h = cc
  grid_layer e n m (V.Bit b) h = cc
  grid_layer e n m V.Null h = cc
  grid_layer e n m (V.Place p) h = cc

  pub value_complete : (t : Ty) (v : Value) → in_range inbits v t ≡ true → value_listed inbits t (scalars v) ≡ Some v
  value_complete (ty.One e) v h = let d = elem_complete e v h in ap (one_listed inbits e) d.1 ∙ d.2
  value_complete (ty.Array e n) v h = (array_complete e n v h).0
  value_complete (ty.Grid e n m) v h =
      let l = layer_of v (ty.Grid e n m) h in
      ap (value_listed inbits (ty.Grid e n m)) (scalars_of l.0 v l.1) ∙ grid_layer e n m l.0 l.2 ∙ ap (λ w. Some w) l.1
