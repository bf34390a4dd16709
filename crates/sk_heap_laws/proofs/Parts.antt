-- What is seen of a shape, by its variants: its value, and whether it is live.
use Rattle.std.proofs.Common.{◌≡◌, ℕ, ℤ, Bool, true, false, true≢false, List, [], ◌∷◌, map, All, IsTrue, Option, Some, None, refl, sym, ap, subst, ◌∙◌}
use Rattle.std.proofs.lemmas.List.Elements.{All-nil, All-cons, All-head, All-tail}
use Rattle.sk_dag.specs.declared.shape.Seen.{Seen}
use Rattle.sk_dag.specs.declared.shape.Seen.TheVariants as seen
use Rattle.sk_dag.specs.declared.shape.Seen.TheOpen as F
use Rattle.sk_dag.specs.declared.shape.Seen.TheViews.{roll-Seen, outs-Slot, outs-Array}
use Rattle.sk_dag.specs.declared.shape.Seen.TheFolds.{fold-roll-Seen, ind-Seen, map-Seen, every-Seen, every_here-Seen, every_held-Seen, every_made-Seen}
use Rattle.sk_prog.specs.declared.value.Value.{Value}
use Rattle.sk_prog.specs.declared.value.Value.TheVariants as value
use Rattle.sk_heap_laws.specs.Values.{value_step, value_of, PartLive, IsLive, AllLive}

-- ---- what holds of each, by its variants

module _ (P : Seen → Type 0) (bit : (b : Bool) → P (seen.Bit b)) (int : (z : ℤ) → P (seen.Int z)) (slot : (s : Option ℕ) → P (seen.Slot s)) (array : (vs : List Seen) → All P vs → P (seen.Array vs)) where
  each_is : (zs : List ((z : Seen) × P z)) → All P (map (λ z. z.0) zs)
  each_is [] = All-nil P
  each_is (z ∷ zs) = All-cons P z.0 (map (λ y. y.0) zs) z.1 (each_is zs)

  layer : (y : F.Seen-F ((z : Seen) × P z)) → P (roll-Seen (map-Seen _ _ (λ z. z.0) y))
  layer (F.Bit b) = subst P (sym (seen.rolls-Bit b)) (bit b)
  layer (F.Int z) = subst P (sym (seen.rolls-Int z)) (int z)
  layer (F.Slot s) = subst P (sym (seen.rolls-Slot s)) (slot s)
  layer (F.Array zs) = subst P (sym (seen.rolls-Array (map (λ z. z.0) zs))) (array (map (λ z. z.0) zs) (each_is zs))

  pub seen_law : (v : Seen) → P v
  seen_law = ind-Seen P (λ x y is. subst (λ z. P (roll-Seen z)) is (layer y))

-- ---- values

module _ (place : ℕ → ℕ) where
  pub of_bit : (b : Bool) → value_of place (seen.Bit b) ≡ value.Bit b
  of_bit b = ap (value_of place) (sym (seen.rolls-Bit b)) ∙ fold-roll-Seen Value (value_step place) (F.Bit b)

  pub of_int : (z : ℤ) → value_of place (seen.Int z) ≡ value.Int z
  of_int z = ap (value_of place) (sym (seen.rolls-Int z)) ∙ fold-roll-Seen Value (value_step place) (F.Int z)

  pub of_null : value_of place (seen.Slot None) ≡ value.Null
  of_null = ap (value_of place) (sym (seen.rolls-Slot None)) ∙ fold-roll-Seen Value (value_step place) (F.Slot None)

  pub of_slot : (n : ℕ) → value_of place (seen.Slot (Some n)) ≡ value.Place (place n)
  of_slot n = ap (value_of place) (sym (seen.rolls-Slot (Some n))) ∙ fold-roll-Seen Value (value_step place) (F.Slot (Some n))

  pub of_array : (vs : List Seen) → value_of place (seen.Array vs) ≡ value.Array (map (value_of place) vs)
  of_array vs = ap (value_of place) (sym (seen.rolls-Array vs)) ∙ fold-roll-Seen Value (value_step place) (F.Array vs)

-- ---- live

module _ (holds : ℕ → Bool) where
  Q : F.Seen-F Seen → Type 0
  Q = PartLive holds

  abbrev E : Seen → Type 0
  E = every-Seen (PartLive holds)

  pub live_bit : (b : Bool) → IsLive holds (seen.Bit b)
  live_bit b = record { parts = subst E (seen.rolls-Bit b) (every_made-Seen (PartLive holds) (F.Bit b) (F.Bit b) refl tt) }

  pub live_int : (z : ℤ) → IsLive holds (seen.Int z)
  live_int z = record { parts = subst E (seen.rolls-Int z) (every_made-Seen (PartLive holds) (F.Int z) (F.Int z) refl tt) }

  pub live_null : IsLive holds (seen.Slot None)
  live_null = record { parts = subst E (seen.rolls-Slot None) (every_made-Seen (PartLive holds) (F.Slot None) (F.Slot None) refl tt) }

  pub live_slot : (n : ℕ) → IsTrue (holds n) → IsLive holds (seen.Slot (Some n))
  live_slot n h = record { parts = subst E (seen.rolls-Slot (Some n)) (every_made-Seen (PartLive holds) (F.Slot (Some n)) (F.Slot (Some n)) refl h) }

  -- a slot that is named holds
  pub slot_live : (n : ℕ) → IsLive holds (seen.Slot (Some n)) → IsTrue (holds n)
  slot_live n h = subst (PartLive holds) (outs-Slot (Some n)) (every_here-Seen (PartLive holds) (seen.Slot (Some n)) h.parts)

  abbrev Each : Type 0
  Each = (z : Seen) × every-Seen (PartLive holds) z

  paired : (vs : List Seen) → All E vs → (zs : List Each) × (map (λ z. z.0) zs ≡ vs)
  paired [] h = ([], refl)
  paired (v ∷ vs) h = let rest = paired vs (All-tail E v vs h) in ((v, All-head E v vs h) ∷ rest.0, ap (λ l. v ∷ l) rest.1)

  each_held : (zs : List Each) → All E (map (λ z. z.0) zs)
  each_held [] = All-nil E
  each_held (z ∷ zs) = All-cons E z.0 (map (λ y. y.0) zs) z.1 (each_held zs)

  pub live_array : (vs : List Seen) → AllLive holds vs → IsLive holds (seen.Array vs)
  live_array vs h =
      let p = paired vs (λ i d lt. (h.each i d lt).parts) in
      record { parts = subst E (seen.rolls-Array vs) (every_made-Seen (PartLive holds) (F.Array vs) (F.Array p.0) (ap (λ l. F.Array l) p.1) tt) }

  pub array_live : (vs : List Seen) → IsLive holds (seen.Array vs) → AllLive holds vs
  array_live vs h = let held = every_held-Seen (PartLive holds) (seen.Array vs) h.parts in record { each = λ i d lt. record { parts = by held.0 (held.1 ∙ outs-Array vs) i d lt } }
    where
      parts_of : F.Seen-F Seen → List Seen
      parts_of (F.Array zs) = zs
      parts_of _ = []

      is_array : F.Seen-F Seen → Bool
      is_array (F.Array zs) = true
      is_array _ = false

      by : (y : F.Seen-F ((z : Seen) × every-Seen (PartLive holds) z)) → map-Seen _ _ (λ z. z.0) y ≡ F.Array vs → All (every-Seen (PartLive holds)) vs
      by (F.Bit b) e = absurd (true≢false (sym (ap is_array e)))
      by (F.Int z) e = absurd (true≢false (sym (ap is_array e)))
      by (F.Slot s) e = absurd (true≢false (sym (ap is_array e)))
      by (F.Array zs) e = subst (All (every-Seen (PartLive holds))) (ap parts_of e) (each_held zs)

  pub live_nil : AllLive holds []
  live_nil = record { each = All-nil (IsLive holds) }

  pub live_cons : (v : Seen) (vs : List Seen) → IsLive holds v → AllLive holds vs → AllLive holds (v ∷ vs)
  live_cons v vs h k = record { each = All-cons (IsLive holds) v vs h k.each }

  pub live_head : (v : Seen) (vs : List Seen) → AllLive holds (v ∷ vs) → IsLive holds v
  live_head v vs h = All-head (IsLive holds) v vs h.each

  pub live_tail : (v : Seen) (vs : List Seen) → AllLive holds (v ∷ vs) → AllLive holds vs
  live_tail v vs h = record { each = All-tail (IsLive holds) v vs h.each }
