-- The records of a heap: how many, which stands at the place of a slot, and what changes where the fields of one do.
use Rattle.std.proofs.lemmas.Option.{none-some, same_Some}
use Rattle.std.proofs.Common.{◌≡◌, ℕ, zero, suc, Bool, true, false, List, [], ◌∷◌, ◌++◌, map, length, Some, slice_get, slice_set, refl, sym, ap, ◌∙◌, arith, if◌then◌else◌}
use Rattle.sk_dag.specs.declared.env.Env.{Env}
use Rattle.sk_dag.specs.declared.node.BoolId.{BoolId}
use Rattle.sk_dag.specs.Graph.{Graph}
use Rattle.sk_dag.specs.Eval.{bool_value}
use Rattle.sk_heap.specs.declared.slot.Slot.{Slot}
use Rattle.sk_heap.specs.Answers.{guard_of}
use Rattle.sk_heap_laws.specs.Values.{place_of, holds_in}
use Rattle.sk_heap_laws.specs.Heaps.{records_of}
use Rattle.sk_heap_laws.proofs.Values.{place_front}

-- one slot more
pub records_push : {A : Type 0} (holds : BoolId → Bool) (f : Slot → A) (slots : List Slot) (slot : Slot) → records_of holds f (slots ++ slot ∷ []) ≡ records_of holds f slots ++ (if holds slot.guard then f slot ∷ [] else [])
records_push holds f [] slot = by (holds slot.guard)
  where
    by : (b : Bool) → (if b then f slot ∷ [] else []) ≡ (if b then f slot ∷ [] else [])
    by b = refl
records_push {A} holds f (s ∷ slots) slot = ap (λ l. if holds s.guard then f s ∷ l else l) (records_push holds f slots slot) ∙ by (holds s.guard) (records_of holds f slots)
  where
    by : (b : Bool) (l : List A) → (if b then f s ∷ (l ++ (if holds slot.guard then f slot ∷ [] else [])) else (l ++ (if holds slot.guard then f slot ∷ [] else []))) ≡ (if b then f s ∷ l else l) ++ (if holds slot.guard then f slot ∷ [] else [])
    by true l = refl
    by false l = refl

module _ {A : Type 0} (g : Graph) (e : Env) (f : Slot → A) where
  abbrev P : List Slot → ℕ → ℕ
  P slots n = place_of (holds_in g e slots) n

  abbrev R : List Slot → List A
  R slots = records_of (bool_value g e) f slots

  next : (slot : Slot) (slots : List Slot) (n : ℕ) → P (slot ∷ slots) (suc n) ≡ (if bool_value g e slot.guard then suc (P slots n) else P slots n)
  next slot slots n = place_front (holds_in g e (slot ∷ slots)) n

  -- the place of the next record
  pub place_length : (slots : List Slot) → place_of (holds_in g e slots) (length slots) ≡ length (records_of (bool_value g e) f slots)
  place_length [] = refl
  place_length (slot ∷ slots) = next slot slots (length slots) ∙ by (bool_value g e slot.guard) (place_length slots)
    where
      by : (b : Bool) → P slots (length slots) ≡ length (R slots) → (if b then suc (P slots (length slots)) else P slots (length slots)) ≡ length (if b then f slot ∷ R slots else R slots)
      by true h = ap suc h
      by false h = h

  -- the record of a slot that holds stands at its place
  pub record_at_place : (slots : List Slot) (n : ℕ) (slot : Slot) → slice_get slots n ≡ Some slot → bool_value g e slot.guard ≡ true → slice_get (records_of (bool_value g e) f slots) (place_of (holds_in g e slots) n) ≡ Some (f slot)
  record_at_place [] n slot at h = absurd (none-some slot at)
  record_at_place (s ∷ slots) zero slot at h =
      let same : s ≡ slot = same_Some s slot at in
      ap (λ b. slice_get (if b then f s ∷ R slots else R slots) 0) (ap (λ x. bool_value g e x.guard) same ∙ h) ∙ ap (λ x. Some (f x)) same
  record_at_place (s ∷ slots) (suc n) slot at h = ap (λ m. slice_get (R (s ∷ slots)) m) (next s slots n) ∙ by (bool_value g e s.guard) (record_at_place slots n slot at h)
    where
      by : (b : Bool) → slice_get (R slots) (P slots n) ≡ Some (f slot) → slice_get (if b then f s ∷ R slots else R slots) (if b then suc (P slots n) else P slots n) ≡ Some (f slot)
      by true h = h
      by false h = h

  -- ---- slots with the same guards

  abbrev pub SameBut : (ℕ → Type 0) → List Slot → List Slot → Type 0
  SameBut at old new = (n : ℕ) (s s' : Slot) → slice_get old n ≡ Some s → slice_get new n ≡ Some s' → bool_value g e s.guard ≡ true → (at n → ⊥) → f s' ≡ f s

  guard_head : (s s' : Slot) (old new : List Slot) → map guard_of (s' ∷ new) ≡ map guard_of (s ∷ old) → s'.guard ≡ s.guard
  guard_head s s' old new h = same_Some s'.guard s.guard (ap (λ l. slice_get l 0) h)

  abbrev tail_of : {B : Type 0} → List B → List B
  tail_of [] = []
  tail_of (x ∷ xs) = xs

  pub records_same : (old new : List Slot) → map guard_of new ≡ map guard_of old → SameBut (λ n. ⊥) old new → records_of (bool_value g e) f new ≡ records_of (bool_value g e) f old
  records_same [] [] guards same = refl
  records_same [] (s' ∷ new) guards same = absurd (none-some s'.guard (sym (ap (λ l. slice_get l 0) guards)))
  records_same (s ∷ old) [] guards same = absurd (none-some s.guard (ap (λ l. slice_get l 0) guards))
  records_same (s ∷ old) (s' ∷ new) guards same =
      ap (λ a. if bool_value g e a then f s' ∷ R new else R new) (guard_head s s' old new guards)
      ∙ by (records_same old new (ap tail_of guards) (λ n. same (suc n))) (bool_value g e s.guard) refl
    where
      by : R new ≡ R old → (b : Bool) → bool_value g e s.guard ≡ b → (if b then f s' ∷ R new else R new) ≡ (if b then f s ∷ R old else R old)
      by rest true h = λ i. same 0 s s' refl refl h (λ no. no) i ∷ rest i
      by rest false h = rest

  -- one slot that holds has another record
  pub records_set : (old new : List Slot) (n : ℕ) (s s' : Slot) (r : A) → map guard_of new ≡ map guard_of old → slice_get old n ≡ Some s → slice_get new n ≡ Some s' → bool_value g e s.guard ≡ true → f s' ≡ r → SameBut (λ m. m ≡ n) old new → records_of (bool_value g e) f new ≡ slice_set (records_of (bool_value g e) f old) (place_of (holds_in g e old) n) r
  records_set [] new n s s' r guards at at' h is same = absurd (none-some s at)
  records_set (t ∷ old) [] n s s' r guards at at' h is same = absurd (none-some s' at')
  records_set (t ∷ old) (t' ∷ new) zero s s' r guards at at' h is same =
      let first : bool_value g e t.guard ≡ true = ap (λ x. bool_value g e x.guard) (same_Some t s at) ∙ h in
      let first' : bool_value g e t'.guard ≡ true = ap (bool_value g e) (guard_head t t' old new guards) ∙ first in
      ap (λ b. if b then f t' ∷ R new else R new) first'
      ∙ (λ i. (ap f (same_Some t' s' at') ∙ is) i ∷ records_same old new (ap tail_of guards) (λ n x x' p p' q no. same (suc n) x x' p p' q (λ e. omega (arith, e))) i)
      ∙ sym (ap (λ b. slice_set (if b then f t ∷ R old else R old) 0 r) first)
  records_set (t ∷ old) (t' ∷ new) (suc n) s s' r guards at at' h is same =
      ap (λ a. if bool_value g e a then f t' ∷ R new else R new) (guard_head t t' old new guards)
      ∙ by (records_set old new n s s' r (ap tail_of guards) at at' h is (λ m x x' p p' q no. same (suc m) x x' p p' q (λ e. no (omega (arith, e))))) (bool_value g e t.guard) refl
      ∙ sym (ap (λ m. slice_set (R (t ∷ old)) m r) (next t old n))
    where
      by : R new ≡ slice_set (R old) (P old n) r → (b : Bool) → bool_value g e t.guard ≡ b → (if b then f t' ∷ R new else R new) ≡ slice_set (if b then f t ∷ R old else R old) (if b then suc (P old n) else P old n) r
      by rest true q = λ i. same 0 t t' refl refl q (λ e. omega (arith, e)) i ∷ rest i
      by rest false q = rest
