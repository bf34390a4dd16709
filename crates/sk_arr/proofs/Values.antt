-- What a shape is in an environment, its form and its slots, by its variants; and lists with one element more.
use Rattle.std.proofs.Common.{◌≡◌, ℕ, suc, Bool, false, List, [], ◌∷◌, ◌++◌, map, length, pos, None, All, refl, ap}
use Rattle.std.proofs.lemmas.List.Elements.{All-nil, All-cons, All-head, All-tail, All-append}
use Rattle.sk_dag.specs.declared.env.Env.{Env}
use Rattle.sk_dag.specs.declared.node.BoolId.{BoolId}
use Rattle.sk_dag.specs.declared.node.WordId.{WordId}
use Rattle.sk_dag.specs.declared.shape.Targets.{Targets}
use Rattle.sk_dag.specs.declared.shape.Seen.{Seen}
use Rattle.sk_dag.specs.declared.shape.Seen.TheVariants.{Bit as SeenBit, Int as SeenInt, Slot as SeenSlot, Array as SeenArray}
use Rattle.sk_dag.specs.declared.shape.Shape.{Shape}
use Rattle.sk_dag.specs.declared.shape.Shape.TheVariants as shape
use Rattle.sk_dag.specs.Graph.{Graph}
use Rattle.sk_dag.specs.Eval.{bool_value, word_value}
use Rattle.sk_dag.specs.EvalShape.{shape_value, seen_step, held_slot}
use Rattle.sk_arr.specs.Held.{AllPass}
use Rattle.sk_arr.specs.Shapes.{blank, blank_step, PartPasses, SlotsPass, AllSlotsPass, Stands, AllStand}
use Rattle.sk_arr.specs.Answers.{shapes_value}
use Rattle.sk_arr.proofs.Parts.{fold_bit, fold_int, fold_reference, fold_array, every_bit, every_int, every_reference, every_array, reference_every, array_every}

pub value_bit : (g : Graph) (e : Env) (a : BoolId) → shape_value g e (shape.Bit a) ≡ SeenBit (bool_value g e a)
value_bit g e a = fold_bit Seen (seen_step g e) a

pub value_int : (g : Graph) (e : Env) (a : WordId) → shape_value g e (shape.Int a) ≡ SeenInt (word_value g e a)
value_int g e a = fold_int Seen (seen_step g e) a

pub value_reference : (g : Graph) (e : Env) (a : Targets) → shape_value g e (shape.Reference a) ≡ SeenSlot (held_slot g e a.slots.items)
value_reference g e a = fold_reference Seen (seen_step g e) a

pub value_array : (g : Graph) (e : Env) (ss : List Shape) → shape_value g e (shape.Array ss) ≡ SeenArray (shapes_value g e ss)
value_array g e ss = fold_array Seen (seen_step g e) ss

pub blank_bit : (a : BoolId) → blank (shape.Bit a) ≡ SeenBit false
blank_bit a = fold_bit Seen blank_step a

pub blank_int : (a : WordId) → blank (shape.Int a) ≡ SeenInt (pos 0)
blank_int a = fold_int Seen blank_step a

pub blank_reference : (a : Targets) → blank (shape.Reference a) ≡ SeenSlot None
blank_reference a = fold_reference Seen blank_step a

pub blank_array : (ss : List Shape) → blank (shape.Array ss) ≡ SeenArray (map blank ss)
blank_array ss = fold_array Seen blank_step ss

pub bit_passes : (test : ℕ → Bool) (a : BoolId) → SlotsPass test (shape.Bit a)
bit_passes test a = record { parts = every_bit (PartPasses test) a tt }

pub int_passes : (test : ℕ → Bool) (a : WordId) → SlotsPass test (shape.Int a)
int_passes test a = record { parts = every_int (PartPasses test) a tt }

pub reference_passes : (test : ℕ → Bool) (a : Targets) → AllPass test a.slots.items → SlotsPass test (shape.Reference a)
reference_passes test a h = record { parts = every_reference (PartPasses test) a h.each }

pub targets_pass : (test : ℕ → Bool) (a : Targets) → SlotsPass test (shape.Reference a) → AllPass test a.slots.items
targets_pass test a h = record { each = reference_every (PartPasses test) a h.parts }

pub array_passes : (test : ℕ → Bool) (ss : List Shape) → AllSlotsPass test ss → SlotsPass test (shape.Array ss)
array_passes test ss h = record { parts = every_array (PartPasses test) ss tt (λ i d lt. (h.each i d lt).parts) }

pub parts_pass : (test : ℕ → Bool) (ss : List Shape) → SlotsPass test (shape.Array ss) → AllSlotsPass test ss
parts_pass test ss h = record { each = λ i d lt. record { parts = array_every (PartPasses test) ss h.parts i d lt } }

module _ {A : Type 0} where
  pub map_push : {B : Type 0} (f : A → B) (xs : List A) (x : A) → map f (xs ++ x ∷ []) ≡ map f xs ++ f x ∷ []
  map_push f [] x = refl
  map_push f (y ∷ ys) x = ap (λ l. f y ∷ l) (map_push f ys x)

  pub length_map : {B : Type 0} (f : A → B) (xs : List A) → length (map f xs) ≡ length xs
  length_map f [] = refl
  length_map f (x ∷ xs) = ap suc (length_map f xs)

  module _ (P : A → Type 0) where
    pub all_push : (xs : List A) (x : A) → All P xs → P x → All P (xs ++ x ∷ [])
    all_push xs x h p = All-append P xs (x ∷ []) h (All-cons P x [] p (All-nil P))

    pub all_front : (xs : List A) (x : A) → All P (xs ++ x ∷ []) → All P xs
    all_front [] x h = All-nil P
    all_front (y ∷ ys) x h = All-cons P y ys (All-head P y (ys ++ x ∷ []) h) (all_front ys x (All-tail P y (ys ++ x ∷ []) h))

    pub all_last : (xs : List A) (x : A) → All P (xs ++ x ∷ []) → P x
    all_last [] x h = All-head P x [] h
    all_last (y ∷ ys) x h = all_last ys x (All-tail P y (ys ++ x ∷ []) h)

pub stand_none : (g : Graph) → AllStand g []
stand_none g = record { each = All-nil (Stands g) }

pub stand_push : {g : Graph} (ss : List Shape) (s : Shape) → AllStand g ss → Stands g s → AllStand g (ss ++ s ∷ [])
stand_push {g} ss s h k = record { each = all_push (Stands g) ss s h.each k }

pub passes_push : {test : ℕ → Bool} (ss : List Shape) (s : Shape) → AllSlotsPass test ss → SlotsPass test s → AllSlotsPass test (ss ++ s ∷ [])
passes_push {test} ss s h k = record { each = all_push (SlotsPass test) ss s h.each k }

pub passes_front : {test : ℕ → Bool} (ss : List Shape) (s : Shape) → AllSlotsPass test (ss ++ s ∷ []) → AllSlotsPass test ss
passes_front {test} ss s h = record { each = all_front (SlotsPass test) ss s h.each }

pub passes_last : {test : ℕ → Bool} (ss : List Shape) (s : Shape) → AllSlotsPass test (ss ++ s ∷ []) → SlotsPass test s
passes_last {test} ss s h = all_last (SlotsPass test) ss s h.each

pub stand_front : {g : Graph} (ss : List Shape) (s : Shape) → AllStand g (ss ++ s ∷ []) → AllStand g ss
stand_front {g} ss s h = record { each = all_front (Stands g) ss s h.each }

pub stand_last : {g : Graph} (ss : List Shape) (s : Shape) → AllStand g (ss ++ s ∷ []) → Stands g s
stand_last {g} ss s h = all_last (Stands g) ss s h.each
