-- Shapes that are seen as the same are of one form.
use Rattle.std.proofs.Common.{◌≡◌, ℕ, ℤ, pos, Bool, true, false, true≢false, List, [], ◌∷◌, map, All, Option, None, refl, sym, ap, ◌∙◌}
use Rattle.std.proofs.lemmas.List.Elements.{All-head, All-tail}
use Rattle.sk_dag.specs.declared.env.Env.{Env}
use Rattle.sk_dag.specs.declared.node.BoolId.{BoolId}
use Rattle.sk_dag.specs.declared.shape.Shape.{Shape}
use Rattle.sk_dag.specs.declared.shape.Seen.{Seen}
use Rattle.sk_dag.specs.declared.shape.Seen.TheOpen as N
use Rattle.sk_dag.specs.declared.shape.Seen.TheFolds.{fold-Seen, fold-roll-Seen}
use Rattle.sk_dag.specs.declared.shape.Seen.TheVariants as seen
use Rattle.sk_dag.specs.Graph.{Graph, Grows, HasBool}
use Rattle.sk_dag.specs.Eval.{bool_value, word_value}
use Rattle.sk_dag.specs.EvalShape.{shape_value, held_slot}
use Rattle.sk_arr.specs.Shapes.{blank, Alike}
use Rattle.sk_arr.specs.Answers.{shapes_value, IsEquality}
use Rattle.sk_arr.proofs.Parts.{shape_law}
use Rattle.sk_arr.proofs.Values.{value_bit, value_int, value_reference, value_array, blank_bit, blank_int, blank_reference, blank_array}

abbrev form_step : N.Seen-F Seen → Seen
form_step (N.Bit b) = seen.Bit false
form_step (N.Int z) = seen.Int (pos 0)
form_step (N.Slot s) = seen.Slot None
form_step (N.Array vs) = seen.Array vs

-- the form of what is seen of a shape
abbrev form : Seen → Seen
form = fold-Seen Seen form_step

form_bit : (b : Bool) → form (seen.Bit b) ≡ seen.Bit false
form_bit b = ap form (sym (seen.rolls-Bit b)) ∙ fold-roll-Seen Seen form_step (N.Bit b)

form_int : (z : ℤ) → form (seen.Int z) ≡ seen.Int (pos 0)
form_int z = ap form (sym (seen.rolls-Int z)) ∙ fold-roll-Seen Seen form_step (N.Int z)

form_slot : (s : Option ℕ) → form (seen.Slot s) ≡ seen.Slot None
form_slot s = ap form (sym (seen.rolls-Slot s)) ∙ fold-roll-Seen Seen form_step (N.Slot s)

form_array : (vs : List Seen) → form (seen.Array vs) ≡ seen.Array (map form vs)
form_array vs = ap form (sym (seen.rolls-Array vs)) ∙ fold-roll-Seen Seen form_step (N.Array vs)

module _ (h : Graph) (e : Env) where
  forms_are : (ss : List Shape) → All (λ s. form (shape_value h e s) ≡ blank s) ss → map form (shapes_value h e ss) ≡ map blank ss
  forms_are [] below = refl
  forms_are (s ∷ ss) below = λ i. All-head (λ s. form (shape_value h e s) ≡ blank s) s ss below i ∷ forms_are ss (All-tail (λ s. form (shape_value h e s) ≡ blank s) s ss below) i

  form_is : (s : Shape) → form (shape_value h e s) ≡ blank s
  form_is = shape_law (λ s. form (shape_value h e s) ≡ blank s)
      (λ a. ap form (value_bit h e a) ∙ form_bit (bool_value h e a) ∙ sym (blank_bit a))
      (λ a. ap form (value_int h e a) ∙ form_int (word_value h e a) ∙ sym (blank_int a))
      (λ t. ap form (value_reference h e t) ∙ form_slot (held_slot h e t.slots.items) ∙ sym (blank_reference t))
      (λ ss below. ap form (value_array h e ss) ∙ form_array (shapes_value h e ss) ∙ ap (λ l. seen.Array l) (forms_are ss below) ∙ sym (blank_array ss))

-- they are never equal
pub unlike : {g : Graph} {a b : Shape} {r : BoolId} → (Alike a b → ⊥) → HasBool g.nodes r → ((h : Graph) → Grows g h → (e : Env) → bool_value h e r ≡ false) → IsEquality g a b r
unlike {a = a} {b = b} other there never = record {
  there = there;
  value = λ h more e. (
    λ yes. absurd (true≢false (sym yes ∙ never h more e)),
    λ same. absurd (other (sym (form_is h e a) ∙ ap form same ∙ form_is h e b)),
  );
}
