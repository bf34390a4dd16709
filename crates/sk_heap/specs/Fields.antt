-- The fields of the slots.
use Rattle.std.specs.Prelude.{◌≡◌, ℕ, zero, suc, Bool, false, ◌||◌, ◌==◌, List, [], ◌∷◌, Option, Some, None, slice_get, slice_set, All}
use Rattle.std.specs.Option.{option_map}
use Rattle.sk_dag.specs.declared.env.Env.{Env}
use Rattle.sk_dag.specs.declared.node.BoolId.{BoolId}
use Rattle.sk_dag.specs.declared.shape.Shape.{Shape}
use Rattle.sk_dag.specs.declared.shape.Seen.{Seen}
use Rattle.sk_dag.specs.Graph.{Graph}
use Rattle.sk_dag.specs.EvalShape.{shape_value}
use Rattle.sk_arr.specs.Shapes.{blank, Stands}
use Rattle.sk_heap.specs.declared.slot.Slot.{Slot}

abbrev pub field_in : ℕ → Option Slot → Option Shape
field_in field None = None
field_in field (Some slot) = slice_get slot.fields field

-- the field of the slot with this number, where there are both
abbrev pub field_at : List Slot → ℕ → ℕ → Option Shape
field_at heap n field = field_in field (slice_get heap n)

-- what it is in the environment
abbrev pub field_value : Graph → Env → List Slot → ℕ → ℕ → Option Seen
field_value g e heap n field = option_map (shape_value g e) (field_at heap n field)

-- the slots with this shape in the place of the field of the slot with this number
abbrev pub with_field : List Slot → ℕ → ℕ → Shape → List Slot
with_field [] n field r = []
with_field (slot ∷ slots) zero field r = (record slot { fields = slice_set slot.fields field r }) ∷ slots
with_field (slot ∷ slots) (suc n) field r = slot ∷ with_field slots n field r

-- there is such a field
pub record HasField (heap : List Slot) (n field : ℕ) : Type 0 where
  pub shape : Shape
  pub found : field_at heap n field ≡ Some shape

-- there is such a field, and it is of this form
pub record FieldFits (g : Graph) (heap : List Slot) (n field : ℕ) (form : Seen) : Type 0 where
  pub shape : Shape
  pub found : field_at heap n field ≡ Some shape
  pub stands : Stands g shape
  pub formed : blank shape ≡ form

-- and so in the slot of each target
pub record FieldsFit (g : Graph) (heap : List Slot) (targets : List (ℕ × BoolId)) (field : ℕ) (form : Seen) : Type 0 where
  pub each : All (λ target. FieldFits g heap target.0 field form) targets

-- whether one of the targets is at this slot
abbrev pub is_named : ℕ → List (ℕ × BoolId) → Bool
is_named n [] = false
is_named n (target ∷ targets) = (target.0 == n) || is_named n targets
