-- What a shape is worth as a value of a run: a reference is worth the place of a record, and a slot has one where its
-- guard holds.
use Rattle.std.specs.Prelude.{ℕ, zero, suc, Bool, false, List, map, Option, Some, None, All, IsTrue, ⊤, slice_get, if◌then◌else◌}
use Rattle.sk_dag.specs.declared.env.Env.{Env}
use Rattle.sk_dag.specs.declared.node.BoolId.{BoolId}
use Rattle.sk_dag.specs.declared.shape.Shape.{Shape}
use Rattle.sk_dag.specs.declared.shape.Seen.{Seen}
use Rattle.sk_dag.specs.declared.shape.Seen.TheOpen.{Seen-F, Bit, Int, Slot, Array}
use Rattle.sk_dag.specs.declared.shape.Seen.TheFolds.{fold-Seen, every-Seen}
use Rattle.sk_dag.specs.Graph.{Graph}
use Rattle.sk_dag.specs.Eval.{bool_value}
use Rattle.sk_dag.specs.EvalShape.{shape_value}
use Rattle.sk_prog.specs.declared.value.Value.{Value}
use Rattle.sk_prog.specs.declared.value.Value.TheVariants as value
use Rattle.sk_heap.specs.declared.slot.Slot as heap
use Rattle.sk_heap.specs.Answers.{guard_of}

-- how many of the slots before this one hold: the place of its record, where it holds itself
abbrev pub place_of : (ℕ → Bool) → ℕ → ℕ
place_of holds zero = 0
place_of holds (suc n) = if holds n then suc (place_of holds n) else place_of holds n

abbrev pub guard_holds : Graph → Env → Option BoolId → Bool
guard_holds g e None = false
guard_holds g e (Some guard) = bool_value g e guard

-- whether the slot with this number is there and its guard holds
abbrev pub holds_in : Graph → Env → List heap.Slot → ℕ → Bool
holds_in g e slots n = guard_holds g e (slice_get (map guard_of slots) n)

abbrev pub value_step : (ℕ → ℕ) → Seen-F Value → Value
value_step place (Bit b) = value.Bit b
value_step place (Int z) = value.Int z
value_step place (Slot None) = value.Null
value_step place (Slot (Some n)) = value.Place (place n)
value_step place (Array vs) = value.Array vs

-- what is seen of a shape as a value, where slots have these places
abbrev pub value_of : (ℕ → ℕ) → Seen → Value
value_of place = fold-Seen Value (value_step place)

abbrev pub value_in : Graph → Env → List heap.Slot → Shape → Value
value_in g e slots s = value_of (place_of (holds_in g e slots)) (shape_value g e s)

abbrev pub values_in : Graph → Env → List heap.Slot → List Shape → List Value
values_in g e slots = map (value_in g e slots)

abbrev pub PartLive : (ℕ → Bool) → Seen-F Seen → Type 0
PartLive holds (Bit b) = ⊤
PartLive holds (Int z) = ⊤
PartLive holds (Slot None) = ⊤
PartLive holds (Slot (Some n)) = IsTrue (holds n)
PartLive holds (Array vs) = ⊤

-- each slot that is named holds
pub record IsLive (holds : ℕ → Bool) (v : Seen) : Type 0 where
  pub parts : every-Seen (PartLive holds) v

pub record AllLive (holds : ℕ → Bool) (vs : List Seen) : Type 0 where
  pub each : All (IsLive holds) vs

-- so of what is seen of a shape in an environment
abbrev pub ShapeLive : Graph → Env → List heap.Slot → Shape → Type 0
ShapeLive g e slots s = IsLive (holds_in g e slots) (shape_value g e s)
