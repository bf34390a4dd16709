-- What the slots of a heap are worth as the records of a run: those whose guards hold, in their order.
use Rattle.std.specs.Prelude.{◌≡◌, ℕ, ◌≤◌, Bool, true, false, IsTrue, List, [], ◌∷◌, map, Some, slice_get, if◌then◌else◌}
use Rattle.sk_dag.specs.declared.env.Env.{Env}
use Rattle.sk_dag.specs.declared.node.BoolId.{BoolId}
use Rattle.sk_dag.specs.Graph.{Graph}
use Rattle.sk_dag.specs.Eval.{bool_value}
use Rattle.sk_arr.specs.Answers.{shapes_value}
use Rattle.sk_prog.specs.declared.ids.StructId.{StructId}
use Rattle.sk_prog.specs.declared.value.Value.{Value}
use Rattle.sk_heap.specs.declared.slot.Slot.{Slot}
use Rattle.sk_heap.specs.Answers.{struct_of}
use Rattle.sk_heap_laws.specs.Values.{holds_in, values_in, AllLive}

-- of those slots whose truth value holds, in their order
abbrev pub records_of : {A : Type 0} → (BoolId → Bool) → (Slot → A) → List Slot → List A
records_of holds f [] = []
records_of holds f (slot ∷ slots) = if holds slot.guard then f slot ∷ records_of holds f slots else records_of holds f slots

-- the fields of a slot
abbrev pub record_in : Graph → Env → List Slot → Slot → List Value
record_in g e heap slot = values_in g e heap slot.fields

-- for each slot whose guard holds, the values of its fields
abbrev pub heap_value : Graph → Env → List Slot → List (List Value)
heap_value g e heap = records_of (bool_value g e) (record_in g e heap) heap

-- the fields of each slot whose guard holds name only slots whose guards hold
pub record HeapLive (g : Graph) (e : Env) (heap : List Slot) : Type 0 where
  pub each : (n : ℕ) (slot : Slot) → slice_get heap n ≡ Some slot → bool_value g e slot.guard ≡ true → AllLive (holds_in g e heap) (shapes_value g e slot.fields)

-- the slots that were there have the structs that they had
pub record StructsGrow (old new : List Slot) : Type 0 where
  pub structs : (n : ℕ) (s : StructId) → slice_get (map struct_of old) n ≡ Some s → slice_get (map struct_of new) n ≡ Some s

-- Of the slots up to one that held the same hold as before, so that its record has the place that it had. Those behind the
-- last one that held may hold that did not.
pub record HeapGrows (g : Graph) (e : Env) (old new : List Slot) : Type 0 where
  pub same : (n : ℕ) → IsTrue (holds_in g e old n) → (k : ℕ) → k ≤ n → holds_in g e new k ≡ holds_in g e old k

-- the same slots hold as before
pub record HoldAlike (g : Graph) (e : Env) (old new : List Slot) : Type 0 where
  pub each : (n : ℕ) → holds_in g e new n ≡ holds_in g e old n

-- no slot holds from this one on
pub record AreFree (g : Graph) (e : Env) (heap : List Slot) (from : ℕ) : Type 0 where
  pub each : (n : ℕ) → from ≤ n → holds_in g e heap n ≡ false
