-- Stores over nodes.
use Rattle.std.specs.Prelude.{List, ⊤}
use Rattle.sk_base.specs.declared.span.Span.{Span}
use Rattle.sk_dag.specs.declared.env.Env.{Env}
use Rattle.sk_dag.specs.declared.shape.Shape.{Shape}
use Rattle.sk_dag.specs.Graph.{Graph}
use Rattle.sk_heap.specs.declared.slot.Slot.{Slot}
use Rattle.sk_prog.specs.declared.value.Value.{Value}
use Rattle.sk_model.specs.Heap as model
use Rattle.sk_sym_state.specs.declared.setting.Setting.{Setting}
use Rattle.sk_sym_state.specs.declared.state.SymState.{SymState}
use Rattle.sk_sym_state.specs.Seen.{IsWorth}
use Rattle.sk_sym_state.specs.Meaning.{DoesOn}
use Rattle.sk_sym_stores.specs.declared.location.Location.{Location}
use Rattle.sk_sym_stores.specs.Locations.{LocationIs}

-- where something is stored, and what
abbrev pub IsStored : List Slot → Location → Shape → Graph → Env → model.Location × Value → Type 0
IsStored heap l r g e p = LocationIs g e heap l p.0 × IsWorth g e heap r p.1

-- the run stores a value at a location
pub record Stores (x : Setting) (d0 d1 : Graph) (s0 s1 : SymState) (span : Span) (l : Location) (r : Shape) : Type 0 where
  pub does : DoesOn x d0 d1 s0 s1 (IsStored s0.heap l r) (λ g e (u : Unit {0}). ⊤) (λ e p. model.store span p.0 p.1)
