-- What steps do with shapes that are given.
use Rattle.std.specs.Prelude.{◌≡◌, ℕ, ◌==◌, ◌<◌, ◌≤◌, Bool, false, IsTrue, List, length, Option, Some, None, slice_get}
use Rattle.sk_dag.specs.declared.env.Env.{Env}
use Rattle.sk_dag.specs.declared.shape.Shape.{Shape}
use Rattle.sk_dag.specs.Graph.{Graph}
use Rattle.sk_arr.specs.Shapes.{Stands}
use Rattle.sk_heap.specs.declared.slot.Slot.{Slot}
use Rattle.sk_prog.specs.declared.ids.StructId.{StructId}
use Rattle.sk_prog.specs.declared.value.Value.{Value}
use Rattle.sk_base.specs.declared.span.Span.{Span}
use Rattle.sk_model.specs.Step.{State, Comp, pure, fail, skip}
use Rattle.sk_model.specs.Eval.{choose}
use Rattle.sk_model.specs.Exec.{Flow, Onward}
use Rattle.sk_sym_state.specs.declared.setting.Setting.{Setting}
use Rattle.sk_sym_state.specs.declared.state.SymState.{SymState}
use Rattle.sk_sym_state.specs.Seen.{IsWorth}
use Rattle.sk_sym_state.specs.Shows.{Shows, HasFailed}
use Rattle.sk_sym_state.specs.Meaning.{IsLater, Moves, DoesOn}

abbrev pub same_kind : StructId → Option StructId → Bool
same_kind s None = false
same_kind s (Some kind) = kind.index == s.index

-- whether the slot with this number is there, by the structs of the slots, and one of this struct
abbrev pub is_kind : List StructId → StructId → ℕ → Bool
is_kind structs s n = same_kind s (slice_get structs n)

-- this slot is the first from a place on that is one of the struct
pub record IsNextOf (structs : List StructId) (s : StructId) (from slot : ℕ) : Type 0 where
  pub within : slot < length structs
  pub up : from ≤ slot
  pub kind : IsTrue (is_kind structs s slot)
  pub first : (n : ℕ) → from ≤ n → n < slot → is_kind structs s n ≡ false

-- no slot from a place on is one of the struct
pub record HasNoneFrom (structs : List StructId) (s : StructId) (from : ℕ) : Type 0 where
  pub none : (n : ℕ) → from ≤ n → is_kind structs s n ≡ false

-- both shapes are worth these values
abbrev pub AreTwo : List Slot → Shape → Shape → Graph → Env → Value × Value → Type 0
AreTwo heap a b g e vs = IsWorth g e heap a vs.0 × IsWorth g e heap b vs.1

-- with something that is given the run goes on with what a shape is worth
pub record EvaluatesOn {A : Type 0} (x : Setting) (d0 d1 : Graph) (s0 s1 : SymState) (Given : Graph → Env → A → Type 0) (r : Shape) (k : Env → A → Comp Value) : Type 0 where
  pub does : DoesOn x d0 d1 s0 s1 Given (λ g e. IsWorth g e s1.heap r) k
  pub there : Stands d1 r

-- goes on where the bit holds, and else fails, or is skipped
abbrev pub asserted : Span → Value → Comp Flow
asserted span = choose span (pure Onward) (fail span)

abbrev pub assumed : Span → Value → Comp Flow
assumed span = choose span (pure Onward) (skip span)

-- the run fails wherever it goes on
pub record FailsHere (x : Setting) (d0 d1 : Graph) (s0 s1 : SymState) : Type 0 where
  pub moves : Moves x d0 d1 s0 s1
  pub fails : (g : Graph) (e : Env) (at : State) → IsLater x d1 g e → Shows g e s0 at → HasFailed g e s1
