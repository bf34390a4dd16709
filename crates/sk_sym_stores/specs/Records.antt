-- Records that are made with given fields.
use Rattle.std.specs.Prelude.{◌≡◌, ℕ, List, [], ◌∷◌, All}
use Rattle.sk_base.specs.declared.span.Span.{Span}
use Rattle.sk_dag.specs.declared.env.Env.{Env}
use Rattle.sk_dag.specs.declared.shape.Shape.{Shape}
use Rattle.sk_dag.specs.Graph.{Graph}
use Rattle.sk_arr.specs.Shapes.{Stands}
use Rattle.sk_heap.specs.declared.slot.Slot.{Slot}
use Rattle.sk_prog.specs.declared.value.Value.{Value}
use Rattle.sk_model.specs.Step.{Comp, ◌>>=◌, pure}
use Rattle.sk_model.specs.Heap.{write_field}
use Rattle.sk_sym_state.specs.declared.setting.Setting.{Setting}
use Rattle.sk_sym_state.specs.declared.state.SymState.{SymState}
use Rattle.sk_sym_state.specs.Seen.{IsWorth}
use Rattle.sk_sym_state.specs.Meaning.{Does}
use Rattle.sk_sym_stores.specs.declared.creation.Init.{Init}

-- the field, and what it is set to
abbrev pub InitIs : Graph → Env → List Slot → Init → ℕ × Value → Type 0
InitIs g e heap i f = (f.0 ≡ i.field) × IsWorth g e heap i.value f.1

-- one by one
abbrev pub InitsAre : Graph → Env → List Slot → List Init → List (ℕ × Value) → Type 0
InitsAre g e heap [] [] = Unit {0}
InitsAre g e heap [] (f ∷ fs) = ⊥
InitsAre g e heap (i ∷ is) [] = ⊥
InitsAre g e heap (i ∷ is) (f ∷ fs) = InitIs g e heap i f × InitsAre g e heap is fs

pub record InitsStand (d : Graph) (list : List Init) : Type 0 where
  pub each : All (λ i. Stands d i.value) list

-- fields that are set to the values of expressions, one by one
pub record EvaluateFields (x : Setting) (d0 d1 : Graph) (s0 s1 : SymState) (list : List Init) (m : Env → Comp (List (ℕ × Value))) : Type 0 where
  pub does : Does x d0 d1 s0 s1 (λ g e. InitsAre g e s1.heap list) m
  pub there : InitsStand d1 list

-- a record and its fields
abbrev pub AreSet : List Slot → Shape → List Init → Graph → Env → Value × List (ℕ × Value) → Type 0
AreSet heap reference list g e p = IsWorth g e heap reference p.0 × InitsAre g e heap list p.1

-- its fields are set, one after another
abbrev pub set_all : Span → Value → List (ℕ × Value) → Comp (Unit {0})
set_all span v [] = pure tt
set_all span v (f ∷ fs) = write_field span f.0 f.1 v >>= (λ u. set_all span v fs)

-- this is the first of a list, and what follows it
pub record IsFirstInit (list : List Init) (field : ℕ) (value : Shape) (more : List Init) : Type 0 where
  pub front : list ≡ record { field = field; value = value } ∷ more
