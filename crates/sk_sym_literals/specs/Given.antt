-- What shapes are worth that do not depend on a run: in every graph that this one grows to, in every environment,
-- wherever the slots of the heap have their places.
use Rattle.std.specs.Prelude.{◌≡◌, ℕ, Bool, List, map}
use Rattle.sk_dag.specs.declared.env.Env.{Env}
use Rattle.sk_dag.specs.declared.shape.Shape.{Shape}
use Rattle.sk_dag.specs.Graph.{Graph, Grows}
use Rattle.sk_dag.specs.EvalShape.{shape_value}
use Rattle.sk_arr.specs.Shapes.{Stands, AllStand, SlotsPass, AllSlotsPass}
use Rattle.sk_arr.specs.Answers.{shapes_value}
use Rattle.sk_prog.specs.declared.value.Value.{Value}
use Rattle.sk_model.specs.declared.expanded.Choice.{Choice}
use Rattle.sk_model.specs.declared.expanded.Expanded.{Expanded}
use Rattle.sk_model.specs.Fill.{InRange}
use Rattle.sk_model.specs.Values.{lengthened}
use Rattle.sk_heap_laws.specs.Values.{value_of, IsLive, AllLive}

-- a shape that is worth a value and names no slot
pub record IsGiven (g : Graph) (v : Value) (r : Shape) : Type 0 where
  pub stands : Stands g r
  pub unnamed : (test : ℕ → Bool) → SlotsPass test r
  pub live : (h : Graph) (e : Env) (holds : ℕ → Bool) → IsLive holds (shape_value h e r)
  pub value : (h : Graph) → Grows g h → (e : Env) (place : ℕ → ℕ) → value_of place (shape_value h e r) ≡ v

-- a shape that is worth what is made of the value of another, and names no slot but those of the other
pub record IsMade (g : Graph) (a : Shape) (f : Value → Value) (r : Shape) : Type 0 where
  pub stands : Stands g r
  pub named : (test : ℕ → Bool) → SlotsPass test a → SlotsPass test r
  pub live : (h : Graph) (e : Env) (holds : ℕ → Bool) → IsLive holds (shape_value h e a) → IsLive holds (shape_value h e r)
  pub value : (h : Graph) → Grows g h → (e : Env) (place : ℕ → ℕ) → value_of place (shape_value h e r) ≡ f (value_of place (shape_value h e a))

-- an array of these, and then of a shape as often as is wanting to so many
pub record IsLengthened (g : Graph) (list : List Shape) (zero : Shape) (count : ℕ) (r : Shape) : Type 0 where
  pub stands : Stands g r
  pub named : (test : ℕ → Bool) → AllSlotsPass test list → SlotsPass test zero → SlotsPass test r
  pub live : (h : Graph) (e : Env) (holds : ℕ → Bool) → AllLive holds (shapes_value h e list) → IsLive holds (shape_value h e zero) → IsLive holds (shape_value h e r)
  pub value : (h : Graph) (e : Env) (place : ℕ → ℕ) → value_of place (shape_value h e r) ≡ lengthened count (value_of place (shape_value h e zero)) (map (value_of place) (shapes_value h e list))

-- a shape that is worth a value of each choice that is in range, and names no slot
pub record IsChosen (g : Graph) (expanded : Expanded) (choice : Env → Choice) (v : Choice → Value) (r : Shape) : Type 0 where
  pub stands : Stands g r
  pub unnamed : (test : ℕ → Bool) → SlotsPass test r
  pub live : (h : Graph) (e : Env) (holds : ℕ → Bool) → IsLive holds (shape_value h e r)
  pub value : (h : Graph) → Grows g h → (e : Env) → InRange expanded (choice e) → (place : ℕ → ℕ) → value_of place (shape_value h e r) ≡ v (choice e)

-- one by one
pub record AreChosen (g : Graph) (expanded : Expanded) (choice : Env → Choice) (vs : Choice → List Value) (list : List Shape) : Type 0 where
  pub stand : AllStand g list
  pub unnamed : (test : ℕ → Bool) → AllSlotsPass test list
  pub live : (h : Graph) (e : Env) (holds : ℕ → Bool) → AllLive holds (shapes_value h e list)
  pub value : (h : Graph) → Grows g h → (e : Env) → InRange expanded (choice e) → (place : ℕ → ℕ) → map (value_of place) (shapes_value h e list) ≡ vs (choice e)
