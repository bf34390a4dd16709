-- What the operators answer: a shape, and a node that holds where they fail.
use Rattle.std.specs.Prelude.{◌≡◌, ℕ, Bool, false, List}
use Rattle.sk_base.specs.declared.span.Span.{Span}
use Rattle.sk_dag.specs.declared.env.Env.{Env}
use Rattle.sk_dag.specs.declared.node.BoolId.{BoolId}
use Rattle.sk_dag.specs.declared.node.WordId.{WordId}
use Rattle.sk_dag.specs.declared.shape.Shape.{Shape}
use Rattle.sk_dag.specs.declared.shape.Shape.TheVariants as shape
use Rattle.sk_dag.specs.Graph.{Graph, Grows, HasBool}
use Rattle.sk_dag.specs.Eval.{bool_value}
use Rattle.sk_dag.specs.EvalShape.{shape_value}
use Rattle.sk_arr.specs.Shapes.{Stands, SlotsPass, AllSlotsPass}
use Rattle.sk_arr.specs.Answers.{shapes_value, IsSliced}
use Rattle.sk_prog.specs.declared.value.Value.{Value}
use Rattle.sk_model.specs.Step.{Comp}
use Rattle.sk_heap_laws.specs.Values.{value_of, IsLive, AllLive}
use Rattle.sk_sym_operators.specs.Worth.{worth, answered}

-- What is done goes on with the value of a shape that names no slot, and fails where a node holds, in every graph that
-- this one grows to, in every environment.
pub record IsComputed (g : Graph) (m : Graph → Env → Span → Comp Value) (r : Shape) (fails : BoolId) : Type 0 where
  pub stands : Stands g r
  pub there : HasBool g.nodes fails
  pub unnamed : (test : ℕ → Bool) → SlotsPass test r
  pub live : (h : Graph) (e : Env) (holds : ℕ → Bool) → IsLive holds (shape_value h e r)
  pub value : (h : Graph) → Grows g h → (e : Env) (place : ℕ → ℕ) (span : Span) → m h e span ≡ answered span (bool_value h e fails) (value_of place (shape_value h e r))

-- What is done with what these shapes are worth goes on with what a shape is worth, and fails where a node holds. The
-- shape names only slots that they name, and is live where they are and it does not fail.
pub record IsOperated (g : Graph) (args : List Shape) (m : Graph → Env → (ℕ → Bool) → Span → Comp Value) (r : Shape) (fails : BoolId) : Type 0 where
  pub stands : Stands g r
  pub there : HasBool g.nodes fails
  pub named : (test : ℕ → Bool) → AllSlotsPass test args → SlotsPass test r
  pub live : (h : Graph) → Grows g h → (e : Env) (holds : ℕ → Bool) → AllLive holds (shapes_value h e args) → bool_value h e fails ≡ false → IsLive holds (shape_value h e r)
  pub value : (h : Graph) → Grows g h → (e : Env) (holds : ℕ → Bool) → AllLive holds (shapes_value h e args) → (span : Span) → m h e holds span ≡ answered span (bool_value h e fails) (worth holds h e r)

-- the array of so many elements from the one on that an index names, and whether it leaves the range
pub record IsSlice (g : Graph) (list : List Shape) (from : WordId) (count : ℕ) (r : Shape) (outside : BoolId) : Type 0 where
  pub parts : List Shape
  pub whole : r ≡ shape.Array parts
  pub sliced : IsSliced g list from count parts outside
