-- Shapes that are 0.
use Rattle.std.specs.Prelude.{◌≡◌, ℕ, Bool, List, map}
use Rattle.sk_dag.specs.declared.env.Env.{Env}
use Rattle.sk_dag.specs.declared.shape.Shape.{Shape}
use Rattle.sk_dag.specs.declared.shape.Seen.{Seen}
use Rattle.sk_dag.specs.Graph.{Graph, Grows}
use Rattle.sk_dag.specs.EvalShape.{shape_value}
use Rattle.sk_arr.specs.Shapes.{blank, Stands, AllStand, SlotsPass, AllSlotsPass}
use Rattle.sk_arr.specs.Answers.{shapes_value}

-- the shape is of this form, names no slot, and is seen as the form
pub record IsZero (g : Graph) (form : Seen) (r : Shape) : Type 0 where
  pub stands : Stands g r
  pub formed : blank r ≡ form
  pub unnamed : (test : ℕ → Bool) → SlotsPass test r
  pub value : (h : Graph) → Grows g h → (e : Env) → shape_value h e r ≡ form

-- one by one
pub record AreZeros (g : Graph) (forms : List Seen) (list : List Shape) : Type 0 where
  pub stand : AllStand g list
  pub formed : map blank list ≡ forms
  pub unnamed : (test : ℕ → Bool) → AllSlotsPass test list
  pub value : (h : Graph) → Grows g h → (e : Env) → shapes_value h e list ≡ forms
