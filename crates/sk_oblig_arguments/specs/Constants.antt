-- Values as shapes that are worth the same in each environment.
use Rattle.std.specs.Prelude.{List, []}
use Rattle.sk_dag.specs.declared.env.Env.{Env}
use Rattle.sk_dag.specs.declared.shape.Shape.{Shape}
use Rattle.sk_dag.specs.Graph.{Graph, Grows}
use Rattle.sk_arr.specs.Shapes.{Stands, AllStand}
use Rattle.sk_prog.specs.declared.value.Value.{Value}
use Rattle.sk_sym_state.specs.Seen.{IsWorth, AreWorth}

-- the shape is worth this value, whatever the environment
pub record IsConstant (d : Graph) (v : Value) (r : Shape) : Type 0 where
  pub stands : Stands d r
  pub worth : (g : Graph) (e : Env) → Grows d g → IsWorth g e [] r v

-- one by one
pub record AreConstant (d : Graph) (vs : List Value) (made : List Shape) : Type 0 where
  pub stand : AllStand d made
  pub worth : (g : Graph) (e : Env) → Grows d g → AreWorth g e [] made vs
