-- What shapes are worth, where each slot that they name holds.
use Rattle.std.specs.Prelude.{◌≡◌, List}
use Rattle.sk_dag.specs.declared.env.Env.{Env}
use Rattle.sk_dag.specs.declared.shape.Shape.{Shape}
use Rattle.sk_dag.specs.Graph.{Graph}
use Rattle.sk_arr.specs.Answers.{shapes_value}
use Rattle.sk_prog.specs.declared.value.Value.{Value}
use Rattle.sk_heap.specs.declared.slot.Slot.{Slot}
use Rattle.sk_heap_laws.specs.Values.{holds_in, value_in, values_in, AllLive, ShapeLive}

pub record IsWorth (g : Graph) (e : Env) (heap : List Slot) (r : Shape) (v : Value) : Type 0 where
  pub value : value_in g e heap r ≡ v
  pub live : ShapeLive g e heap r

abbrev pub ShapesLive : Graph → Env → List Slot → List Shape → Type 0
ShapesLive g e heap list = AllLive (holds_in g e heap) (shapes_value g e list)

-- one by one
pub record AreWorth (g : Graph) (e : Env) (heap : List Slot) (list : List Shape) (vs : List Value) : Type 0 where
  pub value : values_in g e heap list ≡ vs
  pub live : ShapesLive g e heap list
