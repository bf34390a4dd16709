-- Which states may be handed in at a graph: each number is that of a node of its sort, the heap stands, and each shape
-- stands.
use Rattle.std.specs.Prelude.{◌≡◌, map, Option, Some, None}
use Rattle.sk_dag.specs.declared.shape.Shape.{Shape}
use Rattle.sk_dag.specs.Graph.{Graph, HasBool, HasCost}
use Rattle.sk_arr.specs.Shapes.{Stands, AllStand}
use Rattle.sk_prog.specs.declared.prog.Prog.{Prog}
use Rattle.sk_heap.specs.Answers.{struct_of}
use Rattle.sk_heap.specs.Heaps.{HeapStands}
use Rattle.sk_sym_state.specs.declared.state.Ended.{Ended}
use Rattle.sk_sym_state.specs.declared.state.Frame.{Frame}
use Rattle.sk_sym_state.specs.declared.state.SymState.{SymState}

abbrev pub AnyStands : Graph → Option Shape → Type 0
AnyStands d None = Unit {0}
AnyStands d (Some r) = Stands d r

pub record EndedStands (d : Graph) (ended : Ended) : Type 0 where
  pub result : AnyStands d ended.result
  pub refs : AllStand d ended.refs

abbrev pub AnyEndedStands : Graph → Option Ended → Type 0
AnyEndedStands d None = Unit {0}
AnyEndedStands d (Some ended) = EndedStands d ended

pub record FrameStands (d : Graph) (frame : Frame) : Type 0 where
  pub slots : AllStand d frame.slots
  pub returned : HasBool d.nodes frame.returned
  pub ended : AnyEndedStands d frame.ended

pub record StateStands (d : Graph) (prog : Prog) (s : SymState) : Type 0 where
  pub path : HasBool d.nodes s.path
  pub failed : HasBool d.nodes s.failed
  pub skipped : HasBool d.nodes s.skipped
  pub cost : HasCost d.nodes s.cost
  pub heap : HeapStands d prog s.heap
  pub structs : map struct_of s.heap ≡ s.structs
  pub frame : FrameStands d s.frame
