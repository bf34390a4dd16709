-- What shapes are worth in a heap that has grown.
use Rattle.std.proofs.Common.{List, ◌∙◌}
use Rattle.sk_dag.specs.declared.env.Env.{Env}
use Rattle.sk_dag.specs.declared.shape.Shape.{Shape}
use Rattle.sk_dag.specs.Graph.{Graph}
use Rattle.sk_prog.specs.declared.value.Value.{Value}
use Rattle.sk_heap.specs.declared.slot.Slot.{Slot}
use Rattle.sk_heap_laws.specs.Heaps.{HeapGrows}
use Rattle.sk_heap_laws.proofs.Grown.{value_grows, values_grow, shape_live_grows, all_live_grows}
use Rattle.sk_arr.specs.Answers.{shapes_value}
use Rattle.sk_sym_state.specs.Seen.{IsWorth, AreWorth}

pub IsWorth-grown : {g : Graph} {e : Env} {a b : List Slot} {r : Shape} {v : Value} → HeapGrows g e a b → IsWorth g e a r v → IsWorth g e b r v
IsWorth-grown {g} {e} {r = r} h w = record { value = value_grows g e h r w.live ∙ w.value; live = shape_live_grows g e h r w.live }

pub AreWorth-grown : {g : Graph} {e : Env} {a b : List Slot} {list : List Shape} {vs : List Value} → HeapGrows g e a b → AreWorth g e a list vs → AreWorth g e b list vs
AreWorth-grown {g} {e} {list = list} h w = record { value = values_grow g e h list w.live ∙ w.value; live = all_live_grows g e h (shapes_value g e list) w.live }
