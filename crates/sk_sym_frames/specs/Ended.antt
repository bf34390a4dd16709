-- What a call gives that has ended: its result and the final values of its `ref` parameters, in every graph that the
-- graph grows to, in every environment, in every heap.
use Rattle.std.specs.Prelude.{◌≡◌, true, false, List, Option, Some, None, if◌then◌else◌}
use Rattle.sk_dag.specs.declared.env.Env.{Env}
use Rattle.sk_dag.specs.declared.node.BoolId.{BoolId}
use Rattle.sk_dag.specs.declared.shape.Shape.{Shape}
use Rattle.sk_dag.specs.Graph.{Graph, Grows}
use Rattle.sk_dag.specs.Eval.{bool_value}
use Rattle.sk_arr.specs.Shapes.{AllStand}
use Rattle.sk_arr.specs.Answers.{shapes_value}
use Rattle.sk_prog.specs.declared.ty.Ty.{Ty}
use Rattle.sk_prog.specs.declared.value.Value.{Value}
use Rattle.sk_prog.specs.declared.prog.Fun.{Fun}
use Rattle.sk_prog.specs.declared.prog.ParamDef.{ParamDef}
use Rattle.sk_heap.specs.declared.slot.Slot.{Slot}
use Rattle.sk_model.specs.Exec.{Onward, Returns}
use Rattle.sk_model.specs.Run.{result_of, refs_from}
use Rattle.sk_sym_state.specs.declared.state.Ended.{Ended}
use Rattle.sk_sym_state.specs.Seen.{IsWorth, AreWorth}
use Rattle.sk_sym_state.specs.Stands.{AnyStands, EndedStands}
use Rattle.sk_sym_state.specs.Shows.{AreFrontOf, ResultIs, EndedIs}

-- a shape that is there is worth the value that is, and there are both or neither
abbrev pub AnyWorth : Graph → Env → List Slot → Option Shape → Option Value → Type 0
AnyWorth g e heap None None = Unit {0}
AnyWorth g e heap None (Some v) = ⊥
AnyWorth g e heap (Some r) None = ⊥
AnyWorth g e heap (Some r) (Some v) = IsWorth g e heap r v

-- the shapes are worth what the `ref` parameters hold, where the first variables hold what these slots are worth
pub record AreRefs (params : List ParamDef) (slots made : List Shape) : Type 0 where
  pub stand : (d : Graph) → AllStand d slots → AllStand d made
  pub worth : (d : Graph) → AllStand d slots → (g : Graph) (e : Env) (heap : List Slot) (values : List Value) → AreFrontOf g e heap slots values → AreWorth g e heap made (refs_from 0 params values)

-- it is the result of a function with this result type that returns this value
pub record IsResult (d : Graph) (t : Option Ty) (value r : Option Shape) : Type 0 where
  pub stands : AnyStands d r
  pub worth : (g : Graph) (e : Env) (heap : List Slot) (v : Option Value) → Grows d g → AnyWorth g e heap value v → ResultIs g e heap r (result_of t (Returns v))

-- it is what a call gives that returns this value, where its first variables hold what these slots are worth
pub record IsEnd (d : Graph) (fun : Fun) (slots : List Shape) (value : Option Shape) (r : Ended) : Type 0 where
  pub stands : EndedStands d r
  pub worth : (g : Graph) (e : Env) (heap : List Slot) (v : Option Value) (values : List Value) → Grows d g → AnyWorth g e heap value v → AreFrontOf g e heap slots values → EndedIs g e heap (Some r) (result_of fun.result (Returns v)) (refs_from 0 fun.params values)

-- the first where the condition holds, and else the second
pub record IsEitherResult (d : Graph) (c : BoolId) (a b r : Option Shape) : Type 0 where
  pub stands : AnyStands d r
  pub first : (g : Graph) (e : Env) (heap : List Slot) (v : Option Value) → Grows d g → bool_value g e c ≡ true → ResultIs g e heap a v → ResultIs g e heap r v
  pub second : (g : Graph) (e : Env) (heap : List Slot) (v : Option Value) → Grows d g → bool_value g e c ≡ false → ResultIs g e heap b v → ResultIs g e heap r v

pub record AreEither (d : Graph) (c : BoolId) (a b made : List Shape) : Type 0 where
  pub stand : AllStand d made
  pub value : (g : Graph) (e : Env) → Grows d g → shapes_value g e made ≡ (if bool_value g e c then shapes_value g e a else shapes_value g e b)

pub record IsEither (d : Graph) (c : BoolId) (a b r : Ended) : Type 0 where
  pub stands : EndedStands d r
  pub first : (g : Graph) (e : Env) (heap : List Slot) (v : Option Value) (refs : List Value) → Grows d g → bool_value g e c ≡ true → EndedIs g e heap (Some a) v refs → EndedIs g e heap (Some r) v refs
  pub second : (g : Graph) (e : Env) (heap : List Slot) (v : Option Value) (refs : List Value) → Grows d g → bool_value g e c ≡ false → EndedIs g e heap (Some b) v refs → EndedIs g e heap (Some r) v refs

-- what is given now where the condition holds, and else what was given before
pub record IsLatest (d : Graph) (c : BoolId) (now : Ended) (before : Option Ended) (r : Ended) : Type 0 where
  pub stands : EndedStands d r
  pub first : (g : Graph) (e : Env) (heap : List Slot) (v : Option Value) (refs : List Value) → Grows d g → bool_value g e c ≡ true → EndedIs g e heap (Some now) v refs → EndedIs g e heap (Some r) v refs
  pub second : (g : Graph) (e : Env) (heap : List Slot) (v : Option Value) (refs : List Value) → Grows d g → bool_value g e c ≡ false → EndedIs g e heap before v refs → EndedIs g e heap (Some r) v refs

-- What a call gives: what it has returned, where it has; and where its body has come to its end, what a call does that
-- ends with these variables and returns nothing.
pub record IsGiven (d : Graph) (fun : Fun) (path : BoolId) (slots : List Shape) (returned : BoolId) (ended : Option Ended) (r : Ended) : Type 0 where
  pub stands : EndedStands d r
  pub here : (g : Graph) (e : Env) (heap : List Slot) (values : List Value) → Grows d g → bool_value g e path ≡ true → bool_value g e returned ≡ false → AreFrontOf g e heap slots values → EndedIs g e heap (Some r) (result_of fun.result Onward) (refs_from 0 fun.params values)
  pub before : (g : Graph) (e : Env) (heap : List Slot) (v : Option Value) (refs : List Value) → Grows d g → bool_value g e returned ≡ true → EndedIs g e heap ended v refs → EndedIs g e heap (Some r) v refs
