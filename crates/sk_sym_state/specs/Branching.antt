-- Two ways from a state, by a condition: the first where it holds and the second where it does not.
use Rattle.std.specs.Prelude.{◌≡◌, ℕ, ◌≤◌, true, false, not, ◌&&◌, ◌||◌, List, length, take, if◌then◌else◌, ◌⊎◌}
use Rattle.sk_dag.specs.declared.env.Env.{Env}
use Rattle.sk_dag.specs.declared.node.BoolId.{BoolId}
use Rattle.sk_dag.specs.declared.shape.Shape.{Shape}
use Rattle.sk_dag.specs.Graph.{Graph, Grows, HasBool}
use Rattle.sk_dag.specs.Eval.{bool_value, Keeps}
use Rattle.sk_prog.specs.declared.value.Value.{Value}
use Rattle.sk_prog.specs.declared.value.Value.TheVariants as value
use Rattle.sk_arr.specs.Shapes.{AllStand}
use Rattle.sk_arr.specs.Answers.{shapes_value}
use Rattle.sk_sym_state.specs.Stands.{StateStands}
use Rattle.sk_sym_state.specs.Shows.{AreFrontOf, AreAlong}
use Rattle.sk_sym_state.specs.declared.setting.Setting.{Setting}
use Rattle.sk_sym_state.specs.declared.branch.Fork.{Fork}
use Rattle.sk_sym_state.specs.declared.branch.Side.{Side}
use Rattle.sk_sym_state.specs.declared.state.SymState.{SymState}

-- where a branch began, and where its two ways did: the ways share the path
pub record ForkStands (d : Graph) (fork : Fork) : Type 0 where
  pub path : HasBool d.nodes fork.path
  pub first : HasBool d.nodes fork.first
  pub second : HasBool d.nodes fork.second
  pub whole : (g : Graph) → Grows d g → (e : Env) → bool_value g e fork.path ≡ (bool_value g e fork.first || bool_value g e fork.second)

-- what waits while one way is gone stands too
pub record SideStands (d : Graph) (side : Side) : Type 0 where
  pub fork : ForkStands d side.fork
  pub path : HasBool d.nodes side.path
  pub slots : AllStand d side.slots

-- the state goes the first way, and the second waits with the same variables
pub record IsForked (x : Setting) (d0 d1 : Graph) (s0 s1 : SymState) (cond : BoolId) (side : Side) : Type 0 where
  pub keeps : Keeps d0 d1
  pub along : AreAlong s0 s1
  pub stands : StateStands d1 x.expanded.now.prog s1
  pub waits : SideStands d1 side
  pub here : (g : Graph) (e : Env) → Grows d1 g → bool_value g e s1.path ≡ (bool_value g e s0.path && bool_value g e cond)
  pub there : (g : Graph) (e : Env) → Grows d1 g → bool_value g e side.path ≡ (bool_value g e s0.path && not (bool_value g e cond))
  pub slots : (g : Graph) (e : Env) (values : List Value) → Grows d1 g → AreFrontOf g e s0.heap s0.frame.slots values → AreFrontOf g e s1.heap s1.frame.slots values
  pub others : (g : Graph) (e : Env) (values : List Value) → Grows d1 g → AreFrontOf g e s0.heap s0.frame.slots values → AreFrontOf g e s1.heap side.slots values
  pub cursor : s1.cursor ≡ s0.cursor
  pub other_cursor : side.cursor ≡ s0.cursor

-- the state and what waits change places
pub record AreTurned (s0 s1 : SymState) (waits gone : Side) : Type 0 where
  pub along : AreAlong s0 s1
  pub fork : gone.fork ≡ waits.fork
  pub path : s1.path ≡ waits.path
  pub slots : s1.frame.slots ≡ waits.slots
  pub old_path : gone.path ≡ s0.path
  pub old_slots : gone.slots ≡ s0.frame.slots
  pub cursor : s1.cursor ≡ waits.cursor
  pub old_cursor : gone.cursor ≡ s0.cursor

-- of one way each variable that both have: of the first where the condition holds, else of the second
pub record AreMerged (d : Graph) (cond : BoolId) (first second made : List Shape) : Type 0 where
  pub stand : AllStand d made
  pub value : (g : Graph) → Grows d g → (e : Env) → shapes_value g e made ≡ take (length made) (if bool_value g e cond then shapes_value g e first else shapes_value g e second)

-- shapes that are the front of others in what they are seen as
pub record AreFrontIn (g : Graph) (e : Env) (list made : List Shape) : Type 0 where
  pub front : shapes_value g e made ≡ take (length made) (shapes_value g e list)

-- those of the first way where the condition holds and that way goes on, and those of the second where it does not
pub record AreOneOf (d : Graph) (cond : BoolId) (gone : Side) (path : BoolId) (slots made : List Shape) : Type 0 where
  pub stand : AllStand d made
  pub first : (g : Graph) (e : Env) → Grows d g → bool_value g e cond ≡ true → bool_value g e gone.path ≡ true → AreFrontIn g e gone.slots made
  pub second : (g : Graph) (e : Env) → Grows d g → bool_value g e cond ≡ false → bool_value g e path ≡ true → AreFrontIn g e slots made

-- where a way goes on to its end, its cursor is at or before this one, which is that of one way
pub record IsCursorBehind (d : Graph) (gone : BoolId) (gone_cursor : ℕ) (path : BoolId) (path_cursor cursor : ℕ) : Type 0 where
  pub first : (g : Graph) (e : Env) → Grows d g → bool_value g e gone ≡ true → gone_cursor ≤ cursor
  pub second : (g : Graph) (e : Env) → Grows d g → bool_value g e path ≡ true → path_cursor ≤ cursor
  pub one : (cursor ≡ gone_cursor) ⊎ (cursor ≡ path_cursor)

-- the two ways come together again: the one that was gone first, and the state
pub record AreJoined (x : Setting) (d0 d1 : Graph) (s0 s1 : SymState) (cond : BoolId) (gone : Side) : Type 0 where
  pub keeps : Keeps d0 d1
  pub along : AreAlong s0 s1
  pub stands : StateStands d1 x.expanded.now.prog s1
  pub path : (g : Graph) (e : Env) → Grows d1 g → bool_value g e s1.path ≡ (bool_value g e gone.path || bool_value g e s0.path)
  pub first : (g : Graph) (e : Env) (values : List Value) → Grows d1 g → bool_value g e cond ≡ true → bool_value g e gone.path ≡ true → AreFrontOf g e s0.heap gone.slots values → AreFrontOf g e s1.heap s1.frame.slots values
  pub second : (g : Graph) (e : Env) (values : List Value) → Grows d1 g → bool_value g e cond ≡ false → bool_value g e s0.path ≡ true → AreFrontOf g e s0.heap s0.frame.slots values → AreFrontOf g e s1.heap s1.frame.slots values
  pub cursor : IsCursorBehind d1 gone.path gone.cursor s0.path s0.cursor s1.cursor

-- a value that is this bit
abbrev pub IsBit : BoolId → Graph → Env → Value → Type 0
IsBit cond g e v = v ≡ value.Bit (bool_value g e cond)
