-- What a part of the code does with the state, against what the part of the program does that it stands for: in every
-- graph that the graph grows to, in every environment whose choice is in range.
use Rattle.std.specs.Prelude.{◌≡◌, true, false}
use Rattle.std.specs.Option.{option_copied}
use Rattle.sk_dag.specs.declared.env.Env.{Env}
use Rattle.sk_dag.specs.declared.node.BoolId.{BoolId}
use Rattle.sk_dag.specs.declared.shape.Shape.{Shape}
use Rattle.sk_dag.specs.Graph.{Graph, Grows}
use Rattle.sk_dag.specs.Eval.{bool_value, Keeps}
use Rattle.sk_prog.specs.declared.value.Value.{Value}
use Rattle.sk_model.specs.declared.expanded.Choice.{Choice}
use Rattle.sk_model.specs.Step.{State, Comp}
use Rattle.sk_model.specs.Exec.{Flow}
use Rattle.sk_model.specs.Fill.{InRange}
use Rattle.sk_sym_folds.specs.Chosen.{chosen_values}
use Rattle.sk_heap_laws.specs.Heaps.{StructsGrow}
use Rattle.sk_sym_state.specs.Seen.{IsWorth}
use Rattle.sk_arr.specs.Shapes.{Stands}
use Rattle.sk_sym_state.specs.Stands.{StateStands}
use Rattle.sk_sym_state.specs.Shows.{Shows, HasFailed, HasSkipped, IsHere, Comes, Stays, SeesFlow, Sees}
use Rattle.sk_sym_state.specs.declared.setting.Setting.{Setting}
use Rattle.sk_sym_state.specs.declared.state.SymState.{SymState}

-- the choice of an environment, unless one is given
abbrev pub choice_at : Setting → Env → Choice
choice_at x e = record { values = chosen_values (option_copied x.choice) e }

-- a graph to which this one grows, and an environment whose choice is in range
pub record IsLater (x : Setting) (d g : Graph) (e : Env) : Type 0 where
  pub grows : Grows d g
  pub range : InRange x.expanded.now (choice_at x e)

-- The graph keeps what it had, the new state stands, the slots of the heap have the structs that they had, where the run goes on
-- the heap has grown, and where it does not all stays.
pub record Moves (x : Setting) (d0 d1 : Graph) (s0 s1 : SymState) : Type 0 where
  pub keeps : Keeps d0 d1
  pub stands : StateStands d1 x.expanded.now.prog s1
  pub structs : StructsGrow s0.heap s1.heap
  pub comes : (g : Graph) (e : Env) → IsLater x d1 g e → IsHere g e s0 → Comes g e s0 s1
  pub stays : (g : Graph) (e : Env) → IsLater x d1 g e → bool_value g e s0.path ≡ false → Stays g e s0 s1

-- and where it goes on, it does what a statement does
pub record Executes (x : Setting) (d0 d1 : Graph) (s0 s1 : SymState) (m : Env → Comp Flow) : Type 0 where
  pub moves : Moves x d0 d1 s0 s1
  pub runs : (g : Graph) (e : Env) (at : State) → IsLater x d1 g e → Shows g e s0 at → SeesFlow g e x.fun.now s1 (m e at)

-- or it goes on with something of which this holds
pub record Does {A : Type 0} (x : Setting) (d0 d1 : Graph) (s0 s1 : SymState) (Is : Graph → Env → A → Type 0) (m : Env → Comp A) : Type 0 where
  pub moves : Moves x d0 d1 s0 s1
  pub runs : (g : Graph) (e : Env) (at : State) → IsLater x d1 g e → Shows g e s0 at → Sees g e s1 (Is g e) (m e at)

-- it does so with something that is given
pub record ExecutesOn {A : Type 0} (x : Setting) (d0 d1 : Graph) (s0 s1 : SymState) (Given : Graph → Env → A → Type 0) (k : Env → A → Comp Flow) : Type 0 where
  pub moves : Moves x d0 d1 s0 s1
  pub runs : (g : Graph) (e : Env) (a : A) (at : State) → IsLater x d1 g e → Given g e a → Shows g e s0 at → SeesFlow g e x.fun.now s1 (k e a at)

pub record DoesOn {A B : Type 0} (x : Setting) (d0 d1 : Graph) (s0 s1 : SymState) (Given : Graph → Env → A → Type 0) (Is : Graph → Env → B → Type 0) (k : Env → A → Comp B) : Type 0 where
  pub moves : Moves x d0 d1 s0 s1
  pub runs : (g : Graph) (e : Env) (a : A) (at : State) → IsLater x d1 g e → Given g e a → Shows g e s0 at → Sees g e s1 (Is g e) (k e a at)

-- a shape that is worth the value of an expression
pub record Evaluates (x : Setting) (d0 d1 : Graph) (s0 s1 : SymState) (r : Shape) (m : Env → Comp Value) : Type 0 where
  pub does : Does x d0 d1 s0 s1 (λ g e. IsWorth g e s1.heap r) m
  pub there : Stands d1 r

-- the run fails where a node holds, and goes on as it was where it does not
pub record FailsWhere (x : Setting) (d0 d1 : Graph) (s0 s1 : SymState) (fails : BoolId) : Type 0 where
  pub moves : Moves x d0 d1 s0 s1
  pub heap : s1.heap ≡ s0.heap
  pub good : (g : Graph) (e : Env) (at : State) → IsLater x d1 g e → bool_value g e fails ≡ false → Shows g e s0 at → Shows g e s1 at
  pub bad : (g : Graph) (e : Env) (at : State) → IsLater x d1 g e → bool_value g e fails ≡ true → Shows g e s0 at → HasFailed g e s1

-- or it is skipped there
pub record SkipsWhere (x : Setting) (d0 d1 : Graph) (s0 s1 : SymState) (skips : BoolId) : Type 0 where
  pub moves : Moves x d0 d1 s0 s1
  pub heap : s1.heap ≡ s0.heap
  pub good : (g : Graph) (e : Env) (at : State) → IsLater x d1 g e → bool_value g e skips ≡ false → Shows g e s0 at → Shows g e s1 at
  pub bad : (g : Graph) (e : Env) (at : State) → IsLater x d1 g e → bool_value g e skips ≡ true → Shows g e s0 at → HasSkipped g e s1
