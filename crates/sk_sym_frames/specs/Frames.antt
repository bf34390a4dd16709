-- A call begins in variables of its own and ends in those of its caller.
use Rattle.std.specs.Prelude.{◌≡◌, ℕ, ◌≤◌, true, false, List, None, ◌⊎◌}
use Rattle.sk_dag.specs.declared.env.Env.{Env}
use Rattle.sk_dag.specs.declared.node.BoolId.{BoolId}
use Rattle.sk_dag.specs.declared.shape.Shape.{Shape}
use Rattle.sk_dag.specs.Graph.{Graph, Grows, HasBool}
use Rattle.sk_dag.specs.Eval.{bool_value, Keeps}
use Rattle.sk_prog.specs.declared.prog.Fun.{Fun}
use Rattle.sk_sym_state.specs.declared.setting.Setting.{Setting}
use Rattle.sk_sym_state.specs.declared.state.Ended.{Ended}
use Rattle.sk_sym_state.specs.declared.state.SymState.{SymState}
use Rattle.sk_sym_state.specs.Stands.{FrameStands, StateStands}
use Rattle.sk_sym_frames.specs.declared.frame.Caller.{Caller}
use Rattle.sk_sym_frames.specs.Ended.{IsGiven}

-- what waits stands in the graph
pub record CallerStands (d : Graph) (caller : Caller) : Type 0 where
  pub path : HasBool d.nodes caller.path
  pub frame : FrameStands d caller.frame

-- The call has these variables and has not returned. What waits is the state of before.
pub record IsEntered (x : Setting) (d0 d1 : Graph) (s0 s1 : SymState) (args : List Shape) (caller : Caller) : Type 0 where
  pub keeps : Keeps d0 d1
  pub stands : StateStands d1 x.expanded.now.prog s1
  pub waits : CallerStands d1 caller
  pub was : caller ≡ record { path = s0.path; failed = s0.failed; skipped = s0.skipped; frame = s0.frame }
  pub now : s1 ≡ record s0 { frame = record { slots = args; returned = s1.frame.returned; ended = None; most = 0 } }
  pub fresh : (g : Graph) (e : Env) → Grows d1 g → bool_value g e s1.frame.returned ≡ false

-- A path behind a call that began at this caller and ended so: where the caller was not, and so the call is not, it does
-- not go on; where the call has come to its end or has returned it does; and where it has failed or was skipped in the
-- call it does not.
pub record GoesOnBehind (g : Graph) (e : Env) (caller : Caller) (s : SymState) (r : BoolId) : Type 0 where
  pub off : bool_value g e caller.path ≡ false → bool_value g e s.path ≡ false → bool_value g e s.frame.returned ≡ false → bool_value g e r ≡ false
  pub here : bool_value g e caller.path ≡ true → bool_value g e s.path ≡ true → bool_value g e r ≡ true
  pub back : bool_value g e caller.path ≡ true → bool_value g e s.frame.returned ≡ true → bool_value g e r ≡ true
  pub failed : bool_value g e caller.failed ≡ false → bool_value g e s.failed ≡ true → bool_value g e s.path ≡ false → bool_value g e s.frame.returned ≡ false → bool_value g e r ≡ false
  pub skipped : bool_value g e caller.skipped ≡ false → bool_value g e s.skipped ≡ true → bool_value g e s.path ≡ false → bool_value g e s.frame.returned ≡ false → bool_value g e r ≡ false

-- It is no less than the cursor of a call's body, where that goes on to its end, and the one from which on slots are free where the
-- call has returned; and it is one of the two.
pub record IsCursorAfter (d : Graph) (path : BoolId) (cursor most r : ℕ) : Type 0 where
  pub here : (g : Graph) (e : Env) → Grows d g → bool_value g e path ≡ true → cursor ≤ r
  pub back : most ≤ r
  pub one : (r ≡ cursor) ⊎ (r ≡ most)

-- The caller's variables are back, the path is one behind the call, and this is what the call gives.
pub record IsLeft (x : Setting) (fun : Fun) (d0 d1 : Graph) (s0 s1 : SymState) (caller : Caller) (r : Ended) : Type 0 where
  pub keeps : Keeps d0 d1
  pub stands : StateStands d1 x.expanded.now.prog s1
  pub now : s1 ≡ record s0 { path = s1.path; cursor = s1.cursor; frame = caller.frame }
  pub path : (g : Graph) (e : Env) → Grows d1 g → GoesOnBehind g e caller s0 s1.path
  pub cursor : IsCursorAfter d1 s0.path s0.cursor s0.frame.most s1.cursor
  pub given : IsGiven d1 fun s0.path s0.frame.slots s0.frame.returned s0.frame.ended r
