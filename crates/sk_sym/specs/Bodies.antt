-- What the first call of a run does.
use Rattle.std.specs.Prelude.{◌≡◌, ℕ, ◌<◌, List, [], ◌∷◌, Some, slice_get}
use Rattle.sk_dag.specs.declared.env.Env.{Env}
use Rattle.sk_dag.specs.declared.shape.Shape.{Shape}
use Rattle.sk_dag.specs.Graph.{Graph}
use Rattle.sk_prog.specs.declared.ids.FunId.{FunId}
use Rattle.sk_prog.specs.declared.value.Value.{Value}
use Rattle.sk_model.specs.Step.{Comp}
use Rattle.sk_model.specs.Eval.{Called}
use Rattle.sk_model.specs.Exec.{Flow}
use Rattle.sk_model.specs.Run.{in_frame}
use Rattle.sk_model.specs.Open.{open_bodies}
use Rattle.sk_sym_state.specs.declared.state.Ended.{Ended}
use Rattle.sk_sym_state.specs.declared.state.SymState.{SymState}
use Rattle.sk_sym_state.specs.Seen.{AreWorth}
use Rattle.sk_sym_state.specs.Shows.{EndedIs}
use Rattle.sk_sym_state.specs.Stands.{EndedStands}
use Rattle.sk_sym_state.specs.Meaning.{choice_at, DoesOn}
use Rattle.sk_sym_walk.specs.declared.activation.Activation.{Activation}
use Rattle.sk_sym_walk.specs.Walk.{calls_at}

-- what the body of the function with this number does inside the call
abbrev pub body_at : Activation → ℕ → Env → Comp Flow
body_at a f e = open_bodies a.setting.expanded.now (choice_at a.setting e) a.bounds (calls_at a e) f a.setting.fun.now

-- and what the call does, on these arguments
abbrev pub call_at : Activation → ℕ → Env → List Value → Comp Called
call_at a f e vs = in_frame a.setting.fun.now vs (body_at a f e)

-- the call does so on what the shapes are worth, and this is what it gives
pub record EndsSo (a : Activation) (f : ℕ) (d0 d1 : Graph) (s0 s1 : SymState) (args : List Shape) (r : Ended) : Type 0 where
  pub does : DoesOn a.setting d0 d1 s0 s1 (λ g e vs. AreWorth g e s0.heap args vs) (λ g e called. EndedIs g e s1.heap (Some r) called.result called.refs) (call_at a f)
  pub there : EndedStands d1 r

-- the call is the first of a run of this function, and may be made
pub record IsFirst (a : Activation) (f : FunId) : Type 0 where
  pub found : slice_get a.setting.expanded.now.prog.funs f.index ≡ Some a.setting.fun.now
  pub left : a.left ≡ 127
  pub active : a.active.now ≡ f.index ∷ []
  pub allowed : 0 < a.bounds.inline_amnt
