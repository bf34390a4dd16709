-- Calls that are made inside a call.
use Rattle.std.specs.Prelude.{◌≡◌, ℕ, ◌+◌, ◌-◌, ◌==◌, ◌&&◌, nat_lt, count_by, if◌then◌else◌, Bool, ⊤, List, [], ◌∷◌, ◌++◌, map, Option, Some, None, slice_get}
use Rattle.std.specs.Option.{option_copied}
use Rattle.sk_base.specs.declared.span.Span.{Span}
use Rattle.sk_dag.specs.declared.env.Env.{Env}
use Rattle.sk_dag.specs.declared.shape.Shape.{Shape}
use Rattle.sk_dag.specs.Graph.{Graph, Grows}
use Rattle.sk_arr.specs.Shapes.{Stands}
use Rattle.sk_heap.specs.declared.slot.Slot.{Slot}
use Rattle.sk_prog.specs.declared.ids.FunId.{FunId}
use Rattle.sk_prog.specs.declared.ty.Ty.{Ty}
use Rattle.sk_prog.specs.declared.value.Value.{Value}
use Rattle.sk_prog.specs.declared.expr.PExpr.{PExpr}
use Rattle.sk_prog.specs.declared.stmt.PStmt.{PStmt}
use Rattle.sk_prog.specs.declared.prog.Fun.{Fun}
use Rattle.sk_prog.specs.declared.prog.ParamDef.{ParamDef}
use Rattle.sk_model.specs.Parts.{Part, counts, in_turn}
use Rattle.sk_model.specs.Step.{Comp, ◌>>=◌, pure}
use Rattle.sk_model.specs.Heap.{store}
use Rattle.sk_model.specs.Eval.{Called, params_of, ref_args, copy_back, call_value, result_value}
use Rattle.sk_model.specs.Fill.{before_body}
use Rattle.sk_model.specs.Run.{in_frame}
use Rattle.sk_sym_state.specs.declared.state.Ended.{Ended}
use Rattle.sk_sym_state.specs.declared.state.SymState.{SymState}
use Rattle.sk_sym_state.specs.Seen.{IsWorth, AreWorth}
use Rattle.sk_sym_state.specs.Shows.{ResultIs, EndedIs}
use Rattle.sk_sym_state.specs.Stands.{EndedStands}
use Rattle.sk_sym_state.specs.Meaning.{DoesOn}
use Rattle.sk_sym_walk.specs.declared.activation.Activation.{Activation}
use Rattle.sk_sym_walk.specs.Walk.{prog_of, calls_at, expr_part, exec_all_at, IsBehind}
use Rattle.sk_sym_walk.specs.Targets.{target_part}

-- the function that a call means, where it may be made
abbrev pub callee : Activation → ℕ → Option Fun
callee a f = if nat_lt 0 a.left && nat_lt (count_by (λ g. g == f) a.active.now) a.bounds.inline_amnt then slice_get (prog_of a).funs f else None

-- final values go back to the arguments for `ref` parameters, where the first site of all arguments has place i
abbrev pub copied_at : Activation → Span → List ParamDef → List PExpr → ℕ → Env → List Value → Comp (Unit {0})
copied_at a span ps xs i e = copy_back span (ref_args ps (in_turn (map (λ x. expr_part a x e) xs) i))

-- so where the first argument is for a `ref` parameter or not
abbrev pub copied_first : Activation → Span → Bool → PExpr → List ParamDef → List PExpr → ℕ → Env → List Value → Comp (Unit {0})
copied_first a span by_ref x ps xs i e = copy_back span (if by_ref then (expr_part a x e).at i ∷ ref_args ps (in_turn (map (λ x. expr_part a x e) xs) (i + (expr_part a x e).count)) else ref_args ps (in_turn (map (λ x. expr_part a x e) xs) (i + (expr_part a x e).count)))

-- the final values go back, and then there is the result
abbrev pub ends : Activation → Span → List ParamDef → List PExpr → ℕ → Env → Called → Comp Value
ends a span ps xs i e called = copied_at a span ps xs i e called.refs >>= (λ u. pure (result_value called.result))

-- what a call with these arguments gives as a value
abbrev pub value_called : Activation → Span → ℕ → List PExpr → ℕ → Env → List Value → Comp Value
value_called a span f xs i e vs = calls_at a e span f vs >>= ends a span (params_of (slice_get (prog_of a).funs f)) xs i e

abbrev pub call_part : Activation → Span → FunId → List PExpr → Env → Part (Comp Value)
call_part a span f xs e = record { count = counts (map (λ x. expr_part a x e) xs); at = λ i. call_value (prog_of a) a.bounds.int_bits (calls_at a e) span f (in_turn (map (λ x. expr_part a x e) xs) i) }

-- a function that pays nothing before its body: no harness
pub record PaysNothing (fun : Fun) : Type 0 where
  pub before : (paid : List PStmt) → before_body fun.kind paid ≡ []

-- whether a call gives a result, as its function says
abbrev pub HasResult : Option Ty → Option Value → Type 0
HasResult None None = Unit {0}
HasResult (Some t) (Some v) = Unit {0}
HasResult _ _ = ⊥

-- a call inside another one: of the same program under the same choice
pub record IsInside (outer inner : Activation) : Type 0 where
  pub expanded : inner.setting.expanded.now ≡ outer.setting.expanded.now
  pub choice : option_copied inner.setting.choice ≡ option_copied outer.setting.choice

-- and the one that a call of this function makes
pub record IsCallOf (outer : Activation) (f : ℕ) (fun : Fun) (inner : Activation) : Type 0 where
  pub inside : IsInside outer inner
  pub bounds : inner.bounds ≡ outer.bounds
  pub left : inner.left ≡ outer.left - 1
  pub active : inner.active.now ≡ outer.active.now ++ f ∷ []
  pub of : inner.setting.fun.now ≡ fun

-- a call has ended whose body begins at this place, and gives this
pub record IsCalled (a inner : Activation) (i : ℕ) (d0 d1 : Graph) (s0 s1 : SymState) (args : List Shape) (r : Ended) : Type 0 where
  pub does : DoesOn a.setting d0 d1 s0 s1 (λ g e vs. AreWorth g e s0.heap args vs) (λ g e called. EndedIs g e s1.heap (Some r) called.result called.refs × HasResult inner.setting.fun.now.result called.result) (λ e vs. in_frame inner.setting.fun.now vs (exec_all_at inner i inner.setting.fun.now.body e))
  pub there : EndedStands d1 r

-- a shape that is worth what a call gives as a value
pub record IsResultShape (d : Graph) (t : Option Ty) (given : Option Shape) (r : Shape) : Type 0 where
  pub stands : Stands d r
  pub worth : (g : Graph) (e : Env) (heap : List Slot) (v : Option Value) → Grows d g → ResultIs g e heap given v → HasResult t v → IsWorth g e heap r (result_value v)

-- final values have gone back to arguments
pub record AreCopiedBack (a : Activation) (d0 d1 : Graph) (s0 s1 : SymState) (list : List Shape) (m : Env → List Value → Comp (Unit {0})) : Type 0 where
  pub does : DoesOn a.setting d0 d1 s0 s1 (λ g e vs. AreWorth g e s0.heap list vs) (λ g e (u : Unit {0}). ⊤) m

-- one of them has gone back to an argument, and the walk from place i to place j
pub record IsCopiedBack (a : Activation) (d0 d1 : Graph) (s0 s1 : SymState) (i j : ℕ) (span : Span) (x : PExpr) (r : Shape) : Type 0 where
  pub does : DoesOn a.setting d0 d1 s0 s1 (λ g e. IsWorth g e s0.heap r) (λ g e (u : Unit {0}). ⊤) (λ e v. (target_part a span x e).at i >>= (λ location. store span location v))
  pub place : IsBehind (target_part a span x) i j

-- the first of some parameters is a `ref` parameter or not, and these follow it
pub record AreParams (list : List ParamDef) (by_ref : Bool) (more : List ParamDef) : Type 0 where
  pub first : ParamDef
  pub front : list ≡ first ∷ more
  pub is : first.by_ref ≡ by_ref

-- this is the first of some shapes, and what follows it
pub record AreShapes (list : List Shape) (first : Shape) (more : List Shape) : Type 0 where
  pub front : list ≡ first ∷ more
