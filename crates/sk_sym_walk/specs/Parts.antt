-- Parts that are put together from smaller ones, and what the walk answers for a part.
use Rattle.std.specs.Prelude.{◌≡◌, ℕ, ◌+◌, ◌&&◌, Bool, true, false, List, map, Option, Some, None}
use Rattle.sk_base.specs.declared.span.Span.{Span}
use Rattle.sk_dag.specs.declared.env.Env.{Env}
use Rattle.sk_dag.specs.declared.node.BoolId.{BoolId}
use Rattle.sk_dag.specs.declared.shape.Shape.{Shape}
use Rattle.sk_dag.specs.Graph.{Graph, HasBool}
use Rattle.sk_dag.specs.Eval.{bool_value}
use Rattle.sk_arr.specs.Answers.{IsChoice}
use Rattle.sk_prog.specs.declared.ty.Ty.{Ty}
use Rattle.sk_prog.specs.declared.value.Value.{Value}
use Rattle.sk_prog.specs.declared.value.Value.TheVariants as value
use Rattle.sk_prog.specs.declared.expr.BinOp.{BinOp}
use Rattle.sk_prog.specs.declared.expr.PExpr.{PExpr}
use Rattle.sk_prog.specs.declared.expr.PEForm.{PEForm}
use Rattle.sk_prog.specs.declared.expr.PEForm.TheVariants as eform
use Rattle.sk_prog.specs.declared.stmt.PStmt.{PStmt}
use Rattle.sk_model.specs.Parts.{Part, counts, in_turn}
use Rattle.sk_model.specs.Step.{Comp, ◌>>=◌, pure}
use Rattle.sk_model.specs.Eval.{choose, binary, padded_at, in_order}
use Rattle.sk_model.specs.Exec.{Flow, Onward}
use Rattle.sk_model.specs.Open.{hole_value}
use Rattle.sk_model.specs.Stands.{hole_count}
use Rattle.sk_sym_state.specs.declared.branch.Side.{Side}
use Rattle.sk_sym_state.specs.declared.setting.Setting.{Setting}
use Rattle.sk_sym_state.specs.declared.state.SymState.{SymState}
use Rattle.sk_sym_state.specs.Meaning.{Does, DoesOn, Executes, ExecutesOn, Evaluates}
use Rattle.sk_sym_state.specs.Branching.{IsBit, AreJoined}
use Rattle.sk_sym_forms.specs.Steps.{EvaluatesOn}
use Rattle.sk_sym_forms.specs.Lists.{EvaluateAll}
use Rattle.sk_sym_forms.specs.declared.act.Act.{Act}
use Rattle.sk_sym_forms.specs.declared.double.Double.{Double}
use Rattle.sk_sym_forms.specs.declared.single.Single.{Single}
use Rattle.sk_sym_forms.specs.Forms.{single_does, double_does, act_does}
use Rattle.sk_sym_walk.specs.declared.activation.Activation.{Activation}
use Rattle.sk_sym_walk.specs.Walk.{values_at, expr_part, eval_part, stmt_part, IsBehind}

-- ---- parts

-- no site
abbrev pub siteless : {A : Type 0} → (Env → A) → Env → Part A
siteless m e = record { count = 0; at = λ i. m e }

-- a part, and something with what it gives
abbrev pub then_part : {A B : Type 0} → (Env → Part (Comp A)) → (Env → A → Comp B) → Env → Part (Comp B)
then_part p k e = record { count = (p e).count; at = λ i. (p e).at i >>= k e }

-- a part, and another one with what it gives
abbrev pub then_parts : {A B : Type 0} → (Env → Part (Comp A)) → (Env → Part (A → Comp B)) → Env → Part (Comp B)
then_parts p q e = record { count = (p e).count + (q e).count; at = λ i. (p e).at i >>= (q e).at (i + (p e).count) }

-- the one part or the other by a bit
abbrev pub either_part : {A : Type 0} → Span → (Env → Part (Comp A)) → (Env → Part (Comp A)) → Env → Part (Value → Comp A)
either_part span p q e = record { count = (p e).count + (q e).count; at = λ i. choose span ((p e).at i) ((q e).at (i + (p e).count)) }

-- a bit as it is, where anything else fails
abbrev pub as_bit : Span → Value → Comp Value
as_bit span = choose span (pure (value.Bit true)) (pure (value.Bit false))

-- the bit that is given
abbrev pub given : Bool → Env → Part (Comp Value)
given b = siteless (λ e. pure (value.Bit b))

-- ---- forms

-- whether a form has neither a part nor a site
abbrev pub is_leaf : PEForm → Bool
is_leaf (eform.Number n) = true
is_leaf eform.True = true
is_leaf eform.False = true
is_leaf eform.Null = true
is_leaf (eform.Var slot x) = true
is_leaf (eform.Const c) = true
is_leaf _ = false

-- a hole at a type
abbrev pub hole_part : Activation → Option Ty → Env → Part (Comp Value)
hole_part a t e = record { count = hole_count t; at = λ i. pure (hole_value (values_at a e) a.bounds.int_bits t i) }

-- an expression has the sites of another one, and does what that does
pub record IsAs (x y : PExpr) : Type 0 where
  pub same : (a : Activation) (span : Span) (e : Env) → eval_part a span x e ≡ eval_part a span y e

abbrev pub single_part : Activation → Span → Single → PExpr → Env → Part (Comp Value)
single_part a span what x = then_part (eval_part a span x) (λ e. single_does a.bounds.int_bits span what)

abbrev pub double_part : Activation → Span → Double → PExpr → PExpr → Env → Part (Comp Value)
double_part a span what x y = then_parts (eval_part a span x) (λ e. record { count = (eval_part a span y e).count; at = λ i v. (eval_part a span y e).at i >>= double_does a.bounds.int_bits span what v })

abbrev pub binary_part : Activation → Span → BinOp → PExpr → PExpr → Env → Part (Comp Value)
binary_part a span op x y e = record { count = (eval_part a span x e).count + (eval_part a span y e).count; at = λ i. binary a.bounds.int_bits span op ((eval_part a span x e).at i) ((eval_part a span y e).at (i + (eval_part a span x e).count)) }

-- the first part where the bit holds, and else the second
abbrev pub pick_part : Activation → Span → PExpr → PExpr → Env → Part (Value → Comp Value)
pick_part a span x y = either_part span (eval_part a span x) (eval_part a span y)

abbrev pub cond_part : Activation → Span → PExpr → PExpr → PExpr → Env → Part (Comp Value)
cond_part a span c x y = then_parts (eval_part a span c) (pick_part a span x y)

abbrev pub act_part : Activation → Span → Act → PExpr → Env → Part (Comp Flow)
act_part a span what x = then_part (eval_part a span x) (λ e. act_does span what)

-- a statement that may not be there
abbrev pub other_part : Activation → Option PStmt → Env → Part (Comp Flow)
other_part a None = siteless (λ e. pure Onward)
other_part a (Some s) = stmt_part a s

abbrev pub ways_part : Activation → Span → PStmt → Option PStmt → Env → Part (Value → Comp Flow)
ways_part a span s o = either_part span (stmt_part a s) (other_part a o)

abbrev pub branch_part : Activation → Span → PExpr → PStmt → Option PStmt → Env → Part (Comp Flow)
branch_part a span c s o = then_parts (eval_part a span c) (ways_part a span s o)

-- expressions from left to right
abbrev pub list_part : Activation → Span → List PExpr → Env → Part (Comp (List Value))
list_part a span xs e = record { count = counts (map (λ x. expr_part a x e) xs); at = λ i. in_order span (in_turn (map (λ x. expr_part a x e) xs) i) }

abbrev pub braces_part : Activation → Span → Option Ty → List PExpr → Env → Part (Comp Value)
braces_part a span t xs e = record { count = (list_part a span xs e).count; at = λ i. (list_part a span xs e).at i >>= (λ vs. pure (padded_at t (value.Array vs))) }

-- ---- answers

-- The walk has gone from place i to place j, which is behind the part, and the state is what the part leaves.

pub record IsEvaluated (a : Activation) (d0 d1 : Graph) (s0 s1 : SymState) (i j : ℕ) (part : Env → Part (Comp Value)) (r : Shape) : Type 0 where
  pub evaluates : Evaluates a.setting d0 d1 s0 s1 r (λ e. (part e).at i)
  pub place : IsBehind part i j

pub record IsEvaluatedOn {A : Type 0} (a : Activation) (d0 d1 : Graph) (s0 s1 : SymState) (i j : ℕ) (Given : Graph → Env → A → Type 0) (part : Env → Part (A → Comp Value)) (r : Shape) : Type 0 where
  pub evaluates : EvaluatesOn a.setting d0 d1 s0 s1 Given r (λ e. (part e).at i)
  pub place : IsBehind part i j

pub record IsExecuted (a : Activation) (d0 d1 : Graph) (s0 s1 : SymState) (i j : ℕ) (part : Env → Part (Comp Flow)) : Type 0 where
  pub executes : Executes a.setting d0 d1 s0 s1 (λ e. (part e).at i)
  pub place : IsBehind part i j

pub record IsExecutedOn {A : Type 0} (a : Activation) (d0 d1 : Graph) (s0 s1 : SymState) (i j : ℕ) (Given : Graph → Env → A → Type 0) (part : Env → Part (A → Comp Flow)) : Type 0 where
  pub executes : ExecutesOn a.setting d0 d1 s0 s1 Given (λ e. (part e).at i)
  pub place : IsBehind part i j

-- the part has been evaluated as a condition: it gives the bit of a node, and fails where it gives anything else
pub record IsTested (a : Activation) (d0 d1 : Graph) (s0 s1 : SymState) (i j : ℕ) (span : Span) (part : Env → Part (Comp Value)) (c : BoolId) : Type 0 where
  pub does : Does a.setting d0 d1 s0 s1 (IsBit c) (λ e. (part e).at i >>= as_bit span)
  pub there : HasBool d1.nodes c
  pub place : IsBehind part i j

-- a value that is the bit where both nodes hold
abbrev pub IsBoth : BoolId → BoolId → Graph → Env → Value → Type 0
IsBoth cond y g e v = v ≡ value.Bit (bool_value g e cond && bool_value g e y)

-- the part has been evaluated where a node holds; there it is the bit of another node
pub record IsGuarded (a : Activation) (d0 d1 : Graph) (s0 s1 : SymState) (i j : ℕ) (span : Span) (cond : BoolId) (part : Env → Part (Comp Value)) (y : BoolId) : Type 0 where
  pub does : DoesOn a.setting d0 d1 s0 s1 (IsBit cond) (IsBoth cond y) (λ e. (either_part span part (given false) e).at i)
  pub there : HasBool d1.nodes y
  pub place : IsBehind part i j

-- two ways have come together with a value each, of which one is taken
pub record AreJoinedWith (x : Setting) (d0 d1 : Graph) (s0 s1 : SymState) (cond : BoolId) (gone : Side) (a b r : Shape) : Type 0 where
  pub joined : AreJoined x d0 d1 s0 s1 cond gone
  pub choice : IsChoice d1 cond a b r

-- shapes that are worth the values of a list of expressions
pub record AreEvaluated (a : Activation) (d0 d1 : Graph) (s0 s1 : SymState) (i j : ℕ) (part : Env → Part (Comp (List Value))) (list : List Shape) : Type 0 where
  pub evaluate : EvaluateAll a.setting d0 d1 s0 s1 list (λ e. (part e).at i)
  pub place : IsBehind part i j
