-- What the parts of a program do inside an active call, in an environment.
use Rattle.std.specs.Prelude.{◌≡◌, ℕ, ◌+◌, List}
use Rattle.sk_base.specs.declared.span.Span.{Span}
use Rattle.sk_dag.specs.declared.env.Env.{Env}
use Rattle.sk_prog.specs.declared.value.Value.{Value}
use Rattle.sk_prog.specs.declared.expr.PExpr.{PExpr}
use Rattle.sk_prog.specs.declared.stmt.PStmt.{PStmt}
use Rattle.sk_prog.specs.declared.prog.Prog.{Prog}
use Rattle.sk_model.specs.Parts.{Part}
use Rattle.sk_model.specs.Step.{Comp}
use Rattle.sk_model.specs.Eval.{Calls, Does}
use Rattle.sk_model.specs.Exec.{Flow}
use Rattle.sk_model.specs.Open.{open_expr, open_stmt, open_all, open_bodies}
use Rattle.sk_model.specs.Run.{calls}
use Rattle.sk_sym_state.specs.Meaning.{choice_at}
use Rattle.sk_sym_walk.specs.declared.activation.Activation.{Activation}

-- the values of the sites
abbrev pub values_at : Activation → Env → List ℕ
values_at a e = (choice_at a.setting e).values

abbrev pub prog_of : Activation → Prog
prog_of a = a.setting.expanded.now.prog

-- what calls do that are made inside this one
abbrev pub calls_at : Activation → Env → Calls
calls_at a e = calls (prog_of a) a.bounds (open_bodies a.setting.expanded.now (choice_at a.setting e) a.bounds) a.left a.active.now

abbrev pub expr_part : Activation → PExpr → Env → Part Does
expr_part a x e = open_expr (prog_of a) a.bounds (values_at a e) (calls_at a e) x

abbrev pub stmt_part : Activation → PStmt → Env → Part (Comp Flow)
stmt_part a s e = open_stmt (prog_of a) a.bounds (values_at a e) (calls_at a e) s

abbrev pub all_part : Activation → List PStmt → Env → Part (Comp Flow)
all_part a ss e = open_all (prog_of a) a.bounds (values_at a e) (calls_at a e) ss

-- the value of an expression in a statement with this span
abbrev pub eval_part : Activation → Span → PExpr → Env → Part (Comp Value)
eval_part a span x e = record { count = (expr_part a x e).count; at = λ i. ((expr_part a x e).at i).value span }

-- what statements do of which the first site has this place
abbrev pub exec_all_at : Activation → ℕ → List PStmt → Env → Comp Flow
exec_all_at a i ss e = (all_part a ss e).at i

-- the place of the first site behind a part
pub record IsBehind {A : Type 0} (part : Env → Part A) (i j : ℕ) : Type 0 where
  pub place : (e : Env) → j ≡ i + (part e).count
