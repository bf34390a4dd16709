-- The turns of a loop.
use Rattle.std.specs.Prelude.{ℕ, zero, suc, ◌+◌}
use Rattle.sk_base.specs.declared.span.Span.{Span}
use Rattle.sk_dag.specs.declared.env.Env.{Env}
use Rattle.sk_prog.specs.declared.value.Value.{Value}
use Rattle.sk_prog.specs.declared.expr.PExpr.{PExpr}
use Rattle.sk_prog.specs.declared.stmt.PStmt.{PStmt}
use Rattle.sk_model.specs.Parts.{Part}
use Rattle.sk_model.specs.Step.{Comp, ◌>>=◌, pure, fail}
use Rattle.sk_model.specs.Eval.{Does}
use Rattle.sk_model.specs.Exec.{Flow, Onward, unless_returned, turns}
use Rattle.sk_sym_walk.specs.declared.activation.Activation.{Activation}
use Rattle.sk_sym_walk.specs.Walk.{expr_part, stmt_part}
use Rattle.sk_sym_walk.specs.Parts.{siteless, either_part}

-- a loop of which so many turns are left: all of them have the same sites
abbrev pub turns_part : Activation → Span → ℕ → PExpr → PStmt → Env → Part (Comp Flow)
turns_part a span left c s e = record { count = (expr_part a c e).count + (stmt_part a s e).count; at = λ i. turns left span ((expr_part a c e).at i) ((stmt_part a s e).at (i + (expr_part a c e).count)) }

-- where the condition holds: the body and the turns that are left after it, and where none is left, failure
abbrev pub turn_does : ℕ → Span → Does → Comp Flow → Comp Flow
turn_does zero span cond body = fail span
turn_does (suc left) span cond body = body >>= unless_returned (turns left span cond body)

-- that as a part, whose first site is the body's: the first of the condition has the place `start`
abbrev pub turn_part : Activation → Span → ℕ → ℕ → PExpr → PStmt → Env → Part (Comp Flow)
turn_part a span left start c s e = record { count = (stmt_part a s e).count; at = λ j. turn_does left span ((expr_part a c e).at start) ((stmt_part a s e).at j) }

-- by the value of the condition
abbrev pub decided_part : Activation → Span → ℕ → ℕ → PExpr → PStmt → Env → Part (Value → Comp Flow)
decided_part a span left start c s = either_part span (turn_part a span left start c s) (siteless (λ e. pure Onward))
