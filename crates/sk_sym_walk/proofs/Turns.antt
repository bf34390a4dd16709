-- The turns of a loop.
use Rattle.std.proofs.Common.{◌≡◌, ℕ, zero, suc, ◌+◌, true, false, refl, ap, ◌∙◌, arith}
use Rattle.sk_base.specs.declared.span.Span.{Span}
use Rattle.sk_dag.specs.declared.env.Env.{Env}
use Rattle.sk_dag.specs.declared.node.BoolId.{BoolId}
use Rattle.sk_dag.specs.Graph.{Graph, Grows}
use Rattle.sk_dag.specs.Eval.{bool_value}
use Rattle.sk_prog.specs.declared.expr.PExpr.{PExpr}
use Rattle.sk_prog.specs.declared.stmt.PStmt.{PStmt}
use Rattle.sk_prog.specs.declared.stmt.PForm.TheVariants as form
use Rattle.sk_prog.specs.declared.stmt.PForm.TheOpen as S
use Rattle.sk_prog.specs.declared.stmt.PForm.TheViews as W
use Rattle.sk_model.specs.Parts.{Part}
use Rattle.sk_model.specs.Step.{State, Comp, and_then, pure, fail}
use Rattle.sk_model.specs.Eval.{Does, choose}
use Rattle.sk_model.specs.Exec.{Flow, Onward, unless_returned, turns}
use Rattle.sk_model.proofs.Layers.{stmt_layer}
use Rattle.sk_sym_sites.specs.Counts.{expr_count, stmt_count}
use Rattle.sk_sym_state.specs.declared.branch.Side.{Side}
use Rattle.sk_sym_state.specs.declared.state.SymState.{SymState}
use Rattle.sk_sym_state.specs.Stands.{StateStands}
use Rattle.sk_sym_state.specs.Branching.{IsBit, IsForked, AreTurned, AreJoined}
use Rattle.sk_sym_state.specs.Meaning.{Executes}
use Rattle.sk_sym_state.proofs.Ends.{executes_same}
use Rattle.sk_sym_state.proofs.Following.{executes_then}
use Rattle.sk_sym_walk.specs.declared.activation.Activation.{Activation}
use Rattle.sk_sym_walk.specs.Walk.{expr_part, eval_part, stmt_part, IsBehind}
use Rattle.sk_sym_walk.specs.Parts.{siteless, IsTested, IsExecuted, IsExecutedOn}
use Rattle.sk_sym_walk.specs.Turns.{turns_part, turn_does, turn_part, decided_part}
use Rattle.sk_sym_walk.proofs.Sequences.{SamePart, same_part, executed_none}
use Rattle.sk_sym_walk.proofs.Conditions.{executed_by}
use Rattle.sk_sym_walk.proofs.Ways.{first_executed, second_executed, both_executed}
use Rattle.sk_sym_walk.proofs.Places.{expr_behind, stmt_behind}
use Rattle.sk_sym_walk.proofs.Layers.{stmt_step}

-- one turn of a loop
turns_by : (left : ℕ) (span : Span) (cond : Does) (body : Comp Flow) (at : State) → turns left span cond body at ≡ and_then (cond.value span at) (choose span (turn_does left span cond body) (pure Onward))
turns_by zero span cond body at = refl
turns_by (suc left) span cond body at = refl

pub same_while : (a : Activation) (s : PStmt) (c : PExpr) (t : PStmt) → s.form ≡ form.While c t → SamePart (turns_part a s.span a.bounds.unroll c t) (stmt_part a s)
same_while a s c t is = same_part (λ env. ap (λ f. stmt_part a (record { span = s.span; form = f }) env) is ∙ stmt_layer (Part (Span → Comp Flow)) (Part (Comp Flow)) (stmt_step a s env) (λ t. record { count = t.form.count; at = λ i. t.form.at i t.span }) (S.While c t) (form.While c t) (W.rolls-While c t) s.span)

module _ (a : Activation) (span : Span) (left : ℕ) (c : PExpr) (s : PStmt) where
  -- the place behind a loop that is passed
  pub loop_behind : {j : ℕ} (i : ℕ) → j ≡ i + (expr_count c + stmt_count s) → (e : Env) → j ≡ i + (turns_part a span left c s e).count
  loop_behind i p e =
      let one = expr_behind i a span c refl e in
      let two = stmt_behind (i + expr_count c) a s refl e in
      omega (arith, p, one, two)

  module _ {d0 d1 d2 : Graph} {s0 s1 s2 : SymState} {i j k : ℕ} where
    -- the condition, and what is done by it
    pub turns_executed : {bit : BoolId} → IsTested a d0 d1 s0 s1 i j span (eval_part a span c) bit → IsExecutedOn a d1 d2 s1 s2 j k (IsBit bit) (decided_part a span left i c s) → IsExecuted a d0 d2 s0 s2 i k (turns_part a span left c s)
    turns_executed first next =
        let h = executed_by (turn_part a span left i c s) (siteless (λ e. pure Onward)) first next in
        record {
          executes = executes_same (λ e at. turns_by left span ((expr_part a c e).at i) ((stmt_part a s e).at (i + (expr_part a c e).count)) at) h.executes;
          place = record { place = λ e. omega (arith, h.place.place e) };
        }

  module _ {d0 d1 : Graph} {s0 s1 : SymState} {j k : ℕ} (start : ℕ) where
    -- no turn is left
    pub turn_fails : left ≡ 0 → Executes a.setting d0 d1 s0 s1 (λ e. fail span) → ((e : Env) → k ≡ j + (stmt_part a s e).count) → IsExecuted a d0 d1 s0 s1 j k (turn_part a span left start c s)
    turn_fails none h place = record {
      executes = executes_same (λ e at. ap (λ n. turn_does n span ((expr_part a c e).at start) ((stmt_part a s e).at j) at) none) h;
      place = record { place = place };
    }

  module _ {d0 d1 d2 : Graph} {s0 s1 s2 : SymState} {j k l start : ℕ} where
    -- the body, and the turns that are left
    pub turn_executed : (n : ℕ) → left ≡ suc n → IsBehind (eval_part a span c) start j → IsExecuted a d0 d1 s0 s1 j k (stmt_part a s) → IsExecuted a d1 d2 s1 s2 start l (turns_part a span n c s) → IsExecuted a d0 d2 s0 s2 j k (turn_part a span left start c s)
    turn_executed n some behind body rest = record {
      executes = executes_same (λ e at.
          ap (λ n. turn_does n span ((expr_part a c e).at start) ((stmt_part a s e).at j) at) some
          ∙ ap (λ m. and_then ((stmt_part a s e).at j at) (unless_returned (turns n span ((expr_part a c e).at start) ((stmt_part a s e).at m)))) (behind.place e))
          (executes_then body.executes rest.executes);
      place = record { place = body.place.place };
    }

  module _ {d0 d1 : Graph} {s0 s1 : SymState} {j k : ℕ} (start : ℕ) (bit : BoolId) where
    pub decided_on : ((g : Graph) → Grows d1 g → (e : Env) → bool_value g e bit ≡ true) → IsExecuted a d0 d1 s0 s1 j k (turn_part a span left start c s) → IsExecutedOn a d0 d1 s0 s1 j k (IsBit bit) (decided_part a span left start c s)
    decided_on known h = first_executed span bit (turn_part a span left start c s) (siteless (λ e. pure Onward)) known h (λ e. omega arith)

  pub decided_off : {d : Graph} {s0 : SymState} {j k : ℕ} (start : ℕ) (bit : BoolId) → StateStands d a.setting.expanded.now.prog s0 → ((g : Graph) → Grows d g → (e : Env) → bool_value g e bit ≡ false) → ((e : Env) → k ≡ j + (stmt_part a s e).count) → IsExecutedOn a d d s0 s0 j k (IsBit bit) (decided_part a span left start c s)
  decided_off start bit stands known place = second_executed span bit (turn_part a span left start c s) (siteless (λ e. pure Onward)) known place (executed_none stands)

  pub decided_both : {d1 d2 d3 d4 : Graph} {s1 s2 s3 s4 s5 : SymState} {bit : BoolId} {waits gone : Side} {j k : ℕ} (start : ℕ) → IsForked a.setting d1 d2 s1 s2 bit waits → IsExecuted a d2 d3 s2 s3 j k (turn_part a span left start c s) → AreTurned s3 s4 waits gone → StateStands d3 a.setting.expanded.now.prog s4 → AreJoined a.setting d3 d4 s4 s5 bit gone → IsExecutedOn a d1 d4 s1 s5 j k (IsBit bit) (decided_part a span left start c s)
  decided_both start forked first turned stands joined = both_executed span forked first turned (executed_none stands) joined
