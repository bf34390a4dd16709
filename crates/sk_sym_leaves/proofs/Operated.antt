-- What an operator answers is what it does with what its shapes are worth, in a run.
use Rattle.std.proofs.Common.{◌≡◌, ℕ, Bool, List, [], ◌∷◌, refl, sym, ap, subst, ◌∙◌}
use Rattle.sk_base.specs.declared.span.Span.{Span}
use Rattle.sk_dag.specs.declared.env.Env.{Env}
use Rattle.sk_dag.specs.declared.node.BoolId.{BoolId}
use Rattle.sk_dag.specs.declared.shape.Shape.{Shape}
use Rattle.sk_dag.specs.Graph.{Graph}
use Rattle.sk_dag.specs.Eval.{bool_value, Keeps}
use Rattle.sk_dag.specs.EvalShape.{shape_value}
use Rattle.sk_arr.specs.Answers.{shapes_value}
use Rattle.sk_arr.proofs.Standing.{Stands-keeps}
use Rattle.sk_heap.specs.declared.slot.Slot.{Slot}
use Rattle.sk_prog.specs.declared.value.Value.{Value}
use Rattle.sk_prog.specs.declared.expr.BinOp.{BinOp}
use Rattle.sk_prog.specs.declared.expr.UnOp.{UnOp}
use Rattle.sk_model.specs.Step.{State, Comp}
use Rattle.sk_model.specs.Eval.{indexed, sliced}
use Rattle.sk_model.specs.Operators.{operator, unary_operator, to_int}
use Rattle.sk_heap_laws.specs.Values.{holds_in, value_in, AllLive}
use Rattle.sk_heap_laws.proofs.Parts.{live_nil, live_cons}
use Rattle.sk_sym_operators.specs.Answers.{IsOperated}
use Rattle.sk_sym_operators.specs.Worth.{worth, answered}
use Rattle.sk_sym_state.specs.declared.setting.Setting.{Setting}
use Rattle.sk_sym_state.specs.declared.state.SymState.{SymState}
use Rattle.sk_sym_state.specs.Seen.{IsWorth}
use Rattle.sk_sym_state.specs.Stands.{StateStands}
use Rattle.sk_sym_state.specs.Meaning.{IsLater, FailsWhere}
use Rattle.sk_sym_state.proofs.Carrying.{later_keeps}
use Rattle.sk_sym_state.proofs.Ends.{fails_or_goes}
use Rattle.sk_sym_steps.specs.Steps.{EvaluatesOn, AreTwo}

-- what is given is live
one_live : (heap : List Slot) (a : Shape) (g : Graph) (e : Env) (v : Value) → IsWorth g e heap a v → AllLive (holds_in g e heap) (shapes_value g e (a ∷ []))
one_live heap a g e v w = live_cons (holds_in g e heap) (shape_value g e a) [] w.live (live_nil (holds_in g e heap))

two_live : (heap : List Slot) (a b : Shape) (g : Graph) (e : Env) (vs : Value × Value) → AreTwo heap a b g e vs → AllLive (holds_in g e heap) (shapes_value g e (a ∷ b ∷ []))
two_live heap a b g e vs w = live_cons (holds_in g e heap) (shape_value g e a) (shape_value g e b ∷ []) w.0.live (live_cons (holds_in g e heap) (shape_value g e b) [] w.1.live (live_nil (holds_in g e heap)))

module _ {x : Setting} {d0 d1 d2 : Graph} {s0 s1 : SymState} {r : Shape} {fails : BoolId} (h : StateStands d0 x.expanded.now.prog s0) (kept : Keeps d0 d1) (f : FailsWhere x d1 d2 s0 s1 fails) where
  pub operated : {A : Type 0} {args : List Shape} {m : Graph → Env → (ℕ → Bool) → Span → Comp Value} {Given : Graph → Env → A → Type 0} {k : Env → A → Comp Value} (span : Span) → IsOperated d1 args m r fails
      → ((g : Graph) (e : Env) (a : A) → Given g e a → AllLive (holds_in g e s0.heap) (shapes_value g e args))
      → ((g : Graph) (e : Env) (a : A) (at : State) → Given g e a → k e a at ≡ m g e (holds_in g e s0.heap) span at)
      → EvaluatesOn x d0 d2 s0 s1 Given r k
  operated {A} {args} {m} {Given} {k} span is lives same = record {
    does = fails_or_goes h kept f
        (λ g e a at l given shows c. (span, does g e a at l given ∙ ap (λ b. answered span b (value_in g e s0.heap r) at) c))
        (λ g e a at l given shows c. (value_in g e s0.heap r, does g e a at l given ∙ ap (λ b. answered span b (value_in g e s0.heap r) at) c, subst (λ heap. IsWorth g e heap r (value_in g e s0.heap r)) (sym f.heap) (record { value = refl; live = is.live g (later_keeps f.moves.keeps l).grows e (holds_in g e s0.heap) (lives g e a given) c })));
    there = Stands-keeps f.moves.keeps is.stands;
  }
    where
      does : (g : Graph) (e : Env) (a : A) (at : State) → IsLater x d2 g e → Given g e a → k e a at ≡ answered span (bool_value g e fails) (value_in g e s0.heap r) at
      does g e a at l given = same g e a at given ∙ ap (λ (n : Comp Value). n at) (is.value g (later_keeps f.moves.keeps l).grows e (holds_in g e s0.heap) (lives g e a given) span)

  pub operates : {a b : Shape} (bits width : ℕ) (span : Span) (op : BinOp) → bits ≡ width → IsOperated d1 (a ∷ b ∷ []) (λ g e holds span. operator bits span op (worth holds g e a) (worth holds g e b)) r fails → EvaluatesOn x d0 d2 s0 s1 (AreTwo s0.heap a b) r (λ e vs. operator width span op vs.0 vs.1)
  operates {a} {b} bits width span op same is = operated {k = λ e vs. operator width span op vs.0 vs.1} span is (two_live s0.heap a b) (λ g e vs at w i. operator (sym same i) span op (sym w.0.value i) (sym w.1.value i) at)

  pub operates_one : {a : Shape} (bits width : ℕ) (span : Span) (op : UnOp) → bits ≡ width → IsOperated d1 (a ∷ []) (λ g e holds span. unary_operator bits span op (worth holds g e a)) r fails → EvaluatesOn x d0 d2 s0 s1 (λ g e. IsWorth g e s0.heap a) r (λ e. unary_operator width span op)
  operates_one {a} bits width span op same is = operated {k = λ e. unary_operator width span op} span is (one_live s0.heap a) (λ g e v at w i. unary_operator (sym same i) span op (sym w.value i) at)

  pub converts : {a : Shape} (span : Span) → IsOperated d1 (a ∷ []) (λ g e holds span. to_int span (worth holds g e a)) r fails → EvaluatesOn x d0 d2 s0 s1 (λ g e. IsWorth g e s0.heap a) r (λ e. to_int span)
  converts {a} span is = operated {k = λ e. to_int span} span is (one_live s0.heap a) (λ g e v at w i. to_int span (sym w.value i) at)

  pub indexes : {a b : Shape} (span : Span) → IsOperated d1 (a ∷ b ∷ []) (λ g e holds span. indexed span (worth holds g e a) (worth holds g e b)) r fails → EvaluatesOn x d0 d2 s0 s1 (AreTwo s0.heap a b) r (λ e vs. indexed span vs.0 vs.1)
  indexes {a} {b} span is = operated {k = λ e vs. indexed span vs.0 vs.1} span is (two_live s0.heap a b) (λ g e vs at w i. indexed span (sym w.0.value i) (sym w.1.value i) at)

  pub slices : {a b : Shape} (count : ℕ) (span : Span) → IsOperated d1 (a ∷ b ∷ []) (λ g e holds span. sliced span count (worth holds g e a) (worth holds g e b)) r fails → EvaluatesOn x d0 d2 s0 s1 (AreTwo s0.heap a b) r (λ e vs. sliced span count vs.0 vs.1)
  slices {a} {b} count span is = operated {k = λ e vs. sliced span count vs.0 vs.1} span is (two_live s0.heap a b) (λ g e vs at w i. sliced span count (sym w.0.value i) (sym w.1.value i) at)
