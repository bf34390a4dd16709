-- A run fails, or is skipped, where a condition does not hold.
use Rattle.std.proofs.Common.{◌≡◌, Bool, true, false, List, refl, sym, ap, subst, ◌∙◌}
use Rattle.std.specs.Prelude.{not}
use Rattle.sk_base.specs.declared.span.Span.{Span}
use Rattle.sk_dag.specs.declared.env.Env.{Env}
use Rattle.sk_dag.specs.declared.node.BoolId.{BoolId}
use Rattle.sk_dag.specs.declared.shape.Shape.{Shape}
use Rattle.sk_dag.specs.declared.shape.Shape.TheVariants as shape
use Rattle.sk_dag.specs.Graph.{Graph, Grows}
use Rattle.sk_dag.specs.Eval.{bool_value, Keeps}
use Rattle.sk_dag.specs.EvalShape.{shape_value}
use Rattle.sk_arr.proofs.Values.{value_bit}
use Rattle.sk_prog.specs.declared.value.Value.{Value}
use Rattle.sk_prog.specs.declared.value.Value.TheVariants as value
use Rattle.sk_model.specs.Step.{State}
use Rattle.sk_heap.specs.declared.slot.Slot.{Slot}
use Rattle.sk_heap_laws.specs.Values.{place_of, holds_in, value_of}
use Rattle.sk_heap_laws.proofs.Parts.{of_bit}
use Rattle.sk_sym_state.specs.declared.setting.Setting.{Setting}
use Rattle.sk_sym_state.specs.declared.state.SymState.{SymState}
use Rattle.sk_sym_state.specs.Seen.{IsWorth}
use Rattle.sk_sym_state.specs.Stands.{StateStands}
use Rattle.sk_sym_state.specs.Shows.{Shows, SeesFlow}
use Rattle.sk_sym_state.specs.Meaning.{IsLater, ExecutesOn, FailsWhere, SkipsWhere}
use Rattle.sk_sym_state.proofs.Carrying.{later_keeps, Moves-trans}
use Rattle.sk_sym_state.proofs.Ends.{moves_none}
use Rattle.sk_sym_steps.specs.Steps.{asserted, assumed}

-- a shape that is a bit is worth a bit
bit_of : {g : Graph} {e : Env} {heap : List Slot} {a : Shape} {c : BoolId} {v : Value} → a ≡ shape.Bit c → IsWorth g e heap a v → v ≡ value.Bit (bool_value g e c)
bit_of {g} {e} {heap} {a} {c} is w =
    sym w.value
    ∙ ap (λ r. value_of (place_of (holds_in g e heap)) (shape_value g e r)) is
    ∙ ap (value_of (place_of (holds_in g e heap))) (value_bit g e c)
    ∙ of_bit (place_of (holds_in g e heap)) (bool_value g e c)

module _ {x : Setting} {d0 d1 d2 : Graph} {s0 s1 : SymState} {a : Shape} {c ends : BoolId} (is : a ≡ shape.Bit c) (h : StateStands d0 x.expanded.now.prog s0) (k : Keeps d0 d1) (is_not : (g : Graph) → Grows d1 g → (e : Env) → bool_value g e ends ≡ not (bool_value g e c)) where
  pub asserts : FailsWhere x d1 d2 s0 s1 ends → (span : Span) → ExecutesOn x d0 d2 s0 s1 (λ g e. IsWorth g e s0.heap a) (λ e. asserted span)
  asserts f span = record {
    moves = Moves-trans (moves_none k h) f.moves;
    runs = λ g e v at l w shows. subst (λ u. SeesFlow g e x.fun.now s1 (asserted span u at)) (sym (bit_of is w)) (by g e at l shows (bool_value g e c) refl);
  }
    where
      by : (g : Graph) (e : Env) (at : State) → IsLater x d2 g e → Shows g e s0 at → (b : Bool) → bool_value g e c ≡ b → SeesFlow g e x.fun.now s1 (asserted span (value.Bit b) at)
      by g e at l shows true holds = f.good g e at l (is_not g (later_keeps f.moves.keeps l).grows e ∙ ap not holds) shows
      by g e at l shows false holds = f.bad g e at l (is_not g (later_keeps f.moves.keeps l).grows e ∙ ap not holds) shows

  pub assumes : SkipsWhere x d1 d2 s0 s1 ends → (span : Span) → ExecutesOn x d0 d2 s0 s1 (λ g e. IsWorth g e s0.heap a) (λ e. assumed span)
  assumes f span = record {
    moves = Moves-trans (moves_none k h) f.moves;
    runs = λ g e v at l w shows. subst (λ u. SeesFlow g e x.fun.now s1 (assumed span u at)) (sym (bit_of is w)) (by g e at l shows (bool_value g e c) refl);
  }
    where
      by : (g : Graph) (e : Env) (at : State) → IsLater x d2 g e → Shows g e s0 at → (b : Bool) → bool_value g e c ≡ b → SeesFlow g e x.fun.now s1 (assumed span (value.Bit b) at)
      by g e at l shows true holds = f.good g e at l (is_not g (later_keeps f.moves.keeps l).grows e ∙ ap not holds) shows
      by g e at l shows false holds = f.bad g e at l (is_not g (later_keeps f.moves.keeps l).grows e ∙ ap not holds) shows
