-- A run that fails wherever it goes on, as where a value is of a form that no typed program has there.
use Rattle.std.proofs.Common.{◌≡◌, ℕ, true, List, map, Option, Some, None, refl, sym, ap, subst, ◌∙◌}
use Rattle.sk_base.specs.declared.span.Span.{Span}
use Rattle.sk_dag.specs.declared.env.Env.{Env}
use Rattle.sk_dag.specs.declared.node.BoolId.{BoolId}
use Rattle.sk_dag.specs.declared.node.WordId.{WordId}
use Rattle.sk_dag.specs.declared.shape.Shape.{Shape}
use Rattle.sk_dag.specs.declared.shape.Shape.TheVariants as shape
use Rattle.sk_dag.specs.declared.shape.Seen.TheVariants as seen
use Rattle.sk_dag.specs.declared.shape.Targets.{Targets}
use Rattle.sk_dag.specs.Graph.{Graph, Grows, HasBool}
use Rattle.sk_dag.specs.Eval.{bool_value, word_value, Keeps}
use Rattle.sk_dag.specs.EvalShape.{held_slot}
use Rattle.sk_arr.specs.Answers.{shapes_value}
use Rattle.sk_arr.specs.Shapes.{Stands}
use Rattle.sk_arr.proofs.Parts.{shape_law}
use Rattle.sk_arr.proofs.Standing.{bit_stands}
use Rattle.sk_arr.proofs.Values.{value_bit, value_int, value_reference, value_array}
use Rattle.sk_prog.specs.declared.value.Value.{Value}
use Rattle.sk_prog.specs.declared.value.Value.TheVariants as value
use Rattle.sk_heap.specs.declared.slot.Slot.{Slot}
use Rattle.sk_model.specs.Step.{Comp, pure, fail, skip}
use Rattle.sk_model.specs.Eval.{choose}
use Rattle.sk_model.specs.Exec.{Flow, Onward}
use Rattle.sk_model.specs.Heap.{read_field}
use Rattle.sk_heap_laws.specs.Values.{place_of, holds_in, value_of, value_in}
use Rattle.sk_heap_laws.proofs.Parts.{of_bit, of_int, of_null, of_slot, of_array}
use Rattle.sk_sym_state.specs.declared.setting.Setting.{Setting}
use Rattle.sk_sym_state.specs.declared.state.SymState.{SymState}
use Rattle.sk_sym_state.specs.Seen.{IsWorth}
use Rattle.sk_sym_state.specs.Stands.{StateStands}
use Rattle.sk_sym_state.specs.Shows.{Sees, SeesFlow}
use Rattle.sk_sym_state.specs.Meaning.{ExecutesOn, DoesOn, FailsWhere}
use Rattle.sk_sym_state.proofs.Carrying.{later_keeps, Moves-trans}
use Rattle.sk_sym_state.proofs.Ends.{moves_none}
use Rattle.sk_sym_steps.specs.Steps.{EvaluatesOn, FailsHere, asserted, assumed}

-- where a node holds everywhere, the run fails
pub fails_now : {x : Setting} {d0 d1 d2 : Graph} {s0 s1 : SymState} {always : BoolId} → StateStands d0 x.expanded.now.prog s0 → Keeps d0 d1 → ((g : Graph) → Grows d1 g → (e : Env) → bool_value g e always ≡ true) → FailsWhere x d1 d2 s0 s1 always → FailsHere x d0 d2 s0 s1
fails_now h keeps is f = record {
  moves = Moves-trans (moves_none keeps h) f.moves;
  fails = λ g e at l shows. f.bad g e at l (is g (later_keeps f.moves.keeps l).grows e) shows;
}

-- so does a step that fails whatever is given
module _ {A : Type 0} {x : Setting} {d0 d1 : Graph} {s0 s1 : SymState} {Given : Graph → Env → A → Type 0} (f : FailsHere x d0 d1 s0 s1) where
  pub failing_executes : {k : Env → A → Comp Flow} → ((g : Graph) (e : Env) (a : A) → Given g e a → (span : Span) × (k e a ≡ fail span)) → ExecutesOn x d0 d1 s0 s1 Given k
  failing_executes {k} is = record {
    moves = f.moves;
    runs = λ g e a at l given shows. subst (λ (m : Comp Flow). SeesFlow g e x.fun.now s1 (m at)) (sym (is g e a given).1) (f.fails g e at l shows);
  }

  pub failing_does : {B : Type 0} {Is : Graph → Env → B → Type 0} {k : Env → A → Comp B} → ((g : Graph) (e : Env) (a : A) → Given g e a → (span : Span) × (k e a ≡ fail span)) → DoesOn x d0 d1 s0 s1 Given Is k
  failing_does {B} {Is} {k} is = record {
    moves = f.moves;
    runs = λ g e a at l given shows. subst (λ (m : Comp B). Sees g e s1 (Is g e) (m at)) (sym (is g e a given).1) (f.fails g e at l shows);
  }

  pub failing_evaluates : {r : Shape} {k : Env → A → Comp Value} → Stands d1 r → ((g : Graph) (e : Env) (a : A) → Given g e a → (span : Span) × (k e a ≡ fail span)) → EvaluatesOn x d0 d1 s0 s1 Given r k
  failing_evaluates {r} {k} there is = record { does = failing_does {Is = λ g e. IsWorth g e s1.heap r} {k = k} is; there = there }

-- ---- values by the forms of their shapes

module _ (g : Graph) (e : Env) (heap : List Slot) where
  abbrev place : ℕ → ℕ
  place = place_of (holds_in g e heap)

  pub bit_value : (c : BoolId) → value_in g e heap (shape.Bit c) ≡ value.Bit (bool_value g e c)
  bit_value c = ap (value_of place) (value_bit g e c) ∙ of_bit place (bool_value g e c)

  pub int_value : (c : WordId) → value_in g e heap (shape.Int c) ≡ value.Int (word_value g e c)
  int_value c = ap (value_of place) (value_int g e c) ∙ of_int place (word_value g e c)

  pub reference_value : (t : Targets) → value_in g e heap (shape.Reference t) ≡ value_of place (seen.Slot (held_slot g e t.slots.items))
  reference_value t = ap (value_of place) (value_reference g e t)

  pub array_value : (ss : List Shape) → value_in g e heap (shape.Array ss) ≡ value.Array (map (value_of place) (shapes_value g e ss))
  array_value ss = ap (value_of place) (value_array g e ss) ∙ of_array place (shapes_value g e ss)

  -- what is no bit chooses neither way
  module _ {A : Type 0} (span : Span) (yes no : Comp A) where
    on_slot : (o : Option ℕ) → choose span yes no (value_of place (seen.Slot o)) ≡ fail span
    on_slot None = ap (choose span yes no) (of_null place)
    on_slot (Some n) = ap (choose span yes no) (of_slot place n)

    pub no_bit_chooses : (a : Shape) → ((c : BoolId) → a ≡ shape.Bit c → ⊥) → choose span yes no (value_in g e heap a) ≡ fail span
    no_bit_chooses = shape_law (λ a. ((c : BoolId) → a ≡ shape.Bit c → ⊥) → choose span yes no (value_in g e heap a) ≡ fail span)
        (λ c other. absurd (other c refl))
        (λ c other. ap (choose span yes no) (int_value c))
        (λ t other. ap (choose span yes no) (reference_value t) ∙ on_slot (held_slot g e t.slots.items))
        (λ ss below other. ap (choose span yes no) (array_value ss))

  -- what is no reference has no field
  pub no_reference_reads : (span : Span) (field : ℕ) (a : Shape) → ((t : Targets) → a ≡ shape.Reference t → ⊥) → read_field span field (value_in g e heap a) ≡ fail span
  no_reference_reads span field = shape_law (λ a. ((t : Targets) → a ≡ shape.Reference t → ⊥) → read_field span field (value_in g e heap a) ≡ fail span)
      (λ c other. ap (read_field span field) (bit_value c))
      (λ c other. ap (read_field span field) (int_value c))
      (λ t other. absurd (other t refl))
      (λ ss below other. ap (read_field span field) (array_value ss))

module _ {x : Setting} {d0 d1 : Graph} {s0 s1 : SymState} {a : Shape} (span : Span) (f : FailsHere x d0 d1 s0 s1) where
  pub no_bit_asserts : ((c : BoolId) → a ≡ shape.Bit c → ⊥) → ExecutesOn x d0 d1 s0 s1 (λ g e. IsWorth g e s0.heap a) (λ e. asserted span)
  no_bit_asserts other = failing_executes {Given = λ g e. IsWorth g e s0.heap a} f {k = λ e. asserted span} (λ g e v w. (span, ap (asserted span) (sym w.value) ∙ no_bit_chooses g e s0.heap span (pure Onward) (fail span) a other))

  pub no_bit_assumes : ((c : BoolId) → a ≡ shape.Bit c → ⊥) → ExecutesOn x d0 d1 s0 s1 (λ g e. IsWorth g e s0.heap a) (λ e. assumed span)
  no_bit_assumes other = failing_executes {Given = λ g e. IsWorth g e s0.heap a} f {k = λ e. assumed span} (λ g e v w. (span, ap (assumed span) (sym w.value) ∙ no_bit_chooses g e s0.heap span (pure Onward) (skip span) a other))

  pub no_reference_evaluates : (field : ℕ) {always : BoolId} → HasBool d1.nodes always → ((t : Targets) → a ≡ shape.Reference t → ⊥) → EvaluatesOn x d0 d1 s0 s1 (λ g e. IsWorth g e s0.heap a) (shape.Bit always) (λ e. read_field span field)
  no_reference_evaluates field {always} there other = failing_evaluates {Given = λ g e. IsWorth g e s0.heap a} f {k = λ e. read_field span field} (bit_stands d1 always there) (λ g e v w. (span, ap (read_field span field) (sym w.value) ∙ no_reference_reads g e s0.heap span field a other))
