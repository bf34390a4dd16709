-- What statements do with the values of their expressions.
use Rattle.std.proofs.Common.{◌≡◌, ℕ, List, Option, Some, None, refl, sym, ap, subst, ◌∙◌}
use Rattle.sk_base.specs.declared.span.Span.{Span}
use Rattle.sk_dag.specs.declared.env.Env.{Env}
use Rattle.sk_dag.specs.declared.node.WordId.{WordId}
use Rattle.sk_dag.specs.declared.shape.Shape.{Shape}
use Rattle.sk_dag.specs.declared.shape.Shape.TheVariants as shape
use Rattle.sk_dag.specs.declared.shape.Seen.TheVariants as seen
use Rattle.sk_dag.specs.Graph.{Graph}
use Rattle.sk_dag.specs.Eval.{word_value}
use Rattle.sk_dag.specs.EvalShape.{held_slot}
use Rattle.sk_arr.specs.Shapes.{Stands}
use Rattle.sk_arr.proofs.Makers.{Keeps-refl}
use Rattle.sk_arr.proofs.Parts.{shape_law}
use Rattle.sk_prog.specs.declared.ty.Ty.{Ty}
use Rattle.sk_prog.specs.declared.value.Value.{Value}
use Rattle.sk_prog.specs.declared.value.Value.TheVariants as value
use Rattle.sk_model.specs.Step.{Comp, pure, fail}
use Rattle.sk_model.specs.Heap.{write}
use Rattle.sk_model.specs.Exec.{Flow, Onward, Returns, onward, pay}
use Rattle.sk_heap.specs.declared.slot.Slot.{Slot}
use Rattle.sk_heap_laws.specs.Values.{place_of, holds_in, value_of, value_in}
use Rattle.sk_heap_laws.proofs.Parts.{of_null, of_slot}
use Rattle.sk_sym_state.specs.declared.setting.Setting.{Setting}
use Rattle.sk_sym_state.specs.declared.state.SymState.{SymState}
use Rattle.sk_sym_state.specs.Seen.{IsWorth}
use Rattle.sk_sym_state.specs.Stands.{StateStands}
use Rattle.sk_sym_state.specs.Variables.{IsDeclared}
use Rattle.sk_sym_state.specs.Meaning.{Evaluates, Executes, ExecutesOn}
use Rattle.sk_sym_state.proofs.Ends.{moves_none}
use Rattle.sk_sym_state.proofs.Following.{executes_on}
use Rattle.sk_sym_state.proofs.Scopes.{declares_does}
use Rattle.sk_sym_steps.specs.Steps.{FailsHere}
use Rattle.sk_sym_steps.proofs.Failing.{failing_executes, bit_value, reference_value, array_value}
use Rattle.sk_sym_frames.specs.Ended.{AnyWorth}
use Rattle.sk_sym_forms.proofs.Values.{int_worth}

module _ {x : Setting} {d0 d1 : Graph} {s0 s1 : SymState} where
  -- what is done with a word is done with a shape that is one
  pub word_executes : {a : Shape} {c : WordId} {k : Env → Value → Comp Flow} → a ≡ shape.Int c → ExecutesOn x d0 d1 s0 s1 (λ g e v. v ≡ value.Int (word_value g e c)) k → ExecutesOn x d0 d1 s0 s1 (λ g e. IsWorth g e s0.heap a) k
  word_executes is h = record { moves = h.moves; runs = λ g e v at l w shows. h.runs g e v at l (int_worth is w) shows }

  pub returns_value : {a : Shape} → ExecutesOn x d0 d1 s0 s1 (λ g e v. AnyWorth g e s0.heap (Some a) v) (λ e v. pure (Returns v)) → ExecutesOn x d0 d1 s0 s1 (λ g e. IsWorth g e s0.heap a) (λ e v. pure (Returns (Some v)))
  returns_value h = record { moves = h.moves; runs = λ g e v at l w shows. h.runs g e (Some v) at l w shows }

  pub returns_nothing : ExecutesOn x d0 d1 s0 s1 (λ g e v. AnyWorth g e s0.heap None v) (λ e v. pure (Returns v)) → Executes x d0 d1 s0 s1 (λ e. pure (Returns None))
  returns_nothing h = record { moves = h.moves; runs = λ g e at l shows. h.runs g e None at l tt shows }

pub declares : {x : Setting} {d : Graph} {s0 s1 : SymState} {slot : ℕ} {r : Shape} → StateStands d x.expanded.now.prog s0 → Stands d r → IsDeclared s0 s1 slot r → ExecutesOn x d d s0 s1 (λ g e. IsWorth g e s0.heap r) (λ e v. onward (write slot v))
declares {x} {d} {s0} {s1} {slot} {r} h there is =
    let does = declares_does h there is in
    record { moves = does.moves; runs = λ g e v at l w shows. (does.runs g e v at l w shows).shows }

pub declares_given : {x : Setting} {d0 d1 : Graph} {s0 s1 : SymState} {slot : ℕ} {r : Shape} {v : Value} → StateStands d0 x.expanded.now.prog s0 → Evaluates x d0 d1 s0 s0 r (λ e. pure v) → IsDeclared s0 s1 slot r → Executes x d0 d1 s0 s1 (λ e. onward (write slot v))
declares_given h one is = executes_on one.does (declares one.does.moves.stands one.there is)

-- a run that fails wherever it goes on
pub fails_here : {x : Setting} {d0 d1 : Graph} {s0 s1 : SymState} (span : Span) → FailsHere x d0 d1 s0 s1 → Executes x d0 d1 s0 s1 (λ e. fail span)
fails_here span f = record { moves = f.moves; runs = λ g e at l shows. f.fails g e at l shows }

-- what is no word is not paid: the run fails
no_word : (g : Graph) (e : Env) (heap : List Slot) (span : Span) (a : Shape) → ((c : WordId) → a ≡ shape.Int c → ⊥) → pay span (value_in g e heap a) ≡ fail span
no_word g e heap span = shape_law (λ a. ((c : WordId) → a ≡ shape.Int c → ⊥) → pay span (value_in g e heap a) ≡ fail span)
    (λ c other. ap (pay span) (bit_value g e heap c))
    (λ c other. absurd (other c refl))
    (λ t other. ap (pay span) (reference_value g e heap t) ∙ on_slot (held_slot g e t.slots.items))
    (λ ss below other. ap (pay span) (array_value g e heap ss))
  where
    on_slot : (o : Option ℕ) → pay span (value_of (place_of (holds_in g e heap)) (seen.Slot o)) ≡ fail span
    on_slot None = ap (pay span) (of_null (place_of (holds_in g e heap)))
    on_slot (Some n) = ap (pay span) (of_slot (place_of (holds_in g e heap)) n)

pub no_word_pays : {x : Setting} {d0 d1 : Graph} {s0 s1 : SymState} {a : Shape} (span : Span) → FailsHere x d0 d1 s0 s1 → ((c : WordId) → a ≡ shape.Int c → ⊥) → ExecutesOn x d0 d1 s0 s1 (λ g e. IsWorth g e s0.heap a) (λ e. pay span)
no_word_pays {s0 = s0} {a = a} span f other = failing_executes {Given = λ g e. IsWorth g e s0.heap a} f {k = λ e. pay span} (λ g e v w. (span, ap (pay span) (sym w.value) ∙ no_word g e s0.heap span a other))

-- nothing is done with the value
pub drops : {x : Setting} {d : Graph} {s : SymState} {a : Shape} → StateStands d x.expanded.now.prog s → ExecutesOn x d d s s (λ g e. IsWorth g e s.heap a) (λ e v. pure Onward)
drops {d = d} h = record { moves = moves_none (Keeps-refl d) h; runs = λ g e v at l w shows. shows }
