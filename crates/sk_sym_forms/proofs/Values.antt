-- Values that are given, and values that are made of others.
use Rattle.std.proofs.Common.{◌≡◌, refl, sym, ap, subst, ◌∙◌, List}
use Rattle.sk_dag.specs.declared.env.Env.{Env}
use Rattle.sk_dag.specs.declared.node.WordId.{WordId}
use Rattle.sk_dag.specs.declared.shape.Shape.{Shape}
use Rattle.sk_dag.specs.declared.shape.Shape.TheVariants as shape
use Rattle.sk_dag.specs.Graph.{Graph}
use Rattle.sk_dag.specs.Eval.{word_value, Keeps}
use Rattle.sk_dag.specs.EvalShape.{shape_value}
use Rattle.sk_arr.proofs.Values.{value_int}
use Rattle.sk_heap.specs.declared.slot.Slot.{Slot}
use Rattle.sk_prog.specs.declared.value.Value.{Value}
use Rattle.sk_prog.specs.declared.value.Value.TheVariants as value
use Rattle.sk_model.specs.declared.expanded.Choice.{Choice}
use Rattle.sk_model.specs.Step.{pure}
use Rattle.sk_heap_laws.specs.Values.{place_of, holds_in, value_of}
use Rattle.sk_heap_laws.proofs.Parts.{of_int}
use Rattle.sk_sym_literals.specs.Given.{IsGiven, IsMade, IsChosen}
use Rattle.sk_sym_state.specs.declared.setting.Setting.{Setting}
use Rattle.sk_sym_state.specs.declared.state.SymState.{SymState}
use Rattle.sk_sym_state.specs.Seen.{IsWorth}
use Rattle.sk_sym_state.specs.Stands.{StateStands}
use Rattle.sk_sym_state.specs.Meaning.{Evaluates, choice_at}
use Rattle.sk_sym_state.proofs.Ends.{moves_none, goes}
use Rattle.sk_sym_steps.specs.Steps.{EvaluatesOn}

module _ {x : Setting} {d0 d1 : Graph} {s : SymState} {r : Shape} (h : StateStands d0 x.expanded.now.prog s) (keeps : Keeps d0 d1) where
  pub given_evaluates : {v : Value} → IsGiven d1 v r → Evaluates x d0 d1 s s r (λ e. pure v)
  given_evaluates {v} is = record {
    does = record { moves = moves_none keeps h; runs = λ g e at l shows. record { shows = shows; is = record { value = is.value g l.grows e (place_of (holds_in g e s.heap)); live = is.live g e (holds_in g e s.heap) } } };
    there = is.stands;
  }

  pub chosen_evaluates : {v : Choice → Value} → IsChosen d1 x.expanded.now (choice_at x) v r → Evaluates x d0 d1 s s r (λ e. pure (v (choice_at x e)))
  chosen_evaluates {v} is = record {
    does = record { moves = moves_none keeps h; runs = λ g e at l shows. record { shows = shows; is = record { value = is.value g l.grows e l.range (place_of (holds_in g e s.heap)); live = is.live g e (holds_in g e s.heap) } } };
    there = is.stands;
  }

  pub made_evaluates : {a : Shape} (f : Value → Value) → IsMade d1 a f r → EvaluatesOn x d0 d1 s s (λ g e. IsWorth g e s.heap a) r (λ e v. pure (f v))
  made_evaluates {a} f is = record {
    does = goes {Is = λ g e. IsWorth g e s.heap r} {k = λ e v. pure (f v)} h keeps (λ g e v at l w shows. (f v, refl, record { value = is.value g l.grows e (place_of (holds_in g e s.heap)) ∙ ap f w.value; live = is.live g e (holds_in g e s.heap) w.live }));
    there = is.stands;
  }

-- a shape that is a word is worth it
pub int_worth : {g : Graph} {e : Env} {heap : List Slot} {a : Shape} {c : WordId} {v : Value} → a ≡ shape.Int c → IsWorth g e heap a v → v ≡ value.Int (word_value g e c)
int_worth {g} {e} {heap} {a} {c} is w =
    sym w.value
    ∙ ap (λ r. value_of (place_of (holds_in g e heap)) (shape_value g e r)) is
    ∙ ap (value_of (place_of (holds_in g e heap))) (value_int g e c)
    ∙ of_int (place_of (holds_in g e heap)) (word_value g e c)
