-- Conditions, and what fails.
use Rattle.std.proofs.Common.{◌≡◌, ℕ, ◌+◌, List, [], Bool, true, false, Option, Some, None, refl, sym, ap, subst, ◌∙◌, arith}
use Rattle.sk_base.specs.declared.span.Span.{Span}
use Rattle.sk_dag.specs.declared.env.Env.{Env}
use Rattle.sk_dag.specs.declared.node.BoolId.{BoolId}
use Rattle.sk_dag.specs.declared.node.WordId.{WordId}
use Rattle.sk_dag.specs.declared.shape.Shape.{Shape}
use Rattle.sk_dag.specs.declared.shape.Shape.TheVariants as shape
use Rattle.sk_dag.specs.declared.shape.Seen.TheVariants as seen
use Rattle.sk_dag.specs.declared.shape.Targets.{Targets}
use Rattle.sk_dag.specs.Graph.{Graph, HasBool}
use Rattle.sk_dag.specs.Eval.{bool_value, word_value, Keeps}
use Rattle.sk_dag.specs.EvalShape.{held_slot}
use Rattle.sk_arr.specs.Shapes.{Stands}
use Rattle.sk_arr.proofs.Makers.{Keeps-refl}
use Rattle.sk_arr.proofs.Values.{value_int, value_reference, value_array}
use Rattle.sk_heap.specs.declared.slot.Slot.{Slot}
use Rattle.sk_heap_laws.specs.Values.{place_of, holds_in, value_of}
use Rattle.sk_heap_laws.proofs.Parts.{of_int, of_null, of_slot, of_array}
use Rattle.sk_prog.specs.declared.value.Value.{Value}
use Rattle.sk_prog.specs.declared.value.Value.TheVariants as value
use Rattle.sk_prog.specs.declared.expr.PExpr.{PExpr}
use Rattle.sk_model.specs.Parts.{Part}
use Rattle.sk_model.specs.Step.{State, Step, Goes, Fails, Skips, Comp, and_then, ◌>>=◌, fail}
use Rattle.sk_model.specs.Eval.{choose}
use Rattle.sk_model.specs.Heap as model
use Rattle.sk_model.specs.Exec.{Flow}
use Rattle.sk_sym_state.specs.declared.setting.Setting.{Setting}
use Rattle.sk_sym_state.specs.declared.state.SymState.{SymState}
use Rattle.sk_sym_state.specs.Seen.{IsWorth}
use Rattle.sk_sym_state.specs.Stands.{StateStands}
use Rattle.sk_sym_state.specs.Shows.{Shows, Sees}
use Rattle.sk_sym_state.specs.Branching.{IsBit}
use Rattle.sk_sym_state.specs.Meaning.{Does, DoesOn, Executes, Evaluates}
use Rattle.sk_sym_state.proofs.Carrying.{Moves-trans, later_keeps}
use Rattle.sk_sym_state.proofs.Following.{executes_on, does_on}
use Rattle.sk_sym_state.proofs.Ends.{moves_none, does_same, executes_same}
use Rattle.sk_sym_forms.specs.Steps.{EvaluatesOn}
use Rattle.sk_sym_places.specs.Location.{Location}
use Rattle.sk_sym_places.specs.Root.TheVariants.{Variable}
use Rattle.sk_sym_places.proofs.Locating.{variable_locates}
use Rattle.sk_sym_places.specs.declared.place.Place.{Place}
use Rattle.sk_sym_places.specs.declared.place.Place.TheVariants.{One}
use Rattle.sk_sym_places.specs.Places.{PlaceIs, Places}
use Rattle.sk_sym_places.proofs.Places.{one_stands}
use Rattle.sk_sym_walk.specs.declared.activation.Activation.{Activation}
use Rattle.sk_sym_walk.specs.Parts.{siteless, then_parts, either_part, as_bit, IsEvaluated, IsEvaluatedOn, IsTested, IsExecuted, IsExecutedOn}
use Rattle.sk_sym_walk.specs.Patterns.{strings_part, strings_target}
use Rattle.sk_sym_walk.specs.Targets.{IsPlaced}
use Rattle.sk_sym_walk.proofs.Sequences.{SamePart, same_part, bit_worth}

-- ---- values as bits

-- what is none fails
module _ (span : Span) {g : Graph} {e : Env} {heap : List Slot} {v : Value} (at : State) where
  pub int_fails : (w : WordId) → IsWorth g e heap (shape.Int w) v → as_bit span v at ≡ Fails span
  int_fails w is = ap (λ u. as_bit span u at) (sym is.value ∙ ap (value_of (place_of (holds_in g e heap))) (value_int g e w) ∙ of_int (place_of (holds_in g e heap)) (word_value g e w))

  pub array_fails : (list : List Shape) → IsWorth g e heap (shape.Array list) v → as_bit span v at ≡ Fails span
  array_fails list is = ap (λ u. as_bit span u at) (sym is.value ∙ ap (value_of (place_of (holds_in g e heap))) (value_array g e list) ∙ of_array (place_of (holds_in g e heap)) _)

  pub reference_fails : (targets : Targets) → IsWorth g e heap (shape.Reference targets) v → as_bit span v at ≡ Fails span
  reference_fails targets is =
      ap (λ u. as_bit span u at) (sym is.value ∙ ap (value_of (place_of (holds_in g e heap))) (value_reference g e targets))
      ∙ by (held_slot g e targets.slots.items)
    where
      by : (slot : Option ℕ) → as_bit span (value_of (place_of (holds_in g e heap)) (seen.Slot slot)) at ≡ Fails span
      by None = ap (λ u. as_bit span u at) (of_null (place_of (holds_in g e heap)))
      by (Some n) = ap (λ u. as_bit span u at) (of_slot (place_of (holds_in g e heap)) n)

-- a bit goes on as it is
pub bit_does : {x : Setting} {d : Graph} {s : SymState} {c : BoolId} (span : Span) → StateStands d x.expanded.now.prog s → DoesOn x d d s s (λ g e. IsWorth g e s.heap (shape.Bit c)) (IsBit c) (λ e. as_bit span)
bit_does {x} {d} {s} {c} span h = record {
  moves = moves_none (Keeps-refl d) h;
  runs = λ g e v at l w shows. subst (λ u. Sees g e s (IsBit c g e) (as_bit span u at)) (sym (bit_worth w)) (by g e at shows (bool_value g e c) refl);
}
  where
    by : (g : Graph) (e : Env) (at : State) → Shows g e s at → (b : Bool) → bool_value g e c ≡ b → Sees g e s (IsBit c g e) (as_bit span (value.Bit b) at)
    by g e at shows true is = record { shows = shows; is = ap (λ b. value.Bit b) (sym is) }
    by g e at shows false is = record { shows = shows; is = ap (λ b. value.Bit b) (sym is) }

-- where the run has failed, whatever fails has been done
pub fails_on : {A B : Type 0} {x : Setting} {d0 d1 : Graph} {s0 s1 : SymState} {Given : Graph → Env → A → Type 0} {Is : Graph → Env → B → Type 0} {k : Env → A → Comp B} (span : Span) → Executes x d0 d1 s0 s1 (λ e. fail span) → ((g : Graph) (e : Env) (a : A) (at : State) → Given g e a → k e a at ≡ Fails span) → DoesOn x d0 d1 s0 s1 Given Is k
fails_on {s1 = s1} {Is = Is} span h same = record {
  moves = h.moves;
  runs = λ g e a at l is shows. subst (λ t. Sees g e s1 (Is g e) t) (sym (same g e a at is)) (h.runs g e at l shows);
}

-- the graph grows behind it
pub failed_kept : {x : Setting} {d0 d1 d2 : Graph} {s0 s1 : SymState} (span : Span) → Executes x d0 d1 s0 s1 (λ e. fail span) → Keeps d1 d2 → Executes x d0 d2 s0 s1 (λ e. fail span)
failed_kept span h keeps = record { moves = Moves-trans h.moves (moves_none keeps h.moves.stands); runs = λ g e at l shows. h.runs g e at (later_keeps keeps l) shows }

-- ---- a condition, and what is done by it

pub tested_is : {a : Activation} {d0 d1 d2 : Graph} {s0 s1 s2 : SymState} {i j : ℕ} {p : Env → Part (Comp Value)} {r : Shape} {c : BoolId} (span : Span) → IsEvaluated a d0 d1 s0 s1 i j p r → DoesOn a.setting d1 d2 s1 s2 (λ g e. IsWorth g e s1.heap r) (IsBit c) (λ e. as_bit span) → HasBool d2.nodes c → IsTested a d0 d2 s0 s2 i j span p c
tested_is span first next there = record { does = does_on first.evaluates.does next; there = there; place = record { place = first.place.place } }

-- what is no bit fails at once
chosen : {X : Type 0} (span : Span) (m n : Comp X) (t : Step Value) → and_then t (choose span m n) ≡ and_then (and_then t (as_bit span)) (choose span m n)
chosen span m n (Goes (value.Bit true) s) = refl
chosen span m n (Goes (value.Bit false) s) = refl
chosen span m n (Goes (value.Int z) s) = refl
chosen span m n (Goes value.Null s) = refl
chosen span m n (Goes (value.Place r) s) = refl
chosen span m n (Goes (value.Array' shape vs) s) = refl
chosen span m n (Fails t) = refl
chosen span m n (Skips t) = refl

module _ {a : Activation} {d0 d1 d2 : Graph} {s0 s1 s2 : SymState} {i j k : ℕ} {span : Span} {p : Env → Part (Comp Value)} {c : BoolId} where
  pub evaluated_by : (q r : Env → Part (Comp Value)) {t : Shape} → IsTested a d0 d1 s0 s1 i j span p c → IsEvaluatedOn a d1 d2 s1 s2 j k (IsBit c) (either_part span q r) t → IsEvaluated a d0 d2 s0 s2 i k (then_parts p (either_part span q r)) t
  evaluated_by q r first next = record {
    evaluates = record {
      does = does_same (λ e at.
          ap (λ n. and_then ((p e).at i at) ((either_part span q r e).at n)) (sym (first.place.place e))
          ∙ chosen span ((q e).at j) ((r e).at (j + (q e).count)) ((p e).at i at))
          (does_on first.does next.evaluates.does);
      there = next.evaluates.there;
    };
    place = record { place = λ e. omega (arith, first.place.place e, next.place.place e) };
  }

  pub executed_by : (q r : Env → Part (Comp Flow)) → IsTested a d0 d1 s0 s1 i j span p c → IsExecutedOn a d1 d2 s1 s2 j k (IsBit c) (either_part span q r) → IsExecuted a d0 d2 s0 s2 i k (then_parts p (either_part span q r))
  executed_by q r first next = record {
    executes = executes_same (λ e at.
        ap (λ n. and_then ((p e).at i at) ((either_part span q r e).at n)) (sym (first.place.place e))
        ∙ chosen span ((q e).at j) ((r e).at (j + (q e).count)) ((p e).at i at))
        (executes_on first.does next.executes);
    place = record { place = λ e. omega (arith, first.place.place e, next.place.place e) };
  }

-- ---- what fails without a value or a place

pub failed_evaluates : {x : Setting} {d0 d1 d2 : Graph} {s0 s1 : SymState} {r : Shape} (span : Span) → Executes x d0 d1 s0 s1 (λ e. fail span) → Keeps d1 d2 → Stands d2 r → Evaluates x d0 d2 s0 s1 r (λ e. fail span)
failed_evaluates span h keeps stands = record {
  does = record { moves = Moves-trans h.moves (moves_none keeps h.moves.stands); runs = λ g e at l shows. h.runs g e at (later_keeps keeps l) shows };
  there = stands;
}

pub failed_places : {x : Setting} {d0 d1 : Graph} {s0 s1 : SymState} {l : Location} {slot : ℕ} (span : Span) → Executes x d0 d1 s0 s1 (λ e. fail span) → l ≡ record { root = Variable slot; indexes = [] } → Places x d0 d1 s0 s1 (One l) (λ e. fail span)
failed_places {x} span h is = record {
  does = record { moves = h.moves; runs = λ g e at l shows. h.runs g e at l shows };
  there = one_stands (variable_locates {x = x} h.moves.stands is).there;
}

-- a pattern without a string fails
pub no_string : (a : Activation) (span : Span) (site k : ℕ) {list : List PExpr} → list ≡ [] → SamePart (siteless (λ e. fail span)) (strings_part a span site k list)
no_string a span site k none = same_part (λ e. ap (λ xs. strings_part a span site k xs e) none)

pub no_string_target : (a : Activation) (span : Span) (site k : ℕ) {list : List PExpr} → list ≡ [] → SamePart (siteless (λ e. fail span)) (strings_target a span site k list)
no_string_target a span site k none = same_part (λ e. ap (λ xs. strings_target a span site k xs e) none)

pub siteless_placed : {a : Activation} {d0 d1 : Graph} {s0 s1 : SymState} {i : ℕ} {p : Place} {m : Env → Comp model.Location} → Places a.setting d0 d1 s0 s1 p m → IsPlaced a d0 d1 s0 s1 i i (siteless m) p
siteless_placed h = record { places = h; place = record { place = λ e. omega arith } }
