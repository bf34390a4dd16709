-- What is stored in variables.
use Rattle.std.proofs.Common.{◌≡◌, ℕ, ℤ, Bool, false, List, map, Option, Some, None, refl, sym, ap, subst, ◌∙◌}
use Rattle.std.specs.Prelude.{[], ⊤, if◌then◌else◌, slice_index_or, slice_set}
use Rattle.sk_base.specs.declared.span.Span.{Span}
use Rattle.sk_dag.specs.declared.env.Env.{Env}
use Rattle.sk_dag.specs.declared.node.BoolId.{BoolId}
use Rattle.sk_dag.specs.declared.node.WordId.{WordId}
use Rattle.sk_dag.specs.declared.shape.Shape.{Shape}
use Rattle.sk_dag.specs.Graph.{Graph, Grows}
use Rattle.sk_dag.specs.Eval.{bool_value, word_value, Keeps}
use Rattle.sk_dag.proofs.EvalLemmas.{Keeps-trans}
use Rattle.sk_arr.specs.Shapes.{Stands}
use Rattle.sk_arr.specs.Answers.{IsCopy}
use Rattle.sk_arr.proofs.Standing.{Stands-keeps}
use Rattle.sk_heap.specs.declared.slot.Slot.{Slot}
use Rattle.sk_prog.specs.declared.value.Value.{Value}
use Rattle.sk_model.specs.Step.{State, Step, Goes, Fails, Skips, Comp, and_then, ◌>>=◌, pure}
use Rattle.sk_model.specs.Heap as model
use Rattle.sk_model.specs.Values.{replaced}
use Rattle.sk_model.specs.Eval.{or_fail}
use Rattle.sk_model.specs.Exec.{Onward, onward}
use Rattle.sk_heap_laws.specs.Values.{place_of, holds_in, value_of, value_in, IsLive}
use Rattle.sk_sym_state.specs.declared.setting.Setting.{Setting}
use Rattle.sk_sym_state.specs.declared.state.SymState.{SymState}
use Rattle.sk_sym_state.specs.Seen.{IsWorth}
use Rattle.sk_sym_state.specs.Stands.{StateStands}
use Rattle.sk_sym_state.specs.Shows.{Shows, SeesFlow, Sees}
use Rattle.sk_sym_state.specs.Variables.{with_slots, IsVariable}
use Rattle.sk_sym_state.specs.Meaning.{IsLater, DoesOn, ExecutesOn, FailsWhere}
use Rattle.sk_sym_state.proofs.Carrying.{later_keeps, failed_over, skipped_over, Moves-trans}
use Rattle.sk_sym_state.proofs.Ends.{fails_or_goes}
use Rattle.sk_sym_state.proofs.Scopes.{reads, assigns_does}
use Rattle.sk_sym_stores.specs.declared.location.Location.{Location}
use Rattle.sk_sym_stores.specs.declared.location.Root.TheVariants.{Variable}
use Rattle.sk_sym_stores.specs.Locations.{RootIs}
use Rattle.sk_sym_stores.specs.Replaced.{IsReplaced}
use Rattle.sk_sym_stores.specs.Stores.{IsStored, Stores}

-- ---- one thing after another with something that is given

module _ {x : Setting} {d0 d1 d2 : Graph} {s0 s1 s2 : SymState} {A B C : Type 0} {Given : Graph → Env → A → Type 0} {Is : Graph → Env → B → Type 0} {Then : Graph → Env → C → Type 0} where
  pub on_then : {k : Env → A → Comp B} {j : Env → B → Comp C} → DoesOn x d0 d1 s0 s1 Given Is k → DoesOn x d1 d2 s1 s2 Is Then j → DoesOn x d0 d2 s0 s2 Given Then (λ e a. k e a >>= j e)
  on_then {k} {j} first second = record {
    moves = Moves-trans first.moves second.moves;
    runs = λ g e a at l given shows. by g e l (k e a at) (first.runs g e a at (later_keeps second.moves.keeps l) given shows);
  }
    where
      by : (g : Graph) (e : Env) → IsLater x d2 g e → (t : Step B) → Sees g e s1 (Is g e) t → Sees g e s2 (Then g e) (and_then t (j e))
      by g e l (Goes b at) h = second.runs g e b at l h.is h.shows
      by g e l (Fails span) h = let k = second.moves.stays g e l h.path in failed_over k.rest k.path h
      by g e l (Skips span) h = let k = second.moves.stays g e l h.path in skipped_over k.rest k.path h

-- the same meaning in other words
pub on_same : {A B : Type 0} {x : Setting} {d0 d1 : Graph} {s0 s1 : SymState} {Given : Graph → Env → A → Type 0} {Is : Graph → Env → B → Type 0} {k j : Env → A → Comp B} → ((g : Graph) (e : Env) (a : A) (at : State) → Given g e a → j e a at ≡ k e a at) → DoesOn x d0 d1 s0 s1 Given Is k → DoesOn x d0 d1 s0 s1 Given Is j
on_same {s1 = s1} {Is = Is} same h = record { moves = h.moves; runs = λ g e a at l given shows. subst (Sees g e s1 (Is g e)) (sym (same g e a at given)) (h.runs g e a at l given shows) }

-- a step without a value is a statement
pub on_onward : {A : Type 0} {x : Setting} {d0 d1 : Graph} {s0 s1 : SymState} {Given : Graph → Env → A → Type 0} {k : Env → A → Comp (Unit {0})} → DoesOn x d0 d1 s0 s1 Given (λ g e (u : Unit {0}). ⊤) k → ExecutesOn x d0 d1 s0 s1 Given (λ e a. onward (k e a))
on_onward {A} {x} {d0} {d1} {s0} {s1} {Given} {k} h = record { moves = h.moves; runs = λ g e a at l given shows. by g e (k e a at) (h.runs g e a at l given shows) }
  where
    by : (g : Graph) (e : Env) (t : Step (Unit {0})) → Sees g e s1 (λ u. ⊤) t → SeesFlow g e x.fun.now s1 (and_then t (λ u. pure Onward))
    by g e (Goes u at) h = h.shows
    by g e (Fails span) h = h
    by g e (Skips span) h = h

-- ---- what is replaced, in a run

-- what is replaced is worth what the model replaces
pub replaced_worth : {g0 : Graph} (g : Graph) (e : Env) (heap : List Slot) {indexes : List WordId} {held value made : Shape} {fails : BoolId} → IsReplaced g0 indexes held value made fails → Grows g0 g → (zs : List ℤ) (whole v : Value) → zs ≡ map (word_value g e) indexes → value_in g e heap held ≡ whole → value_in g e heap value ≡ v
    → replaced zs whole v ≡ (if bool_value g e fails then None else Some (value_in g e heap made))
replaced_worth g e heap is more zs whole v same held value = (λ i. replaced (same i) (sym held i) (sym value i)) ∙ is.value g more e (holds_in g e heap)

-- ---- a variable

-- a store into a variable reads it, replaces the part, and writes it
store_in : (span : Span) (slot : ℕ) (g : Graph) (e : Env) (heap : List Slot) (root : model.Root) (zs : List ℤ) (v : Value) (at : State) → RootIs g e heap (Variable slot) root → model.store span (record { root = root; indexes = zs }) v at ≡ and_then (and_then (model.read slot at) (λ whole. or_fail span (replaced zs whole v))) (model.write slot)
store_in span slot g e heap (model.Variable n) zs v at is =
    ap (λ n. model.store span (record { root = model.Variable n; indexes = zs }) v at) is
    ∙ by (replaced zs (slice_index_or at.slots slot model.blank) v)
  where
    by : (o : Option Value) → model.write_whole span (model.Variable slot) o at ≡ and_then (or_fail span o at) (model.write slot)
    by None = refl
    by (Some w) = refl
store_in span slot g e heap (model.Field w k) zs v at is = absurd is

assigned_does : {x : Setting} {d : Graph} {s s1 : SymState} {slot : ℕ} {r : Shape} → StateStands d x.expanded.now.prog s → Stands d r → s1 ≡ with_slots s (slice_set s.frame.slots slot r) → DoesOn x d d s s1 (λ g e v. IsWorth g e s.heap r v) (λ g e (u : Unit {0}). ⊤) (λ e v. model.write slot v)
assigned_does {x} {d} {s} {s1} {slot} {r} h there is = subst (λ t. DoesOn x d d s t (λ g e v. IsWorth g e s.heap r v) (λ g e (u : Unit {0}). ⊤) (λ e v. model.write slot v)) (sym is) (assigns_does h there)

-- a whole variable is written
pub variable_written : {x : Setting} {d : Graph} {s0 s1 : SymState} {slot : ℕ} {indexes : List WordId} {value made : Shape} (span : Span) → StateStands d x.expanded.now.prog s0 → indexes ≡ [] → IsCopy d value made → s1 ≡ with_slots s0 (slice_set s0.frame.slots slot made) → Stores x d d s0 s1 span (record { root = Variable slot; indexes = indexes }) value
variable_written {x} {d} {s0} {s1} {slot} {indexes} {value} {made} span h none copy assigned = record {
  does = record {
    moves = does.moves;
    runs = λ g e p at l given shows. subst (Sees g e s1 (λ (u : Unit {0}). ⊤)) (sym (stored g e p at given)) (does.runs g e p.1 at l (copied g e p.1 given.1) shows);
  };
}
  where
    does : DoesOn x d d s0 s1 (λ g e v. IsWorth g e s0.heap made v) (λ g e (u : Unit {0}). ⊤) (λ e v. model.write slot v)
    does = assigned_does h copy.stands assigned

    stored : (g : Graph) (e : Env) (p : model.Location × Value) (at : State) → IsStored s0.heap (record { root = Variable slot; indexes = indexes }) value g e p → model.store span p.0 p.1 at ≡ model.write slot p.1 at
    stored g e p at given =
        store_in span slot g e s0.heap p.0.root p.0.indexes p.1 at given.0.root
        ∙ ap (λ zs. and_then (and_then (model.read slot at) (λ whole. or_fail span (replaced zs whole p.1))) (model.write slot)) (given.0.indexes ∙ ap (map (word_value g e)) none)

    copied : (g : Graph) (e : Env) (v : Value) → IsWorth g e s0.heap value v → IsWorth g e s0.heap made v
    copied g e v w = record { value = ap (value_of (place_of (holds_in g e s0.heap))) (copy.value g e) ∙ w.value; live = subst (IsLive (holds_in g e s0.heap)) (sym (copy.value g e)) w.live }

module _ {x : Setting} {d0 d1 d2 : Graph} {s0 s1 s2 : SymState} {slot : ℕ} {indexes : List WordId} {held value made : Shape} {fails : BoolId} (span : Span) (h : StateStands d0 x.expanded.now.prog s0) (read : IsVariable s0 slot held) (keeps : Keeps d0 d1) (is : IsReplaced d1 indexes held value made fails) (f : FailsWhere x d1 d2 s0 s1 fails) (assigned : s2 ≡ with_slots s1 (slice_set s1.frame.slots slot made)) where
  abbrev location : Location
  location = record { root = Variable slot; indexes = indexes }

  -- what the variable holds, with the value in its part
  abbrev changed : Env → model.Location × Value → Comp Value
  changed e p = model.read slot >>= (λ whole. or_fail span (replaced p.0.indexes whole p.1))

  was : (g : Graph) (e : Env) (at : State) → IsLater x d2 g e → Shows g e s0 at → IsWorth g e s0.heap held (slice_index_or at.slots slot model.blank)
  was g e at l shows = ((reads h read).does.runs g e at (later_keeps (Keeps-trans keeps f.moves.keeps) l) shows).is

  now : (g : Graph) (e : Env) (p : model.Location × Value) (at : State) → IsLater x d2 g e → IsStored s0.heap location value g e p → Shows g e s0 at → replaced p.0.indexes (slice_index_or at.slots slot model.blank) p.1 ≡ (if bool_value g e fails then None else Some (value_in g e s0.heap made))
  now g e p at l given shows = replaced_worth g e s0.heap is (later_keeps f.moves.keeps l).grows p.0.indexes (slice_index_or at.slots slot model.blank) p.1 given.0.indexes (was g e at l shows).value given.1.value

  made_worth : (g : Graph) (e : Env) (p : model.Location × Value) (at : State) → IsLater x d2 g e → IsStored s0.heap location value g e p → Shows g e s0 at → bool_value g e fails ≡ false → IsWorth g e s1.heap made (value_in g e s0.heap made)
  made_worth g e p at l given shows c = subst (λ heap. IsWorth g e heap made (value_in g e s0.heap made)) (sym f.heap) (record {
    value = refl;
    live = is.live g (later_keeps f.moves.keeps l).grows e (holds_in g e s0.heap) (was g e at l shows).live given.1.live c;
  })

  changes : DoesOn x d0 d2 s0 s1 (IsStored s0.heap location value) (λ g e. IsWorth g e s1.heap made) changed
  changes = fails_or_goes h keeps f
      (λ g e p at l given shows c. (span, ap (λ o. or_fail span o at) (now g e p at l given shows ∙ ap (λ (b : Bool). if b then None else Some (value_in g e s0.heap made)) c)))
      (λ g e p at l given shows c. (
        value_in g e s0.heap made,
        ap (λ o. or_fail span o at) (now g e p at l given shows ∙ ap (λ (b : Bool). if b then None else Some (value_in g e s0.heap made)) c),
        made_worth g e p at l given shows c,
      ))

  pub variable_stores : Stores x d0 d2 s0 s2 span location value
  variable_stores = record {
    does = on_same (λ g e p at given. store_in span slot g e s0.heap p.0.root p.0.indexes p.1 at given.0.root)
        (on_then changes (assigned_does f.moves.stands (Stands-keeps f.moves.keeps is.stands) assigned));
  }
