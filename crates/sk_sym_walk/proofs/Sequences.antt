-- One part after another.
use Rattle.std.proofs.Common.{◌≡◌, ℕ, ◌+◌, List, Bool, false, true≢false, refl, sym, ap, subst, ◌∙◌, arith, take, Result, Ok, Err}
use Rattle.std.specs.Prelude.{IfOk, OnOk}
use Rattle.std.proofs.lemmas.List.Elements.{All-take}
use Rattle.sk_dag.specs.declared.env.Env.{Env}
use Rattle.sk_dag.specs.declared.node.BoolId.{BoolId}
use Rattle.sk_dag.specs.declared.shape.Shape.{Shape}
use Rattle.sk_dag.specs.declared.shape.Shape.TheVariants as shape
use Rattle.sk_dag.specs.Graph.{Graph, Grows, HasBool}
use Rattle.sk_dag.specs.Eval.{bool_value, Keeps}
use Rattle.sk_dag.specs.EvalShape.{shape_value}
use Rattle.sk_dag.proofs.EvalLemmas.{Keeps-trans}
use Rattle.sk_arr.specs.Shapes.{Stands}
use Rattle.sk_arr.proofs.Makers.{Keeps-refl}
use Rattle.sk_arr.proofs.Values.{value_bit}
use Rattle.sk_heap.specs.declared.slot.Slot.{Slot}
use Rattle.sk_prog.specs.declared.value.Value.{Value}
use Rattle.sk_prog.specs.declared.value.Value.TheVariants as value
use Rattle.sk_model.specs.Parts.{Part}
use Rattle.sk_model.specs.Step.{State, Step, Goes, Fails, Skips, Comp, and_then, ◌>>=◌, pure}
use Rattle.sk_model.specs.Exec.{Flow, Onward, Returns}
use Rattle.sk_heap_laws.specs.Values.{place_of, holds_in, value_of, IsLive}
use Rattle.sk_heap_laws.proofs.Parts.{of_bit, live_bit}
use Rattle.sk_sym_state.specs.declared.setting.Setting.{Setting}
use Rattle.sk_sym_state.specs.declared.state.SymState.{SymState}
use Rattle.sk_sym_state.specs.Seen.{IsWorth}
use Rattle.sk_sym_state.specs.Stands.{StateStands}
use Rattle.sk_sym_state.specs.Shows.{Sees, SeesFlow}
use Rattle.sk_sym_state.specs.Variables.{with_slots}
use Rattle.sk_sym_state.specs.Branching.{IsBit}
use Rattle.sk_sym_state.specs.Meaning.{IsLater, Does, DoesOn, Executes, ExecutesOn, Evaluates}
use Rattle.sk_sym_state.proofs.Worth.{IsWorth-grown}
use Rattle.sk_sym_state.proofs.Carrying.{Moves-trans, later_keeps}
use Rattle.sk_sym_state.proofs.Scopes.{front_cut, slots_move, slots_show}
use Rattle.sk_sym_state.proofs.Following.{executes_on, does_on, does_beside}
use Rattle.sk_sym_state.proofs.Ends.{moves_none, does_same, executes_same}
use Rattle.sk_sym_forms.specs.Steps.{AreTwo, EvaluatesOn}
use Rattle.sk_sym_walk.specs.declared.activation.Activation.{Activation}
use Rattle.sk_sym_walk.specs.Walk.{IsBehind}
use Rattle.sk_sym_walk.specs.Parts.{siteless, then_part, then_parts, given, IsEvaluated, IsEvaluatedOn, IsExecuted, IsExecutedOn}

pub ok_more : {E A : Type 0} {P Q : A → Type 0} (result : Result A E) → ((a : A) → P a → Q a) → IfOk result P → IfOk result Q
ok_more (Ok r) more h = more r h
ok_more (Err e) more h = h

pub on_ok : {E A : Type 0} {P Q : Type 0} (result : Result A E) → (P → Q) → OnOk result P → OnOk result Q
on_ok (Ok r) more h = more h
on_ok (Err e) more h = h

-- ---- the same part in other words

pub record SamePart {A : Type 0} (p q : Env → Part (Comp A)) : Type 0 where
  pub count : (e : Env) → (q e).count ≡ (p e).count
  pub at : (e : Env) (i : ℕ) (s : State) → (q e).at i s ≡ (p e).at i s

pub same_part : {A : Type 0} {p q : Env → Part (Comp A)} → ((e : Env) → q e ≡ p e) → SamePart p q
same_part same = record { count = λ e. ap (λ r. r.count) (same e); at = λ e i s. ap (λ r. r.at i s) (same e) }

pub behind_as : {A : Type 0} {p q : Env → Part (Comp A)} {i j : ℕ} → SamePart p q → IsBehind p i j → IsBehind q i j
behind_as {i = i} same h = record { place = λ e. h.place e ∙ ap (λ n. i + n) (sym (same.count e)) }

module _ {a : Activation} {d0 d1 : Graph} {s0 s1 : SymState} {i j : ℕ} where
  pub evaluated_as : {p q : Env → Part (Comp Value)} {r : Shape} → SamePart p q → IsEvaluated a d0 d1 s0 s1 i j p r → IsEvaluated a d0 d1 s0 s1 i j q r
  evaluated_as same h = record {
    evaluates = record { does = does_same (λ e at. same.at e i at) h.evaluates.does; there = h.evaluates.there };
    place = behind_as same h.place;
  }

  pub executed_as : {p q : Env → Part (Comp Flow)} → SamePart p q → IsExecuted a d0 d1 s0 s1 i j p → IsExecuted a d0 d1 s0 s1 i j q
  executed_as same h = record { executes = executes_same (λ e at. same.at e i at) h.executes; place = behind_as same h.place }

-- ---- values

pub worth_same : {g : Graph} {e : Env} {heap : List Slot} {a r : Shape} {v : Value} → shape_value g e r ≡ shape_value g e a → IsWorth g e heap a v → IsWorth g e heap r v
worth_same {g} {e} {heap} same w = record { value = ap (value_of (place_of (holds_in g e heap))) same ∙ w.value; live = subst (IsLive (holds_in g e heap)) (sym same) w.live }

pub bit_worth : {g : Graph} {e : Env} {heap : List Slot} {c : BoolId} {v : Value} → IsWorth g e heap (shape.Bit c) v → IsBit c g e v
bit_worth {g} {e} {heap} {c} w = sym w.value ∙ ap (value_of (place_of (holds_in g e heap))) (value_bit g e c) ∙ of_bit (place_of (holds_in g e heap)) (bool_value g e c)

pub worth_bit : {g : Graph} {e : Env} {heap : List Slot} {c : BoolId} {v : Value} → IsBit c g e v → IsWorth g e heap (shape.Bit c) v
worth_bit {g} {e} {heap} {c} is = record {
  value = ap (value_of (place_of (holds_in g e heap))) (value_bit g e c) ∙ of_bit (place_of (holds_in g e heap)) (bool_value g e c) ∙ sym is;
  live = subst (IsLive (holds_in g e heap)) (sym (value_bit g e c)) (live_bit (holds_in g e heap) (bool_value g e c));
}

pub sees_more : {A : Type 0} (g : Graph) (e : Env) (s : SymState) {Is Is' : A → Type 0} → ((a : A) → Is a → Is' a) → (t : Step A) → Sees g e s Is t → Sees g e s Is' t
sees_more g e s more (Goes v at) h = record { shows = h.shows; is = more v h.is }
sees_more g e s more (Fails span) h = h
sees_more g e s more (Skips span) h = h

pub does_more : {A : Type 0} {x : Setting} {d0 d1 : Graph} {s0 s1 : SymState} {Is Is' : Graph → Env → A → Type 0} {m : Env → Comp A} → ((g : Graph) (e : Env) (a : A) → Is g e a → Is' g e a) → Does x d0 d1 s0 s1 Is m → Does x d0 d1 s0 s1 Is' m
does_more {s1 = s1} {m = m} more h = record { moves = h.moves; runs = λ g e at l shows. sees_more g e s1 (more g e) (m e at) (h.runs g e at l shows) }

-- the graph grows and nothing else is done
pub does_kept : {A B : Type 0} {x : Setting} {d0 d1 d2 : Graph} {s0 s1 : SymState} {Given : Graph → Env → A → Type 0} {Is Is' : Graph → Env → B → Type 0} {k : Env → A → Comp B} → DoesOn x d0 d1 s0 s1 Given Is k → Keeps d1 d2 → ((g : Graph) (e : Env) (b : B) → IsLater x d2 g e → Is g e b → Is' g e b) → DoesOn x d0 d2 s0 s1 Given Is' k
does_kept {s1 = s1} {k = k} h keeps more = record {
  moves = Moves-trans h.moves (moves_none keeps h.moves.stands);
  runs = λ g e a at l is shows. sees_more g e s1 (λ b. more g e b l) (k e a at) (h.runs g e a at (later_keeps keeps l) is shows);
}

-- ---- sequences

module _ {a : Activation} {d0 d1 d2 : Graph} {s0 s1 s2 : SymState} {i j : ℕ} {p : Env → Part (Comp Value)} {r : Shape} where
  pub evaluated_then : {t : Shape} {m : Env → Value → Comp Value} → IsEvaluated a d0 d1 s0 s1 i j p r → EvaluatesOn a.setting d1 d2 s1 s2 (λ g e. IsWorth g e s1.heap r) t m → IsEvaluated a d0 d2 s0 s2 i j (then_part p m) t
  evaluated_then first next = record { evaluates = record { does = does_on first.evaluates.does next.does; there = next.there }; place = record { place = first.place.place } }

  pub executed_then : {m : Env → Value → Comp Flow} → IsEvaluated a d0 d1 s0 s1 i j p r → ExecutesOn a.setting d1 d2 s1 s2 (λ g e. IsWorth g e s1.heap r) m → IsExecuted a d0 d2 s0 s2 i j (then_part p m)
  executed_then first next = record { executes = executes_on first.evaluates.does next; place = record { place = first.place.place } }

  pub evaluated_parts : {k : ℕ} {Given : Graph → Env → Value → Type 0} {q : Env → Part (Value → Comp Value)} {t : Shape} → ((g : Graph) (e : Env) (v : Value) → IsWorth g e s1.heap r v → Given g e v) → IsEvaluated a d0 d1 s0 s1 i j p r → IsEvaluatedOn a d1 d2 s1 s2 j k Given q t → IsEvaluated a d0 d2 s0 s2 i k (then_parts p q) t
  evaluated_parts {q = q} more first next = record {
    evaluates = record {
      does = does_same (λ e at. ap (λ n. and_then ((p e).at i at) ((q e).at n)) (sym (first.place.place e))) (does_on (does_more more first.evaluates.does) next.evaluates.does);
      there = next.evaluates.there;
    };
    place = record { place = λ e. omega (arith, first.place.place e, next.place.place e) };
  }

  pub executed_parts : {k : ℕ} {Given : Graph → Env → Value → Type 0} {q : Env → Part (Value → Comp Flow)} → ((g : Graph) (e : Env) (v : Value) → IsWorth g e s1.heap r v → Given g e v) → IsEvaluated a d0 d1 s0 s1 i j p r → IsExecutedOn a d1 d2 s1 s2 j k Given q → IsExecuted a d0 d2 s0 s2 i k (then_parts p q)
  executed_parts {q = q} more first next = record {
    executes = executes_same (λ e at. ap (λ n. and_then ((p e).at i at) ((q e).at n)) (sym (first.place.place e))) (executes_on (does_more more first.evaluates.does) next.executes);
    place = record { place = λ e. omega (arith, first.place.place e, next.place.place e) };
  }

pairs : {A B C : Type 0} (t : Step A) (n : Comp B) (k : A × B → Comp C) → and_then t (λ v s. and_then (n s) (λ w. k (v, w))) ≡ and_then (and_then t (λ v s. and_then (n s) (λ w. pure (v, w)))) k
pairs {A} {B} {C} (Goes v s) n k = by (n s)
  where
    by : (u : Step B) → and_then u (λ w. k (v, w)) ≡ and_then (and_then u (λ w. pure (v, w))) k
    by (Goes w t) = refl
    by (Fails span) = refl
    by (Skips span) = refl
pairs (Fails span) n k = refl
pairs (Skips span) n k = refl

-- two expressions, and what is done with both
pub two_evaluated : {a : Activation} {d0 d1 d2 d3 : Graph} {s0 s1 s2 s3 : SymState} {i j k : ℕ} {p q : Env → Part (Comp Value)} {x y r : Shape} {m : Env → Value × Value → Comp Value} → IsEvaluated a d0 d1 s0 s1 i j p x → IsEvaluated a d1 d2 s1 s2 j k q y → EvaluatesOn a.setting d2 d3 s2 s3 (AreTwo s2.heap x y) r m → IsEvaluated a d0 d3 s0 s3 i k (then_parts p (λ e. record { count = (q e).count; at = λ n v. (q e).at n >>= (λ w. m e (v, w)) })) r
two_evaluated {i = i} {p = p} {q = q} {m = m} first second on = record {
  evaluates = record {
    does = does_same (λ e at.
        ap (λ n. and_then ((p e).at i at) (λ v s. and_then ((q e).at n s) (λ w. m e (v, w)))) (sym (first.place.place e))
        ∙ pairs ((p e).at i at) ((q e).at _) (m e))
        (does_on (does_beside first.evaluates.does second.evaluates.does (λ g e v l grown is. IsWorth-grown grown is)) on.does);
    there = on.there;
  };
  place = record { place = λ e. omega (arith, first.place.place e, second.place.place e) };
}

-- ---- nothing is done

pub executed_none : {a : Activation} {d : Graph} {s : SymState} {i : ℕ} → StateStands d a.setting.expanded.now.prog s → IsExecuted a d d s s i i (siteless (λ e. pure Onward))
executed_none {d = d} h = record {
  executes = record { moves = moves_none (Keeps-refl d) h; runs = λ g e at l shows. shows };
  place = record { place = λ e. omega arith };
}

pub executes_nothing : {x : Setting} {d : Graph} {s : SymState} → StateStands d x.expanded.now.prog s → Executes x d d s s (λ e. pure Onward)
executes_nothing {d = d} h = record { moves = moves_none (Keeps-refl d) h; runs = λ g e at l shows. shows }

-- a part without sites
pub siteless_executed : {a : Activation} {d0 d1 : Graph} {s0 s1 : SymState} {i : ℕ} {m : Env → Comp Flow} → Executes a.setting d0 d1 s0 s1 m → IsExecuted a d0 d1 s0 s1 i i (siteless m)
siteless_executed h = record { executes = h; place = record { place = λ e. omega arith } }

pub siteless_evaluated : {a : Activation} {d0 d1 : Graph} {s0 s1 : SymState} {i : ℕ} {r : Shape} {m : Env → Comp Value} → Evaluates a.setting d0 d1 s0 s1 r m → IsEvaluated a d0 d1 s0 s1 i i (siteless m) r
siteless_evaluated h = record { evaluates = h; place = record { place = λ e. omega arith } }

-- a bit that is known
pub given_evaluated : {a : Activation} {d : Graph} {s : SymState} {i : ℕ} {c : BoolId} {b : Bool} → StateStands d a.setting.expanded.now.prog s → HasBool d.nodes c → Stands d (shape.Bit c) → ((g : Graph) → Grows d g → (e : Env) → bool_value g e c ≡ b) → IsEvaluated a d d s s i i (given b) (shape.Bit c)
given_evaluated {d = d} h there stands known = record {
  evaluates = record {
    does = record { moves = moves_none (Keeps-refl d) h; runs = λ g e at l shows. record { shows = shows; is = worth_bit (ap (λ b. value.Bit b) (sym (known g l.grows e))) } };
    there = stands;
  };
  place = record { place = λ e. omega arith };
}

-- where the run goes on in no environment, a part that is passed is done
pub executed_over : {a : Activation} {d : Graph} {s : SymState} {i j : ℕ} {p : Env → Part (Comp Flow)} → StateStands d a.setting.expanded.now.prog s → ((g : Graph) → Grows d g → (e : Env) → bool_value g e s.path ≡ false) → ((e : Env) → j ≡ i + (p e).count) → IsExecuted a d d s s i j p
executed_over {d = d} h over place = record {
  executes = record { moves = moves_none (Keeps-refl d) h; runs = λ g e at l shows. absurd (true≢false (sym shows.path ∙ over g l.grows e)) };
  place = record { place = place };
}

-- variables leave the scope
pub executes_cut : {x : Setting} {d0 d1 : Graph} {s0 s1 : SymState} {m : Env → Comp Flow} (n : ℕ) → Executes x d0 d1 s0 s1 m → Executes x d0 d1 s0 (with_slots s1 (take n s1.frame.slots)) m
executes_cut {x} {d0} {d1} {s0} {s1} {m} n h = record {
  moves = Moves-trans h.moves (slots_move h.moves.stands (take n s1.frame.slots) (record { each = All-take (Stands d1) n s1.frame.slots h.moves.stands.frame.slots.each }));
  runs = λ g e at l shows. by g e (m e at) (h.runs g e at l shows);
}
  where
    by : (g : Graph) (e : Env) (t : Step Flow) → SeesFlow g e x.fun.now s1 t → SeesFlow g e x.fun.now (with_slots s1 (take n s1.frame.slots)) t
    by g e (Goes Onward at) h = slots_show (take n s1.frame.slots) at.slots (front_cut s1.frame.slots n at.slots h.slots) h
    by g e (Goes (Returns v) at) h = record { path = h.path; failed = h.failed; skipped = h.skipped; returned = h.returned; cost = h.cost; heap = h.heap; lives = h.lives; ended = h.ended; free = h.free }
    by g e (Fails span) h = record { path = h.path; failed = h.failed; skipped = h.skipped; returned = h.returned }
    by g e (Skips span) h = record { path = h.path; failed = h.failed; skipped = h.skipped; returned = h.returned }

-- what steps in turn keep
pub ruleset keeping = (Keeps-trans)
