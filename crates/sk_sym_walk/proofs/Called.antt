-- What a call does that is made inside another one.
use Rattle.std.proofs.Common.{◌≡◌, ◌<◌, ℕ, zero, suc, ◌-◌, List, [], ◌∷◌, ◌++◌, map, Bool, true, false, true≢false, Option, Some, None, sub-one, refl, sym, ap, subst, ◌∙◌, arith}
use Rattle.std.specs.Prelude.{⊤, ◌==◌, ◌&&◌, nat_lt, count_by, if◌then◌else◌, slice_get}
use Rattle.std.proofs.lemmas.Bool.{lt-ltb}
use Rattle.sk_base.specs.declared.span.Span.{Span}
use Rattle.sk_base.specs.declared.bounds.Bounds.{Bounds}
use Rattle.sk_dag.specs.declared.env.Env.{Env}
use Rattle.sk_dag.specs.declared.shape.Shape.{Shape}
use Rattle.sk_dag.specs.Graph.{Graph, Grows}
use Rattle.sk_dag.specs.Eval.{bool_value, Keeps}
use Rattle.sk_arr.specs.Shapes.{Stands}
use Rattle.sk_heap.specs.declared.slot.Slot.{Slot}
use Rattle.sk_prog.specs.declared.ids.FunId.{FunId}
use Rattle.sk_prog.specs.declared.ty.Ty.{Ty}
use Rattle.sk_prog.specs.declared.value.Value.{Value}
use Rattle.sk_prog.specs.declared.expr.PExpr.{PExpr}
use Rattle.sk_prog.specs.declared.stmt.PStmt.{PStmt}
use Rattle.sk_prog.specs.declared.prog.Fun.{Fun}
use Rattle.sk_prog.specs.declared.prog.Prog.{Prog}
use Rattle.sk_prog.specs.declared.prog.ParamDef.{ParamDef}
use Rattle.sk_model.specs.declared.expanded.Choice.{Choice}
use Rattle.sk_model.specs.declared.expanded.Expanded.{Expanded}
use Rattle.sk_model.specs.Parts.{in_turn}
use Rattle.sk_model.specs.Step.{State, Step, Goes, Fails, Skips, Comp, and_then, pure, fail}
use Rattle.sk_model.specs.Eval.{Called, params_of, result_value}
use Rattle.sk_model.specs.Exec.{Flow, Onward, Returns, one_by_one, exec_stmt}
use Rattle.sk_model.specs.Fill.{InRange, minimize_of}
use Rattle.sk_model.specs.Stands.{standing, all_paid}
use Rattle.sk_model.specs.Heap.{blank}
use Rattle.sk_model.specs.Run.{Bodies, result_of, refs_from, first_slots, in_frame, body_of, calls}
use Rattle.sk_model.specs.Open.{open_stmt, open_bodies, sites_before}
use Rattle.sk_sym_folds.specs.Chosen.{chosen_values}
use Rattle.sk_heap_laws.specs.Values.{place_of, holds_in}
use Rattle.sk_heap_laws.specs.Heaps.{HeapGrows}
use Rattle.sk_sym_state.proofs.Worth.{IsWorth-grown}
use Rattle.sk_sym_forms.specs.Given.{IsGiven}
use Rattle.sk_sym_sites.specs.Places.{BeginsAt}
use Rattle.sk_sym_state.specs.declared.setting.Setting.{Setting}
use Rattle.sk_sym_state.specs.declared.state.Ended.{Ended}
use Rattle.sk_sym_state.specs.declared.state.SymState.{SymState}
use Rattle.sk_sym_state.specs.Seen.{IsWorth, AreWorth}
use Rattle.sk_sym_state.specs.Stands.{StateStands}
use Rattle.sk_sym_state.specs.Shows.{Sees, ResultIs, EndedIs}
use Rattle.sk_sym_state.specs.Meaning.{IsLater, choice_at, DoesOn, Executes}
use Rattle.sk_sym_state.proofs.Carrying.{Moves-trans, later_keeps, failed_over, skipped_over, shown_grows}
use Rattle.sk_sym_state.proofs.Ends.{moves_none}
use Rattle.sk_sym_state.proofs.Following.{does_on}
use Rattle.sk_sym_forms.specs.Caller.{Caller}
use Rattle.sk_sym_forms.specs.Frames.{IsEntered, IsLeft}
use Rattle.sk_sym_forms.proofs.Frames.{call_does}
use Rattle.sk_sym_forms.specs.Steps.{EvaluatesOn}
use Rattle.sk_sym_walk.specs.declared.activation.Activation.{Activation}
use Rattle.sk_sym_walk.specs.Walk.{prog_of, calls_at, exec_all_at}
use Rattle.sk_sym_walk.specs.Parts.{list_part, IsEvaluated, AreEvaluated}
use Rattle.sk_sym_walk.specs.Calls.{callee, value_called, call_part, ends, copied_at, AreCopiedBack, PaysNothing, HasResult, IsInside, IsCallOf, IsCalled, IsResultShape}

-- ---- a call inside another one

later_inside : (a b : Activation) → IsInside a b → (d g : Graph) (e : Env) → IsLater a.setting d g e → IsLater b.setting d g e
later_inside a b inside d g e l = record {
  grows = l.grows;
  range = subst (λ (x : Expanded). InRange x (choice_at b.setting e)) (sym inside.expanded) (subst (λ c. InRange a.setting.expanded.now (record { values = chosen_values c e })) (sym inside.choice) l.range);
}

has_result : (t : Option Ty) (flow : Flow) → HasResult t (result_of t flow)
has_result None flow = tt
has_result (Some t) (Returns (Some v)) = tt
has_result (Some t) (Returns None) = tt
has_result (Some t) Onward = tt

with_result : {x : Setting} {d0 d1 : Graph} {s0 s1 : SymState} {Given : Graph → Env → List Value → Type 0} {Is : Graph → Env → Called → Type 0} (fun : Fun) (m : Env → Comp Flow) → DoesOn x d0 d1 s0 s1 Given Is (λ e vs. in_frame fun vs (m e)) → DoesOn x d0 d1 s0 s1 Given (λ g e called. Is g e called × HasResult fun.result called.result) (λ e vs. in_frame fun vs (m e))
with_result {x} {s1 = s1} {Is = Is} fun m h = record {
  moves = h.moves;
  runs = λ g e vs at l given shows. by g e at (m e (record at { slots = first_slots fun vs })) (h.runs g e vs at l given shows);
}
  where
    by : (g : Graph) (e : Env) (at : State) (t : Step Flow)
        → Sees g e s1 (Is g e) (and_then t (λ flow end. Goes (record { result = result_of fun.result flow; refs = refs_from 0 fun.params end.slots }) (record end { slots = at.slots })))
        → Sees g e s1 (λ (called : Called). Is g e called × HasResult fun.result called.result) (and_then t (λ flow end. Goes (record { result = result_of fun.result flow; refs = refs_from 0 fun.params end.slots }) (record end { slots = at.slots })))
    by g e at (Goes flow end) h = record { shows = h.shows; is = (h.is, has_result fun.result flow) }
    by g e at (Fails span) h = h
    by g e at (Skips span) h = h

pub called_is : {a b : Activation} {d0 d1 d2 d3 : Graph} {s0 s1 s2 s3 : SymState} {i : ℕ} {args : List Shape} {caller : Caller} {r : Ended} → IsInside a b → IsEntered a.setting d0 d1 s0 s1 args caller → Executes b.setting d1 d2 s1 s2 (exec_all_at b i b.setting.fun.now.body) → IsLeft a.setting b.setting.fun.now d2 d3 s2 s3 caller r → IsCalled a b i d0 d3 s0 s3 args r
called_is {a} {b} {i = i} inside entered body left = record {
  does = with_result b.setting.fun.now (exec_all_at b i b.setting.fun.now.body) (call_does (later_inside a b inside) entered body left);
  there = left.given.stands;
}

-- ---- which calls do what

abbrev by_fun : (Fun → Comp Flow) → Span → List Value → Option Fun → Comp Called
by_fun fun_does span args None = fail span
by_fun fun_does span args (Some fun) = in_frame fun args (fun_does fun)

module _ (span : Span) (args : List Value) (s : State) where
  may_call : (fun_does : Fun → Comp Flow) (few : Bool) (found : Option Fun) → (if few then body_of fun_does span found args else fail span) s ≡ by_fun fun_does span args (if few then found else None) s
  may_call fun_does true None = refl
  may_call fun_does true (Some fun) = refl
  may_call fun_does false found = refl

  calls_by : (prog : Prog) (b : Bounds) (bodies : Bodies) (active : List ℕ) (f left : ℕ) → calls prog b bodies left active span f args s ≡ by_fun (bodies (calls prog b bodies (left - 1) (active ++ f ∷ [])) f) span args (if nat_lt 0 left && nat_lt (count_by (λ g. g == f) active) b.inline_amnt then slice_get prog.funs f else None) s
  unfolding calls
  calls_by prog b bodies active f zero = refl
  calls_by prog b bodies active f (suc left) =
      let some : 0 < suc left = omega arith in
      let may : nat_lt 0 (suc left) ≡ true = rw lt-ltb refl in
      rw (may, sub-one) (may_call (bodies (calls prog b bodies left (active ++ f ∷ [])) f) (nat_lt (count_by (λ g. g == f) active) b.inline_amnt) (slice_get prog.funs f))

-- what statements do in a call, by what the call is given by
abbrev inside_does : Expanded → Choice → Bounds → ℕ → List ℕ → ℕ → Fun → Comp Flow
inside_does x choice b left active i fun = one_by_one (in_turn (map (open_stmt x.prog b choice.values (calls x.prog b (open_bodies x choice b) left active)) fun.body) i)

module _ (a : Activation) (f : ℕ) (e : Env) where
  abbrev bodies : Bodies
  bodies = open_bodies a.setting.expanded.now (choice_at a.setting e) a.bounds

  -- what is done inside a call of the function with this number
  abbrev done : Fun → Comp Flow
  done fun = bodies (calls (prog_of a) a.bounds bodies (a.left - 1) (a.active.now ++ f ∷ [])) f fun

  calls_are : (span : Span) (args : List Value) (s : State) → calls_at a e span f args s ≡ by_fun done span args (callee a f) s
  calls_are span args s = calls_by span args s (prog_of a) a.bounds bodies a.active.now f a.left

  pub call_refused : (span : Span) (args : List Value) (s : State) → callee a f ≡ None → calls_at a e span f args s ≡ Fails span
  call_refused span args s none = calls_are span args s ∙ ap (λ o. by_fun done span args o s) none

  pub call_allowed : (b : Activation) (fun : Fun) (i : ℕ) (span : Span) (args : List Value) (s : State) → callee a f ≡ Some fun → IsCallOf a f fun b → PaysNothing fun → BeginsAt (prog_of a) f i
      → calls_at a e span f args s ≡ in_frame b.setting.fun.now args (exec_all_at b i b.setting.fun.now.body e) s
  call_allowed b fun i span args s some is pays begins =
      calls_are span args s
      ∙ ap (λ o. by_fun done span args o s) some
      ∙ ap (λ (m : Comp Flow). in_frame fun args m s) body_is
      ∙ ap (λ (u : Fun). in_frame u args (inside_does a.setting.expanded.now (choice_at a.setting e) a.bounds (a.left - 1) (a.active.now ++ f ∷ []) i u) s) (sym is.of)
      ∙ ap (λ gs. in_frame b.setting.fun.now args (inside_does a.setting.expanded.now (choice_at a.setting e) a.bounds (a.left - 1) gs i b.setting.fun.now) s) (sym is.active)
      ∙ ap (λ n. in_frame b.setting.fun.now args (inside_does a.setting.expanded.now (choice_at a.setting e) a.bounds n b.active.now i b.setting.fun.now) s) (sym is.left)
      ∙ ap (λ w. in_frame b.setting.fun.now args (inside_does a.setting.expanded.now (choice_at a.setting e) w b.left b.active.now i b.setting.fun.now) s) (sym is.bounds)
      ∙ ap (λ c. in_frame b.setting.fun.now args (inside_does a.setting.expanded.now (record { values = chosen_values c e }) b.bounds b.left b.active.now i b.setting.fun.now) s) (sym is.inside.choice)
      ∙ ap (λ x. in_frame b.setting.fun.now args (inside_does x (choice_at b.setting e) b.bounds b.left b.active.now i b.setting.fun.now) s) (sym is.inside.expanded)
    where
      paid : List PStmt
      paid = map minimize_of (all_paid (standing a.setting.expanded.now (choice_at a.setting e).values))

      call : Span → ℕ → List Value → Comp Called
      call = calls (prog_of a) a.bounds bodies (a.left - 1) (a.active.now ++ f ∷ [])

      body_is : done fun ≡ inside_does a.setting.expanded.now (choice_at a.setting e) a.bounds (a.left - 1) (a.active.now ++ f ∷ []) i fun
      body_is =
          ap (λ first. one_by_one (map (exec_stmt (prog_of a) a.bounds call) first ++ in_turn (map (open_stmt (prog_of a) a.bounds (choice_at a.setting e).values call) fun.body) (sites_before (prog_of a) a.bounds (choice_at a.setting e).values call (prog_of a).funs f))) (pays.before paid)
          ∙ ap (λ j. one_by_one (in_turn (map (open_stmt (prog_of a) a.bounds (choice_at a.setting e).values call) fun.body) j)) (sym (begins.place a.bounds (choice_at a.setting e).values call))

-- ---- what a call gives as a value

pub result_given : {d : Graph} (t : Option Ty) (u : Ty) (given : Option Shape) (r : Shape) → t ≡ Some u → given ≡ Some r → Stands d r → IsResultShape d t given r
result_given {d} t u given r is at stands = record {
  stands = stands;
  worth = λ g e heap v more h has. by g e heap v (subst (λ o. ResultIs g e heap o v) at h) (subst (λ o. HasResult o v) is has);
}
  where
    by : (g : Graph) (e : Env) (heap : List Slot) (v : Option Value) → ResultIs g e heap (Some r) v → HasResult (Some u) v → IsWorth g e heap r (result_value v)
    by g e heap None h has = absurd has
    by g e heap (Some v) h has = h

-- a function with a result that gives none has not ended
pub result_absent : {d : Graph} (t : Option Ty) (u : Ty) (given : Option Shape) (r : Shape) → t ≡ Some u → given ≡ None → Stands d r → IsResultShape d t given r
result_absent {d} t u given r is at stands = record {
  stands = stands;
  worth = λ g e heap v more h has. by g e heap v (subst (λ o. ResultIs g e heap o v) at h) (subst (λ o. HasResult o v) is has);
}
  where
    by : (g : Graph) (e : Env) (heap : List Slot) (v : Option Value) → ResultIs g e heap None v → HasResult (Some u) v → IsWorth g e heap r (result_value v)
    by g e heap None h has = absurd has
    by g e heap (Some v) h has = absurd h

pub result_blank : {d : Graph} (t : Option Ty) (given : Option Shape) (r : Shape) → t ≡ None → IsGiven d blank r → IsResultShape d t given r
result_blank {d} t given r is nought = record {
  stands = nought.stands;
  worth = λ g e heap v more h has. by g e heap v more (subst (λ o. HasResult o v) is has);
}
  where
    by : (g : Graph) (e : Env) (heap : List Slot) (v : Option Value) → Grows d g → HasResult None v → IsWorth g e heap r (result_value v)
    by g e heap None more has = record { value = nought.value g more e (place_of (holds_in g e heap)); live = nought.live g e (holds_in g e heap) }
    by g e heap (Some v) more has = absurd has

result_grown : (g : Graph) (e : Env) {x y : List Slot} → HeapGrows g e x y → (r : Option Shape) (v : Option Value) → ResultIs g e x r v → ResultIs g e y r v
result_grown g e grown r None h = tt
result_grown g e grown None (Some v) h = absurd h
result_grown g e grown (Some r) (Some v) h = IsWorth-grown grown h

-- the final values have gone back, and there is the result
pub ended_evaluates : {a : Activation} {d0 d1 d2 : Graph} {s0 s1 : SymState} {ended : Ended} {r : Shape} (span : Span) (t : Option Ty) (ps : List ParamDef) (xs : List PExpr) (i : ℕ) → AreCopiedBack a d0 d1 s0 s1 ended.refs (copied_at a span ps xs i) → Keeps d1 d2 → IsResultShape d2 t ended.result r → EvaluatesOn a.setting d0 d2 s0 s1 (λ g e (c : Called). EndedIs g e s0.heap (Some ended) c.result c.refs × HasResult t c.result) r (ends a span ps xs i)
ended_evaluates {a} {d2 = d2} {s0 = s0} {s1 = s1} {ended = ended} {r = r} span t ps xs i copied keeps result = record {
  does = record {
    moves = Moves-trans copied.does.moves (moves_none keeps copied.does.moves.stands);
    runs = λ g e c at l is shows. by g e l c (result_grown g e (shown_grows copied.does.moves (later_keeps keeps l) shows) ended.result c.result is.0.0) is.1 (copied_at a span ps xs i e c.refs at) (copied.does.runs g e c.refs at (later_keeps keeps l) is.0.1 shows);
  };
  there = result.stands;
}
  where
    by : (g : Graph) (e : Env) → IsLater a.setting d2 g e → (c : Called) → ResultIs g e s1.heap ended.result c.result → HasResult t c.result → (u : Step (Unit {0})) → Sees g e s1 (λ (n : Unit {0}). ⊤) u → Sees g e s1 (IsWorth g e s1.heap r) (and_then u (λ n. pure (result_value c.result)))
    by g e l c is has (Goes n at) h = record { shows = h.shows; is = result.worth g e s1.heap c.result l.grows is has }
    by g e l c is has (Fails span) h = h
    by g e l c is has (Skips span) h = h

found : (few : Bool) (o : Option Fun) (fun : Fun) → (if few then o else None) ≡ Some fun → o ≡ Some fun
found true o fun is = is
found false o fun is = cc

pub call_evaluates : {a b : Activation} {d0 d1 d2 : Graph} {s0 s1 s2 : SymState} {i f : ℕ} {args : List Shape} {ended : Ended} {r : Shape} (span : Span) (fun : Fun) (xs : List PExpr) (j : ℕ) → IsCalled a b i d0 d1 s0 s1 args ended → EvaluatesOn a.setting d1 d2 s1 s2 (λ g e (c : Called). EndedIs g e s1.heap (Some ended) c.result c.refs × HasResult b.setting.fun.now.result c.result) r (ends a span b.setting.fun.now.params xs j) → callee a f ≡ Some fun → IsCallOf a f fun b → PaysNothing fun → BeginsAt (prog_of a) f i
    → EvaluatesOn a.setting d0 d2 s0 s2 (λ g e vs. AreWorth g e s0.heap args vs) r (value_called a span f xs j)
call_evaluates {a} {b} {d2 = d2} {s1 = s1} {s2 = s2} {i = i} {f = f} {ended = ended} {r = r} span fun xs j called end some is pays begins = record {
  does = record {
    moves = Moves-trans called.does.moves end.does.moves;
    runs = λ g e vs at l w shows.
        subst (λ (ps : List ParamDef). Sees g e s2 (IsWorth g e s2.heap r) (and_then (calls_at a e span f vs at) (ends a span ps xs j e))) (sym params)
        (subst (λ (t : Step Called). Sees g e s2 (IsWorth g e s2.heap r) (and_then t (ends a span b.setting.fun.now.params xs j e))) (sym (call_allowed a f e b fun i span vs at some is pays begins))
        (by g e l (in_frame b.setting.fun.now vs (exec_all_at b i b.setting.fun.now.body e) at) (called.does.runs g e vs at (later_keeps end.does.moves.keeps l) w shows)));
  };
  there = end.there;
}
  where
    params : params_of (slice_get (prog_of a).funs f) ≡ b.setting.fun.now.params
    params = ap params_of (found (nat_lt 0 a.left && nat_lt (count_by (λ g. g == f) a.active.now) a.bounds.inline_amnt) (slice_get (prog_of a).funs f) fun some) ∙ ap (λ (u : Fun). u.params) (sym is.of)

    by : (g : Graph) (e : Env) → IsLater a.setting d2 g e → (t : Step Called) → Sees g e s1 (λ (c : Called). EndedIs g e s1.heap (Some ended) c.result c.refs × HasResult b.setting.fun.now.result c.result) t → Sees g e s2 (IsWorth g e s2.heap r) (and_then t (ends a span b.setting.fun.now.params xs j e))
    by g e l (Goes c at) h = end.does.runs g e c at l h.is h.shows
    by g e l (Fails span) h = let k = end.does.moves.stays g e l h.path in failed_over k.rest k.path h
    by g e l (Skips span) h = let k = end.does.moves.stays g e l h.path in skipped_over k.rest k.path h

-- a call that may not be made
pub refused_evaluates : {d0 d1 d2 : Graph} {s0 s1 : SymState} {args : List Shape} {r : Shape} (a : Activation) (f : ℕ) (span : Span) (xs : List PExpr) (j : ℕ) → Executes a.setting d0 d1 s0 s1 (λ e. fail span) → Keeps d1 d2 → Stands d2 r → callee a f ≡ None → EvaluatesOn a.setting d0 d2 s0 s1 (λ g e vs. AreWorth g e s0.heap args vs) r (value_called a span f xs j)
refused_evaluates {s1 = s1} {r = r} a f span xs j h keeps stands none = record {
  does = record {
    moves = Moves-trans h.moves (moves_none keeps h.moves.stands);
    runs = λ g e vs at l w shows. subst (λ (t : Step Called). Sees g e s1 (IsWorth g e s1.heap r) (and_then t (ends a span (params_of (slice_get (prog_of a).funs f)) xs j e))) (sym (call_refused a f e span vs at none)) (h.runs g e at (later_keeps keeps l) shows);
  };
  there = stands;
}

-- where the run goes on in no environment
pub over_evaluates : {A : Type 0} {x : Setting} {d0 d1 : Graph} {s : SymState} {Given : Graph → Env → A → Type 0} {r : Shape} {k : Env → A → Comp Value} → StateStands d0 x.expanded.now.prog s → ((g : Graph) → Grows d0 g → (e : Env) → bool_value g e s.path ≡ false) → Keeps d0 d1 → Stands d1 r → EvaluatesOn x d0 d1 s s Given r k
over_evaluates h over keeps stands = record {
  does = record { moves = moves_none keeps h; runs = λ g e v at l w shows. absurd (true≢false (sym shows.path ∙ over g (keeps.later g l.grows) e)) };
  there = stands;
}

-- ---- a whole call

pub call_evaluated : {a : Activation} {d0 d1 d2 : Graph} {s0 s1 s2 : SymState} {i j : ℕ} {made : List Shape} {r : Shape} (span : Span) (f : FunId) (xs : List PExpr) → AreEvaluated a d0 d1 s0 s1 i j (list_part a span xs) made → EvaluatesOn a.setting d1 d2 s1 s2 (λ g e vs. AreWorth g e s1.heap made vs) r (value_called a span f.index xs i) → IsEvaluated a d0 d2 s0 s2 i j (call_part a span f xs) r
call_evaluated {a} {i = i} span f xs all next = record {
  evaluates = record { does = does_on all.evaluate.does next.does; there = next.there };
  place = record { place = all.place.place };
}
