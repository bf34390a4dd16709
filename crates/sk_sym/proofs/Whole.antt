-- What a run is, and what its outcome says.
use Rattle.std.proofs.Common.{◌≡◌, ℕ, suc, ◌<◌, List, [], ◌∷◌, map, Option, Some, None, refl, sym, ap, subst, ◌∙◌, if◌then◌else◌}
use Rattle.std.specs.Prelude.{Bool, true, false, nat_lt, slice_get}
use Rattle.std.specs.Option.{option_copied}
use Rattle.std.proofs.lemmas.Bool.{lt-ltb}
use Rattle.sk_base.specs.declared.span.Span.{Span}
use Rattle.sk_base.specs.declared.bounds.Bounds.{Bounds}
use Rattle.sk_dag.specs.declared.env.Env.{Env}
use Rattle.sk_dag.specs.declared.shape.Shape.{Shape}
use Rattle.sk_dag.specs.Graph.{Graph, HasBool, HasCost}
use Rattle.sk_dag.specs.Eval.{bool_value, cost_value, Keeps}
use Rattle.sk_arr.specs.Shapes.{AllStand}
use Rattle.sk_arr.specs.Answers.{AreCopies}
use Rattle.sk_arr.proofs.Values.{stand_none}
use Rattle.sk_heap.specs.declared.slot.Slot.{Slot}
use Rattle.sk_prog.specs.declared.ids.FunId.{FunId}
use Rattle.sk_prog.specs.declared.ty.Ty.{Ty}
use Rattle.sk_prog.specs.declared.value.Value.{Value}
use Rattle.sk_prog.specs.declared.prog.Fun.{Fun}
use Rattle.sk_prog.specs.declared.prog.Prog.{Prog}
use Rattle.sk_model.specs.declared.expanded.Choice.{Choice}
use Rattle.sk_model.specs.declared.expanded.Expanded.{Expanded}
use Rattle.sk_model.specs.declared.outcome.Outcome.TheVariants as outcome
use Rattle.sk_model.specs.Step.{State, Step, Goes, Fails, Skips, Comp, and_then, fail}
use Rattle.sk_model.specs.Values.{zero_of}
use Rattle.sk_model.specs.Eval.{Called}
use Rattle.sk_model.specs.Exec.{Flow, Onward, Returns, unless_returned, one_by_one, exec_stmt}
use Rattle.sk_model.specs.Fill.{minimize_of, before_body}
use Rattle.sk_model.specs.Parts.{in_turn}
use Rattle.sk_model.specs.Run.{Bodies, result_of, refs_from, first_slots, in_frame, body_of, calls, outcome_of, nowhere, start, run_by, most_calls}
use Rattle.sk_model.specs.Open.{open_stmt, open_bodies, run_open, sites_before}
use Rattle.sk_sym_sites.specs.Places.{BeginsAt}
use Rattle.sk_sym_state.specs.declared.state.Ended.{Ended}
use Rattle.sk_sym_state.specs.declared.state.SymState.{SymState}
use Rattle.sk_sym_state.specs.Seen.{AreWorth}
use Rattle.sk_sym_state.specs.Stands.{AnyStands, StateStands}
use Rattle.sk_sym_state.specs.Shows.{Sees, ResultIs, EndedIs}
use Rattle.sk_sym_state.specs.Meaning.{IsLater, Executes, choice_at}
use Rattle.sk_sym_state.proofs.Ends.{executes_same}
use Rattle.sk_sym_state.proofs.Following.{executes_then}
use Rattle.sk_sym_walk.specs.declared.activation.Activation.{Activation}
use Rattle.sk_sym_walk.specs.Walk.{calls_at, values_at, exec_all_at}
use Rattle.sk_sym.specs.declared.outcome.SymOutcome.{SymOutcome}
use Rattle.sk_sym.specs.Beginning.{IsBeginning}
use Rattle.sk_sym.specs.Paying.{pays, program_pays, first_paid}
use Rattle.sk_sym.specs.Bodies.{body_at, call_at, EndsSo, IsFirst}
use Rattle.sk_sym.specs.Outcome.{ResultSays, Says, choice_of, IsResultOf, IsMadeOf, IsOutcome, AlwaysFails}
use Rattle.sk_sym.proofs.Names.{worth_anywhere, all_worth_anywhere, worth_alike}
use Rattle.sk_sym.proofs.Paid.{all_append, before_pays}

-- ---- what a body does

pub body_executes : (a : Activation) {f : ℕ} {d0 d1 d2 : Graph} {s0 s1 s2 : SymState} {i width : ℕ} → BeginsAt a.setting.expanded.now.prog f i → width ≡ a.bounds.int_bits
    → Executes a.setting d0 d1 s0 s1 (λ e. pays width (first_paid a.setting.fun.now.kind (program_pays a.setting e))) → Executes a.setting d1 d2 s1 s2 (exec_all_at a i a.setting.fun.now.body) → Executes a.setting d0 d2 s0 s2 (body_at a f)
body_executes a {f} {i = i} {width} begins wide first rest = executes_same same (executes_then first rest)
  where
    x : Expanded
    x = a.setting.expanded.now

    fun : Fun
    fun = a.setting.fun.now

    same : (e : Env) (at : State) → body_at a f e at ≡ and_then (pays width (first_paid fun.kind (program_pays a.setting e)) at) (λ flow. unless_returned (exec_all_at a i fun.body e) flow)
    same e at =
        let call = calls_at a e in
        let before = map (exec_stmt x.prog a.bounds call) (before_body fun.kind (map minimize_of (program_pays a.setting e))) in
        let parts = map (open_stmt x.prog a.bounds (values_at a e) call) fun.body in
        all_append before (in_turn parts (sites_before x.prog a.bounds (values_at a e) call x.prog.funs f)) at
        ∙ ap (λ t. and_then t (unless_returned (one_by_one (in_turn parts (sites_before x.prog a.bounds (values_at a e) call x.prog.funs f))))) (before_pays x.prog a.bounds call fun.kind (program_pays a.setting e) at)
        ∙ ap (λ w. and_then (pays w (first_paid fun.kind (program_pays a.setting e)) at) (unless_returned (one_by_one (in_turn parts (sites_before x.prog a.bounds (values_at a e) call x.prog.funs f))))) (sym wide)
        ∙ ap (λ j. and_then (pays width (first_paid fun.kind (program_pays a.setting e)) at) (unless_returned (one_by_one (in_turn parts j)))) (sym (begins.place a.bounds (values_at a e) call))

-- ---- what a run is

module _ (prog : Prog) (bounds : Bounds) (bodies : Bodies) (f : ℕ) (fun : Fun) (found : slice_get prog.funs f ≡ Some fun) (allowed : 0 < bounds.inline_amnt) where
  first_call : (left : ℕ) (span : Span) (args : List Value) → calls prog bounds bodies (suc left) [] span f args ≡ in_frame fun args (bodies (calls prog bounds bodies left (f ∷ [])) f fun)
  unfolding calls
  first_call left span args =
      ap (λ t. if t then body_of (bodies (calls prog bounds bodies left (f ∷ [])) f) span (slice_get prog.funs f) args else fail span) (lt-ltb 0 bounds.inline_amnt allowed)
      ∙ ap (λ o. body_of (bodies (calls prog bounds bodies left (f ∷ [])) f) span o args) found

  pub first_run : (index : FunId) → index.index ≡ f → (args : List Value) → run_by prog bodies index args bounds ≡ outcome_of (in_frame fun args (bodies (calls prog bounds bodies 127 (f ∷ [])) f fun) start)
  first_run index is args = ap (λ n. outcome_of (calls prog bounds bodies most_calls [] nowhere n args start)) is ∙ ap (λ m. outcome_of (m start)) (first_call 127 nowhere args)

pub run_is : (a : Activation) (f : FunId) → IsFirst a f → (e : Env) (args : List Value) → run_open a.setting.expanded.now (choice_at a.setting e) f args a.bounds ≡ outcome_of (call_at a f.index e args start)
unfolding run_open
run_is a f first e args =
    let x = a.setting.expanded.now in
    first_run x.prog a.bounds (open_bodies x (choice_at a.setting e) a.bounds) f.index a.setting.fun.now first.found first.allowed f refl args
    ∙ ap (λ n. outcome_of (in_frame a.setting.fun.now args (open_bodies x (choice_at a.setting e) a.bounds (calls x.prog a.bounds (open_bodies x (choice_at a.setting e) a.bounds) n (f.index ∷ [])) f.index a.setting.fun.now) start)) (sym first.left)
    ∙ ap (λ gs. outcome_of (in_frame a.setting.fun.now args (open_bodies x (choice_at a.setting e) a.bounds (calls x.prog a.bounds (open_bodies x (choice_at a.setting e) a.bounds) a.left gs) f.index a.setting.fun.now) start)) (sym first.active)

-- ---- what the outcome says

-- what a call does behind its body
abbrev behind : Fun → State → Flow → State → Step Called
behind fun s flow end = Goes (record { result = result_of fun.result flow; refs = refs_from 0 fun.params end.slots }) (record end { slots = s.slots })

given_says : (g : Graph) (e : Env) (heap : List Slot) (t : Ty) (given r : Option Shape) (v : Value) → IsResultOf (Some t) given r → ResultIs g e heap given (Some v) → ResultSays g e r (Some v)
given_says g e heap t None r v is h = absurd h
given_says g e heap t (Some a) r v is h = subst (λ o. ResultSays g e o (Some v)) (sym is.0) (worth_anywhere g e heap [] is.1 h)

result_says : (g : Graph) (e : Env) (heap : List Slot) (t : Option Ty) (given r : Option Shape) (flow : Flow) → IsResultOf t given r → ResultIs g e heap given (result_of t flow) → ResultSays g e r (result_of t flow)
result_says g e heap None given r flow is h = subst (λ o. ResultSays g e o None) (sym is) tt
result_says g e heap (Some t) given r (Returns (Some v)) is h = given_says g e heap t given r v is h
result_says g e heap (Some t) given r (Returns None) is h = given_says g e heap t given r (zero_of t) is h
result_says g e heap (Some t) given r Onward is h = given_says g e heap t given r (zero_of t) is h

module _ (g : Graph) (e : Env) {fun : Fun} {s : SymState} {r : Ended} {made : SymOutcome} (is : IsMadeOf fun s r made) where
  -- the outcome says what the call gives
  pub ends_say : (begin : State) (t : Step Flow) → Sees g e s (λ (called : Called). EndedIs g e s.heap (Some r) called.result called.refs) (and_then t (behind fun begin)) → Says g e made (outcome_of (and_then t (behind fun begin)))
  ends_say begin (Goes flow end) h = record {
    failed = ap (bool_value g e) is.failed ∙ h.shows.failed;
    skipped = ap (bool_value g e) is.skipped ∙ h.shows.skipped;
    result = result_says g e s.heap fun.result r.result made.result flow is.result h.is.0;
    refs = subst (λ l. AreWorth g e [] l (refs_from 0 fun.params end.slots)) (sym is.refs) (all_worth_anywhere g e s.heap [] is.unnamed h.is.1);
    cost = ap (cost_value g e) is.cost ∙ h.shows.cost;
  }
  ends_say begin (Fails span) h = record { failed = ap (bool_value g e) is.failed ∙ h.failed; skipped = ap (bool_value g e) is.skipped ∙ h.skipped }
  ends_say begin (Skips span) h = record { failed = ap (bool_value g e) is.failed ∙ h.failed; skipped = ap (bool_value g e) is.skipped ∙ h.skipped }

-- ---- the whole

pub says_run : {d0 d1 d2 : Graph} {s0 s1 : SymState} {list args : List Shape} {r : Ended} {made : SymOutcome} (a : Activation) (f : FunId) → IsFirst a f → Keeps d0 d1 → IsBeginning d1 a.setting.expanded.now.prog s0 → AreCopies d0 list args → EndsSo a f.index d1 d2 s0 s1 args r → IsMadeOf a.setting.fun.now s1 r made
    → IsOutcome d2 a.setting.expanded.now (option_copied a.setting.choice) f list a.bounds made
says_run {d1 = d1} {d2 = d2} {s0 = s0} {s1 = s1} {list = list} {args = args} {r = r} {made = made} a f first k begins copies ends is = record {
  failed = subst (λ n. HasBool d2.nodes n) (sym is.failed) stands.failed;
  skipped = subst (λ n. HasBool d2.nodes n) (sym is.skipped) stands.skipped;
  cost = subst (λ n. HasCost d2.nodes n) (sym is.cost) stands.cost;
  result = any_stands a.setting.fun.now.result r.result made.result is.result ends.there.result;
  refs = subst (AllStand d2) (sym is.refs) ends.there.refs;
  says = λ g e values more range worth.
      let l : IsLater a.setting d2 g e = record { grows = more; range = range } in
      let given : AreWorth g e s0.heap args values = subst (λ h. AreWorth g e h args values) (sym begins.heap) (worth_alike g e [] list args (copies.value g e) worth) in
      subst (Says g e made) (sym (run_is a f first e values))
      (ends_say g e is start (body_at a f.index e (record start { slots = first_slots a.setting.fun.now values })) (ends.does.runs g e values start l given (begins.shows g e (ends.does.moves.keeps.later g more))));
}
  where
    stands : StateStands d2 a.setting.expanded.now.prog s1
    stands = ends.does.moves.stands

    any_stands : (t : Option Ty) (given o : Option Shape) → IsResultOf t given o → AnyStands d2 given → AnyStands d2 o
    any_stands None given o at h = subst (AnyStands d2) (sym at) tt
    any_stands (Some t) None o at h = subst (AnyStands d2) (sym at) tt
    any_stands (Some t) (Some b) o at h = subst (AnyStands d2) (sym at.0) h

-- ---- runs that fail at once

module _ (prog : Prog) (bounds : Bounds) (bodies : Bodies) (f : ℕ) (span : Span) (args : List Value) (s : State) where
  no_calls : (left : ℕ) → bounds.inline_amnt ≡ 0 → calls prog bounds bodies (suc left) [] span f args s ≡ Fails span
  unfolding calls
  no_calls left none = ap (λ n. (if nat_lt 0 n then body_of (bodies (calls prog bounds bodies left (f ∷ [])) f) span (slice_get prog.funs f) args else fail span) s) none

  by_none : (does : Fun → Comp Flow) (few : Bool) (found : Option Fun) → found ≡ None → (if few then body_of does span found args else fail span) s ≡ Fails span
  by_none does true found none = ap (λ o. body_of does span o args s) none
  by_none does false found none = refl

  no_function : (left : ℕ) → slice_get prog.funs f ≡ None → calls prog bounds bodies (suc left) [] span f args s ≡ Fails span
  unfolding calls
  no_function left none = by_none (bodies (calls prog bounds bodies left (f ∷ [])) f) (nat_lt 0 bounds.inline_amnt) (slice_get prog.funs f) none

module _ (x : Expanded) (choice : Choice) (f : FunId) (args : List Value) (bounds : Bounds) where
  -- no call may be active
  run_without_calls : bounds.inline_amnt ≡ 0 → run_open x choice f args bounds ≡ outcome.Failed nowhere
  unfolding run_open
  run_without_calls none = ap outcome_of (no_calls x.prog bounds (open_bodies x choice bounds) f.index nowhere args start 127 none)

  -- there is no such function
  run_without_function : slice_get x.prog.funs f.index ≡ None → run_open x choice f args bounds ≡ outcome.Failed nowhere
  unfolding run_open
  run_without_function none = ap outcome_of (no_function x.prog bounds (open_bodies x choice bounds) f.index nowhere args start 127 none)

module _ {d : Graph} {x : Expanded} {given : Option Choice} {f : FunId} {list : List Shape} {bounds : Bounds} {made : SymOutcome} where
  failed_says : AlwaysFails d made → ((e : Env) (values : List Value) → run_open x (choice_of given e) f values bounds ≡ outcome.Failed nowhere) → IsOutcome d x given f list bounds made
  failed_says h fails = record {
    failed = h.failed;
    skipped = h.skipped;
    cost = h.cost;
    result = subst (AnyStands d) (sym h.result) tt;
    refs = subst (AllStand d) (sym h.refs) (stand_none d);
    says = λ g e values more range worth. subst (Says g e made) (sym (fails e values)) (h.says g more e);
  }

  pub says_no_calls : bounds.inline_amnt ≡ 0 → AlwaysFails d made → IsOutcome d x given f list bounds made
  says_no_calls none h = failed_says h (λ e values. run_without_calls x (choice_of given e) f values bounds none)

  pub says_no_function : slice_get x.prog.funs f.index ≡ None → AlwaysFails d made → IsOutcome d x given f list bounds made
  says_no_function none h = failed_says h (λ e values. run_without_function x (choice_of given e) f values bounds none)
