-- What a run is without its steps, and which steps a log keeps of it.
use Rattle.std.proofs.Common.{◌≡◌, ℕ, zero, suc, ◌+◌, ◌-◌, ◌<◌, ◌≤◌, List, [], ◌∷◌, ◌++◌, Option, Some, None, Bool, true, false, length, refl, sym, ap, ◌∙◌, arith}
use Rattle.std.specs.Prelude.{if◌then◌else◌, nat_lt, count_by, ◌==◌, slice_get, take}
use Rattle.std.proofs.lemmas.Bool.{ltb-true, ltb-false, lt-ltb, le-ltb}
use Rattle.std.proofs.lemmas.List.{length_push, take_all, take-append-le, length-take-le}
use Rattle.sk_base.specs.declared.span.Span.{Span}
use Rattle.sk_base.specs.declared.bounds.Bounds.{Bounds}
use Rattle.sk_prog.specs.declared.ids.FunId.{FunId}
use Rattle.sk_prog.specs.declared.value.Value.{Value}
use Rattle.sk_prog.specs.declared.prog.Fun.{Fun}
use Rattle.sk_prog.specs.declared.prog.Prog.{Prog}
use Rattle.sk_model.specs.Step.{State, Comp}
use Rattle.sk_model.specs.Step as step
use Rattle.sk_model.specs.Eval.{Called}
use Rattle.sk_model.specs.Exec.{Flow}
use Rattle.sk_model.specs.Run.{filled_bodies, result_of, refs_from, first_slots, most_calls, nowhere, start, run}
use Rattle.sk_model.specs.Run as plain
use Rattle.sk_interp_laws.specs.declared.step.Step.{Step}
use Rattle.sk_interp_laws.specs.Recording.{Recorded, Going, Goes, Fails, Skips, Traced, fail}
use Rattle.sk_interp_laws.specs.Run.{in_frame, body_of, calls, log_of, outcome_of, recorded}
use Rattle.sk_interp_laws.specs.Path.{behind, traced, path}
use Rattle.sk_interp_laws.specs.Kept.{empty_log, kept, log_of_steps}
use Rattle.sk_interp_laws.proofs.Agree.{Agrees, carry, carried, without, fails, then_run, then_logs}
use Rattle.sk_interp_laws.proofs.Stmts.{bodies}

-- the state in which a body begins, and what a call does after its body
abbrev within : {L : Type 0} → Fun → List Value → Recorded L → Recorded L
within fun args r = record r { memory = record r.memory { slots = first_slots fun args } }

abbrev after : {L : Type 0} → Fun → Recorded L → Flow → Traced L Called
after fun r flow end = Goes (record { result = result_of fun.result flow; refs = refs_from 0 fun.params end.memory.slots }) (record end { memory = record end.memory { slots = r.memory.slots } })

abbrev after_plain : Fun → State → Flow → Comp Called
after_plain fun s flow end = step.Goes (record { result = result_of fun.result flow; refs = refs_from 0 fun.params end.slots }) (record end { slots = s.slots })

module _ {L M : Type 0} (h : L → M) (more : L → Step → L) (keep : M → Step → M) (follows : (log : L) (it : Step) → h (more log it) ≡ keep (h log) it) (prog : Prog) (bounds : Bounds) where
  frames : (fun : Fun) (args : List Value) (m : Comp Flow) (t : Traced L Flow) (u : Traced M Flow) → Agrees h m t u → Agrees h (plain.in_frame fun args m) (in_frame fun args t) (in_frame fun args u)
  frames fun args m t u agree = record {
    run = λ r. then_run h (after_plain fun r.memory) (after fun r) (after fun (carry h r)) (t (within fun args r)) _ (agree.run (within fun args r)) (λ flow end. refl);
    logs = λ r. then_logs h (after_plain fun r.memory) (after fun r) (after fun (carry h r)) (t (within fun args r)) _ (agree.logs (within fun args r)) (λ flow end. refl);
  }

  called : (few : Bool) (span : Span) (found : Option Fun) (args : List Value) (m : Fun → Comp Flow) (t : Fun → Traced L Flow) (u : Fun → Traced M Flow) → ((fun : Fun) → Agrees h (m fun) (t fun) (u fun)) → Agrees h (if few then plain.body_of m span found args else step.fail span) (if few then body_of t span found args else fail span) (if few then body_of u span found args else fail span)
  called true span None args m t u agree = fails h span
  called true span (Some fun) args m t u agree = frames fun args (m fun) (t fun) (u fun) (agree fun)
  called false span found args m t u agree = fails h span

  all_calls : (left : ℕ) (active : List ℕ) (span : Span) (f : ℕ) (args : List Value) → Agrees h (plain.calls prog bounds (filled_bodies prog bounds) left active span f args) (calls more prog bounds left active span f args) (calls keep prog bounds left active span f args)
  unfolding plain.calls calls
  all_calls zero active span f args = fails h span
  all_calls (suc left) active span f args = called (nat_lt (count_by (λ g. g == f) active) bounds.inline_amnt) span (slice_get prog.funs f) args _ _ _ (λ fun.
      bodies h more keep follows (most_calls - left) prog bounds (plain.calls prog bounds (filled_bodies prog bounds) left (active ++ f ∷ [])) (calls more prog bounds left (active ++ f ∷ [])) (calls keep prog bounds left (active ++ f ∷ [])) (all_calls left (active ++ f ∷ [])) fun.body)

ends : {L : Type 0} (x : Going L Called) → outcome_of x ≡ plain.outcome_of (without x)
ends (Goes c r) = refl
ends (Fails span log) = refl
ends (Skips span log) = refl

logs_of : {L M A : Type 0} (h : L → M) (x : Going L A) → log_of (carried h x) ≡ h (log_of x)
logs_of h (Goes a r) = refl
logs_of h (Fails span log) = refl
logs_of h (Skips span log) = refl

-- without its steps it is the run
pub recorded_is_run : {L : Type 0} (more : L → Step → L) (log : L) (prog : Prog) (f : FunId) (args : List Value) (bounds : Bounds) → outcome_of (recorded more log prog f args bounds) ≡ run prog f args bounds
unfolding run
recorded_is_run more log prog f args bounds =
    ends (recorded more log prog f args bounds)
    ∙ ap plain.outcome_of ((all_calls (λ l. l) more more (λ l s. refl) prog bounds most_calls [] nowhere f.index args).run (record { memory = start; log = log }))

pub traced_is_run : (prog : Prog) (f : FunId) (args : List Value) (bounds : Bounds) → outcome_of (traced prog f args bounds) ≡ run prog f args bounds
traced_is_run prog f args bounds = recorded_is_run behind [] prog f args bounds

pub logged_is_run : (most : ℕ) (prog : Prog) (f : FunId) (args : List Value) (bounds : Bounds) → outcome_of (recorded kept (empty_log most) prog f args bounds) ≡ run prog f args bounds
logged_is_run most prog f args bounds = recorded_is_run kept (empty_log most) prog f args bounds

take_none : (n : ℕ) → take {A = Step} n [] ≡ []
take_none zero = refl
take_none (suc n) = refl

-- a log of steps with one more
one_more : (most : ℕ) (steps : List Step) (it : Step) → log_of_steps most (behind steps it) ≡ kept (log_of_steps most steps) it
one_more most steps it = by (nat_lt (length steps) most) refl
  where
    by : (b : Bool) → nat_lt (length steps) most ≡ b → log_of_steps most (behind steps it) ≡ kept (log_of_steps most steps) it
    by true e =
        let room : length steps < most = ltb-true (length steps) most e in
        let some : length (steps ++ it ∷ []) ≡ length steps + 1 = length_push steps it in
        let all : take most (steps ++ it ∷ []) ≡ steps ++ it ∷ [] = take_all most (steps ++ it ∷ []) (omega (arith, room, some)) in
        let same : take most steps ≡ steps = take_all most steps (omega (arith, room)) in
        let still : nat_lt most (length (steps ++ it ∷ [])) ≡ false = le-ltb most (length (steps ++ it ∷ [])) (omega (arith, room, some)) in
        let before : nat_lt most (length steps) ≡ false = le-ltb most (length steps) (omega (arith, room)) in
        rw (all, same, still, before, e) refl
    by false e =
        let full : most ≤ length steps = ltb-false (length steps) most e in
        let some : length (steps ++ it ∷ []) ≡ length steps + 1 = length_push steps it in
        let first : take most (steps ++ it ∷ []) ≡ take most steps = take-append-le most steps (it ∷ []) full in
        let many : length (take most steps) ≡ most = length-take-le most steps full in
        let past : nat_lt most (length (steps ++ it ∷ [])) ≡ true = lt-ltb most (length (steps ++ it ∷ [])) (omega (arith, full, some)) in
        let none : nat_lt most most ≡ false = le-ltb most most (omega arith) in
        rw (first, past, many, none) refl

none : (most : ℕ) → log_of_steps most [] ≡ empty_log most
none most =
    let no : nat_lt most (length {A = Step} []) ≡ false = le-ltb most (length {A = Step} []) (omega arith) in
    rw (take_none most, no) refl

pub log_keeps_first : (most : ℕ) (prog : Prog) (f : FunId) (args : List Value) (bounds : Bounds) → log_of (recorded kept (empty_log most) prog f args bounds) ≡ log_of_steps most (path prog f args bounds)
unfolding path
log_keeps_first most prog f args bounds =
    ap (λ log. log_of (recorded kept log prog f args bounds)) (sym (none most))
    ∙ ap log_of (sym ((all_calls (log_of_steps most) behind kept (one_more most) prog bounds most_calls [] nowhere f.index args).logs (record { memory = start; log = [] })))
    ∙ logs_of (log_of_steps most) (traced prog f args bounds)
