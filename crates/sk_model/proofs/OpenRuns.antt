-- A run of a program that leaves nothing open under a choice is its run.
use Rattle.std.proofs.Common.{◌≡◌, ℕ, zero, suc, List, [], ◌∷◌, ◌++◌, map, Option, Some, None, Bool, refl, ap, subst, ◌∙◌}
use Rattle.std.specs.Prelude.{IsTrue, if◌then◌else◌, nat_lt, count_by, ◌==◌, slice_get}
use Rattle.std.specs.List.{list_all}
use Rattle.std.proofs.lemmas.Bool.{and_parts}
use Rattle.sk_base.specs.declared.span.Span.{Span}
use Rattle.sk_base.specs.declared.bounds.Bounds.{Bounds}
use Rattle.sk_prog.specs.declared.ids.FunId.{FunId}
use Rattle.sk_prog.specs.declared.value.Value.{Value}
use Rattle.sk_prog.specs.declared.prog.FunKind.{FunKind}
use Rattle.sk_prog.specs.declared.prog.FunKind.TheVariants as kind
use Rattle.sk_prog.specs.declared.prog.Fun.{Fun}
use Rattle.sk_prog.specs.declared.prog.Prog.{Prog}
use Rattle.sk_model.specs.declared.expanded.Choice.{Choice}
use Rattle.sk_model.specs.declared.expanded.Expanded.{Expanded}
use Rattle.sk_model.specs.Parts.{in_turn}
use Rattle.sk_model.specs.Fill.{minimize_of, before_body}
use Rattle.sk_model.specs.Step.{Comp, fail}
use Rattle.sk_model.specs.Eval.{Called, Calls}
use Rattle.sk_model.specs.Exec.{exec_stmt, one_by_one}
use Rattle.sk_model.specs.Run.{Bodies, in_frame, body_of, calls, outcome_of, most_calls, nowhere, start, filled_bodies, run_by, run}
use Rattle.sk_model.specs.Closed.{fun_closed, is_closed}
use Rattle.sk_model.specs.Open.{open_stmt, sites_before, open_body, open_bodies, run_open}
use Rattle.sk_model.proofs.OpenStmts.{closed_turn}
use Rattle.sk_model.proofs.OpenPaid.{none_paid}

-- Runs by bodies that do the same, of each function of the program, are the same.
module _ (prog : Prog) (bounds : Bounds) (b c : Bodies) (same : (call : Calls) (f : ℕ) (fun : Fun) → slice_get prog.funs f ≡ Some fun → b call f fun ≡ c call f fun) where
  body_same : (call : Calls) (f : ℕ) (span : Span) (o : Option Fun) (args : List Value) → slice_get prog.funs f ≡ o → body_of (b call f) span o args ≡ body_of (c call f) span o args
  body_same call f span None args is = refl
  body_same call f span (Some fun) args is = ap (in_frame fun args) (same call f fun is)

  if_same : (t : Bool) (m n o : Comp Called) → m ≡ n → (if t then m else o) ≡ (if t then n else o)
  if_same t m n o is = ap (λ k. if t then k else o) is

  one_more : (left : ℕ) (active : List ℕ) (f : ℕ) → calls prog bounds b left (active ++ f ∷ []) ≡ calls prog bounds c left (active ++ f ∷ []) → (span : Span) (args : List Value) → calls prog bounds b (suc left) active span f args ≡ calls prog bounds c (suc left) active span f args
  unfolding calls
  one_more left active f inner span args =
      let first : Calls = calls prog bounds b left (active ++ f ∷ []) in
      let second : Calls = calls prog bounds c left (active ++ f ∷ []) in
      if_same (nat_lt (count_by (λ g. g == f) active) bounds.inline_amnt) (body_of (b first f) span (slice_get prog.funs f) args) (body_of (c second f) span (slice_get prog.funs f) args) (fail span)
      (body_same first f span (slice_get prog.funs f) args refl ∙ ap (λ call. body_of (c call f) span (slice_get prog.funs f) args) inner)

  calls_same : (left : ℕ) (active : List ℕ) → calls prog bounds b left active ≡ calls prog bounds c left active
  unfolding calls
  calls_same zero active = refl
  calls_same (suc left) active = λ i span f args. one_more left active f (calls_same left (active ++ f ∷ [])) span args i

  runs_same : (f : FunId) (args : List Value) → run_by prog b f args bounds ≡ run_by prog c f args bounds
  runs_same f args = ap (λ (call : Calls). outcome_of (call nowhere f.index args start)) (calls_same most_calls [])

closed_at : (funs : List Fun) (f : ℕ) (fun : Fun) → IsTrue (list_all fun_closed funs) → slice_get funs f ≡ Some fun → IsTrue (fun_closed fun)
closed_at [] f fun h is = cc
closed_at (g ∷ gs) zero fun h is = let e : g ≡ fun = cc in subst (λ x. IsTrue (fun_closed x)) e (and_parts (fun_closed g) (list_all fun_closed gs) h).0
closed_at (g ∷ gs) (suc f) fun h is = closed_at gs f fun (and_parts (fun_closed g) (list_all fun_closed gs) h).1 is

before_none : (k : FunKind) → before_body k [] ≡ []
before_none kind.Plain = refl
before_none kind.Harness = refl
before_none kind.Generator = refl

body_closed : (e : Expanded) (a : Choice) (bounds : Bounds) (call : Calls) (f : ℕ) (fun : Fun) → IsTrue (is_closed e.prog) → IsTrue (fun_closed fun) → open_bodies e a bounds call f fun ≡ filled_bodies e.prog bounds call f fun
body_closed e a bounds call f fun all one =
    ap (λ paid. open_body e.prog bounds a.values call (map minimize_of paid) fun (sites_before e.prog bounds a.values call e.prog.funs f)) (none_paid e a.values all)
    ∙ ap (λ before. one_by_one (map (exec_stmt e.prog bounds call) before ++ in_turn (map (open_stmt e.prog bounds a.values call) fun.body) (sites_before e.prog bounds a.values call e.prog.funs f))) (before_none fun.kind)
    ∙ ap one_by_one (closed_turn e.prog bounds a.values call fun.body (sites_before e.prog bounds a.values call e.prog.funs f) one)

pub closed_runs : (e : Expanded) (a : Choice) (f : FunId) (args : List Value) (bounds : Bounds) → IsTrue (is_closed e.prog) → run_open e a f args bounds ≡ run e.prog f args bounds
unfolding run_open run
closed_runs e a f args bounds h = runs_same e.prog bounds (open_bodies e a bounds) (filled_bodies e.prog bounds) (λ call g fun is. body_closed e a bounds call g fun h (closed_at e.prog.funs g fun h is)) f args
