-- Runs of a program without costs cost nothing.
use Rattle.std.proofs.Common.{◌≡◌, ℕ, zero, suc, true, List, [], ◌∷◌, ◌++◌, map, Option, Some, None, inl, refl, sym, ap, subst, ◌∙◌, le_of_eq}
use Rattle.std.specs.Prelude.{slice_get, count_by, nat_lt, ◌==◌}
use Rattle.sk_base.specs.declared.span.Span.{Span}
use Rattle.sk_base.specs.declared.bounds.Bounds.{Bounds}
use Rattle.sk_prog.specs.declared.ids.FunId.{FunId}
use Rattle.sk_prog.specs.declared.value.Value.{Value}
use Rattle.sk_prog.specs.declared.stmt.PStmt.{PStmt}
use Rattle.sk_prog.specs.declared.prog.Fun.{Fun}
use Rattle.sk_prog.specs.declared.prog.FunKind.{FunKind}
use Rattle.sk_prog.specs.declared.prog.FunKind.TheVariants as kind
use Rattle.sk_model.specs.declared.expanded.Choice.{Choice}
use Rattle.sk_model.specs.declared.expanded.Expanded.{Expanded}
use Rattle.sk_model.specs.declared.expanded.Obligation.{Obligation}
use Rattle.sk_model.specs.declared.expanded.Obligation.TheVariants as obligation
use Rattle.sk_model.specs.Obligations.{obligations}
use Rattle.sk_model.specs.Parts.{in_turn}
use Rattle.sk_model.specs.Stands.{standing, all_paid}
use Rattle.sk_model.specs.Fill.{minimize_of, before_body}
use Rattle.sk_model.specs.Step.{Step, Goes, Fails, Skips, Comp, and_then}
use Rattle.sk_model.specs.Eval.{Called, Calls}
use Rattle.sk_model.specs.Exec.{Flow, one_by_one, exec_stmt}
use Rattle.sk_model.specs.Run.{result_of, refs_from, first_slots, in_frame, body_of, calls, most_calls, nowhere, start, outcome_of}
use Rattle.sk_model.specs.Open.{open_stmt, sites_before, open_bodies, run_open}
use Rattle.sk_model.specs.Meets.{cost_of}
use Rattle.sk_holes_choice_laws.specs.Meeting.{cost_of_obligation_under}
use Rattle.sk_min_costs.specs.Free.{stmts_free, is_free}
use Rattle.sk_min_costs.specs.Laws.{FreeCostsNothing, FreeIsBest}
use Rattle.sk_min_costs.proofs.Places.{list_all_at}
use Rattle.sk_min_costs.proofs.Steps.{Kept, Costless, fail_costless, if_costless}
use Rattle.sk_min_costs.proofs.Exprs.{CallsCostless}
use Rattle.sk_min_costs.proofs.Stmts.{row_costless, body_costless}
use Rattle.sk_min_costs.proofs.Paid.{funs_pay}

-- what a call does with the end of a body
abbrev close : Fun → List Value → Flow → Comp Called
close fun slots flow end = Goes (record { result = result_of fun.result flow; refs = refs_from 0 fun.params end.slots }) (record end { slots = slots })

closed : (fun : Fun) (slots : List Value) (c : ℕ) (x : Step Flow) → Kept c x → Kept c (and_then x (close fun slots))
closed fun slots c (Goes flow t) e = e
closed fun slots c (Fails span) e = tt
closed fun slots c (Skips span) e = tt

frame_costless : (fun : Fun) (args : List Value) (body : Comp Flow) → Costless body → Costless (in_frame fun args body)
frame_costless fun args body h = record { each = λ s. closed fun s.slots s.cost (body (record s { slots = first_slots fun args })) (h.each (record s { slots = first_slots fun args })) }

before_none : (k : FunKind) (paid : List PStmt) → paid ≡ [] → before_body k paid ≡ []
before_none kind.Harness paid h = h
before_none k paid h = refl

step_cost : (x : Step Called) → Kept 0 x → cost_of (outcome_of x) ≡ 0
step_cost (Goes called s) h = h
step_cost (Fails span) h = refl
step_cost (Skips span) h = refl

module _ (e : Expanded) (choice : Choice) (bounds : Bounds) (free : is_free e.prog ≡ true) where
  abbrev paid : List PStmt
  paid = map minimize_of (all_paid (standing e choice.values))

  nothing_paid : paid ≡ []
  nothing_paid = ap (map minimize_of) (funs_pay choice.values e.ordinary [] 0 0 e.prog.funs free)

  body_at : (call : Calls) → CallsCostless call → (f : ℕ) (fun : Fun) → slice_get e.prog.funs f ≡ Some fun → Costless (open_bodies e choice bounds call f fun)
  body_at call h f fun at =
      let own : ℕ = sites_before e.prog bounds choice.values call e.prog.funs f in
      let ms : List (Comp Flow) = in_turn (map (open_stmt e.prog bounds choice.values call) fun.body) own in
      subst (λ (before : List PStmt). Costless (one_by_one (map (exec_stmt e.prog bounds call) before ++ ms))) (sym (before_none fun.kind paid nothing_paid))
      (row_costless ms (body_costless e.prog bounds choice.values call h fun.body (list_all_at (λ (f : Fun). stmts_free f.body) e.prog.funs f fun free at) own))

  entered : (call : Calls) → CallsCostless call → (span : Span) (f : ℕ) (args : List Value) (o : Option Fun) → slice_get e.prog.funs f ≡ o → Costless (body_of (open_bodies e choice bounds call f) span o args)
  entered call h span f args None at = fail_costless span
  entered call h span f args (Some fun) at = frame_costless fun args (open_bodies e choice bounds call f fun) (body_at call h f fun at)

  calls_costless : (left : ℕ) (active : List ℕ) → CallsCostless (calls e.prog bounds (open_bodies e choice bounds) left active)
  unfolding calls
  calls_costless zero active = record { each = λ span f args. fail_costless span }
  calls_costless (suc left) active = record {
    each = λ span f args. if_costless (nat_lt (count_by (λ g. g == f) active) bounds.inline_amnt)
        (entered (calls e.prog bounds (open_bodies e choice bounds) left (active ++ f ∷ [])) (calls_costless left (active ++ f ∷ [])) span f args (slice_get e.prog.funs f) refl)
        (fail_costless span);
  }

  run_costs_nothing : (f : FunId) (args : List Value) → cost_of (run_open e choice f args bounds) ≡ 0
  unfolding run_open
  run_costs_nothing f args = step_cost (calls e.prog bounds (open_bodies e choice bounds) most_calls [] nowhere f.index args start) (((calls_costless most_calls []).each nowhere f.index args).each start)

  obligation_costs_nothing : (args : List Value) (o : Option Obligation) → cost_of_obligation_under e choice bounds args o ≡ 0
  obligation_costs_nothing args None = refl
  obligation_costs_nothing args (Some (obligation.Harness f)) = run_costs_nothing f args
  obligation_costs_nothing args (Some (obligation.Implements f g)) = refl

pub free_costs_nothing : FreeCostsNothing
free_costs_nothing e choice bounds met free input = met.costs input ∙ obligation_costs_nothing e choice bounds free input.args (slice_get (obligations e.prog) input.obligation)

pub free_is_best : FreeIsBest
free_is_best e choice bounds met free = record {
  greatest = λ input is. le_of_eq (free_costs_nothing e choice bounds met free input);
  reached = inl refl;
}
