-- From outcomes to checks.
use Rattle.std.proofs.Common.{◌≡◌, ℕ, ◌<◌, true, ◌⊎◌, inl, inr, List, [], Option, Some, None, ◌↔◌, arith}
use Rattle.sk_base.specs.declared.bounds.Bounds.{Bounds}
use Rattle.sk_dag.specs.declared.env.Env.{Env}
use Rattle.sk_dag.specs.declared.node.BoolId.{BoolId}
use Rattle.sk_dag.specs.declared.shape.Shape.{Shape}
use Rattle.sk_dag.specs.Graph.{Graph, Grows, HasBool, BoolSort, CostSort}
use Rattle.sk_dag.specs.Eval.{bool_value, Keeps}
use Rattle.sk_arr.specs.Shapes.{AllStand}
use Rattle.sk_arr.proofs.Makers.{Keeps-refl}
use Rattle.sk_arr.proofs.Standing.{Stands-keeps, AllStand-keeps}
use Rattle.sk_prog.specs.declared.ids.FunId.{FunId}
use Rattle.sk_prog.specs.declared.value.Value.{Value}
use Rattle.sk_model.specs.declared.expanded.Choice.{Choice}
use Rattle.sk_model.specs.declared.expanded.Expanded.{Expanded}
use Rattle.sk_model.specs.declared.expanded.Obligation.TheVariants as obligation
use Rattle.sk_model.specs.Fill.{InRange}
use Rattle.sk_model.specs.Meets.{SpeaksAgainst}
use Rattle.sk_model.specs.Open.{run_open}
use Rattle.sk_oblig_queries.specs.Queries.{IsOver}
use Rattle.sk_sym_state.specs.Seen.{AreWorth}
use Rattle.sk_sym_state.specs.Stands.{AnyStands}
use Rattle.sk_sym.specs.declared.outcome.SymOutcome.{SymOutcome}
use Rattle.sk_sym.specs.Outcome.{IsOutcome, choice_of}
use Rattle.sk_oblig_checks.specs.Checks.{IsCheck, IsThere, FailsOrCosts, Speaks}

pub outcome_there : {d : Graph} {x : Expanded} {given : Option Choice} {f : FunId} {args : List Shape} {bounds : Bounds} {made : SymOutcome} → IsOutcome d x given f args bounds made → IsThere d made
outcome_there is = record { failed = is.failed; skipped = is.skipped; cost = is.cost; result = is.result; refs = is.refs }

any_later : {a b : Graph} (r : Option Shape) → Keeps a b → AnyStands a r → AnyStands b r
any_later None k h = tt
any_later (Some s) k h = Stands-keeps k h

pub there_later : {a b : Graph} {made : SymOutcome} → Keeps a b → IsThere a made → IsThere b made
there_later {a} {b} {made} k is = record {
  failed = k.sorts made.failed.index BoolSort is.failed;
  skipped = k.sorts made.skipped.index BoolSort is.skipped;
  cost = k.sorts made.cost.index CostSort is.cost;
  result = any_later made.result k is.result;
  refs = AllStand-keeps k is.refs;
}

pub harness_check : {d0 d1 : Graph} {x : Expanded} {given : Option Choice} {f : FunId} {args : List Shape} {bounds : Bounds} {made : SymOutcome} {limit : Option ℕ} {r : BoolId}
    → Keeps d0 d1 → IsOutcome d0 x given f args bounds made → FailsOrCosts d1 made limit r → IsCheck d1 x given bounds limit (obligation.Harness f) args r
harness_check {d0} {d1} {x} {given} {f} {args} {bounds} {made} {limit} {r} k is bad = record {
  there = bad.there;
  value = λ g e values m range worth. bad.value g e (run_open x (choice_of given e) f values bounds) m (is.says g e values (k.later g m) range worth);
}

never_over : (limit : Option ℕ) → IsOver limit 0 → ⊥
never_over None h = h
never_over (Some most) h = absurd (omega (arith, h))

pub implementation_check : {d0 d1 d2 : Graph} {x : Expanded} {given : Option Choice} {f g : FunId} {args : List Shape} {bounds : Bounds} {reference own : SymOutcome} {limit : Option ℕ} {r : BoolId}
    → Keeps d0 d1 → Keeps d1 d2 → IsOutcome d0 x given g args bounds reference → IsOutcome d1 x given f args bounds own → Speaks d2 reference own r → IsCheck d2 x given bounds limit (obligation.Implements f g) args r
implementation_check {d0} {d1} {d2} {x} {given} {f} {g} {args} {bounds} {reference} {own} {limit} {r} k1 k2 is_reference is_own speaks = record {
  there = speaks.there;
  value = λ h e values m range worth.
      let m1 = k2.later h m in
      let m0 = k1.later h m1 in
      both h e values (speaks.value h e (run_open x (choice_of given e) g values bounds) (run_open x (choice_of given e) f values bounds) m (is_reference.says h e values m0 range worth) (is_own.says h e values m1 range worth));
}
  where
    both : (h : Graph) (e : Env) (values : List Value) → (bool_value h e r ≡ true) ↔ SpeaksAgainst (run_open x (choice_of given e) g values bounds) (run_open x (choice_of given e) f values bounds) → (bool_value h e r ≡ true) ↔ (SpeaksAgainst (run_open x (choice_of given e) g values bounds) (run_open x (choice_of given e) f values bounds) ⊎ IsOver limit 0)
    both h e values b = (λ t. inl (b.0 t), back)
      where
        back : SpeaksAgainst (run_open x (choice_of given e) g values bounds) (run_open x (choice_of given e) f values bounds) ⊎ IsOver limit 0 → bool_value h e r ≡ true
        back (inl s) = b.1 s
        back (inr over) = absurd (never_over limit over)

pub ruleset harness = (outcome_there, harness_check)

pub ruleset implementation = (outcome_there, there_later, implementation_check)
