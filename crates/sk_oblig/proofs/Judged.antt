-- What runs on constants say of an input and a choice.
use Rattle.std.proofs.Common.{◌≡◌, ℕ, Bool, true, List, slice_get, Option, Some, ◌↔◌, sym, ap, subst, ◌∙◌}
use Rattle.sk_base.specs.declared.bounds.Bounds.{Bounds}
use Rattle.sk_dag.specs.declared.env.Env.{Env}
use Rattle.sk_dag.specs.declared.node.BoolId.{BoolId}
use Rattle.sk_dag.specs.declared.shape.Shape.{Shape}
use Rattle.sk_dag.specs.Graph.{Graph}
use Rattle.sk_dag.specs.Eval.{bool_value, Keeps}
use Rattle.sk_dag.proofs.EvalLemmas.{Grows-refl}
use Rattle.sk_prog.specs.declared.ids.FunId.{FunId}
use Rattle.sk_prog.specs.declared.value.Value.{Value}
use Rattle.sk_model.specs.declared.expanded.Choice.{Choice}
use Rattle.sk_model.specs.declared.expanded.Expanded.{Expanded}
use Rattle.sk_model.specs.declared.expanded.Input.{Input}
use Rattle.sk_model.specs.declared.expanded.Obligation.{Obligation}
use Rattle.sk_model.specs.declared.outcome.Outcome.{Outcome}
use Rattle.sk_model.specs.Obligations.{obligations}
use Rattle.sk_model.specs.Fill.{InRange, fill}
use Rattle.sk_model.specs.Meets.{cost_of, cost_on}
use Rattle.sk_model.specs.Open.{run_open}
use Rattle.sk_holes_choice_laws.specs.Meeting.{cost_of_obligation_under}
use Rattle.sk_oblig_checks.specs.Constants.{AreConstant}
use Rattle.sk_oblig_checks.specs.SymOutcome.{SymOutcome}
use Rattle.sk_oblig_checks.specs.Outcome.{IsOutcome, Says}
use Rattle.sk_oblig_checks.specs.Checks.{IsCheck, IsBadUnder}
use Rattle.sk_oblig.specs.Formulas.{IsAskable}
use Rattle.sk_oblig.proofs.Speaking.{keeps_width}

-- Whether it speaks against the choice

-- constants are worth the same in each environment
pub judged : {d0 d1 : Graph} {x : Expanded} {a : Choice} {bounds : Bounds} {limit : Option ℕ} (o : Obligation) (args : List Value) (shapes slice : List Shape) (r : BoolId) (e : Env) (test : Bool)
    → slice ≡ shapes → InRange x a → Keeps d0 d1 → AreConstant d0 args shapes → IsCheck d1 x (Some a) bounds limit o slice r → test ≡ bool_value d1 e r
    → (test ≡ true) ↔ IsBadUnder x a bounds limit o args
judged {d0} {d1} {x} {a} {bounds} {limit} o args shapes slice r e test same range keeps are checks is =
    let check : IsCheck d1 x (Some a) bounds limit o shapes r = subst (λ (ss : List Shape). IsCheck d1 x (Some a) bounds limit o ss r) same checks in
    let both = check.value d1 e args (Grows-refl d1) range (are.worth d1 e (keeps.later d1 (Grows-refl d1))) in
    (λ h. both.0 (sym is ∙ h), λ h. is ∙ both.1 h)

-- What it costs

pub run_costs : {d0 d1 : Graph} {x : Expanded} {a : Choice} {bounds : Bounds} (f : FunId) (args : List Value) (shapes slice : List Shape) (made : SymOutcome) (e : Env) (cost : ℕ)
    → slice ≡ shapes → InRange x a → Keeps d0 d1 → AreConstant d0 args shapes → IsOutcome d1 x (Some a) f slice bounds made
    → ((o : Outcome) → Says d1 e made o → cost ≡ cost_of o) → cost ≡ cost_of (run_open x a f args bounds)
run_costs {d0} {d1} {x} {a} {bounds} f args shapes slice made e cost same range keeps are outcomes is =
    let outcome : IsOutcome d1 x (Some a) f shapes bounds made = subst (λ (ss : List Shape). IsOutcome d1 x (Some a) f ss bounds made) same outcomes in
    is (run_open x a f args bounds) (outcome.says d1 e args (Grows-refl d1) range (are.worth d1 e (keeps.later d1 (Grows-refl d1))))

pub filling_costs : {x : Expanded} {bounds : Bounds} {a : Choice} (input : Input) (o : Obligation) (args : List Value) (cost : ℕ)
    → IsAskable x bounds → InRange x a → slice_get (obligations x.prog) input.obligation ≡ Some o → args ≡ input.args
    → cost ≡ cost_of_obligation_under x a bounds args (Some o) → cost ≡ cost_on (fill x a) bounds input
filling_costs {x} {bounds} {a} input o args cost askable range at same is =
    is ∙ ap (λ (vs : List Value). cost_of_obligation_under x a bounds vs (Some o)) same ∙ ap (cost_of_obligation_under x a bounds input.args) (sym at) ∙ sym ((askable.met a range).costs input)

pub ruleset judging = (keeps_width)
