-- Whether arguments speak against a choice, as a node of a graph.
use Rattle.std.specs.Prelude.{◌≡◌, ℕ, ◌⊎◌, ◌↔◌, true, List, [], Option, Some}
use Rattle.sk_base.specs.declared.bounds.Bounds.{Bounds}
use Rattle.sk_dag.specs.declared.env.Env.{Env}
use Rattle.sk_dag.specs.declared.node.BoolId.{BoolId}
use Rattle.sk_dag.specs.declared.shape.Shape.{Shape}
use Rattle.sk_dag.specs.Graph.{Graph, Grows, HasBool, HasCost}
use Rattle.sk_dag.specs.Eval.{bool_value}
use Rattle.sk_arr.specs.Shapes.{AllStand}
use Rattle.sk_prog.specs.declared.value.Value.{Value}
use Rattle.sk_model.specs.declared.expanded.Choice.{Choice}
use Rattle.sk_model.specs.declared.expanded.Expanded.{Expanded}
use Rattle.sk_model.specs.declared.expanded.Obligation.{Obligation}
use Rattle.sk_model.specs.declared.outcome.Outcome.{Outcome}
use Rattle.sk_model.specs.Fill.{InRange}
use Rattle.sk_model.specs.Meets.{HasFailed, SpeaksAgainst, cost_of}
use Rattle.sk_holes_choice_laws.specs.Meeting.{IsBrokenUnder, cost_of_obligation_under}
use Rattle.sk_oblig_queries.specs.Queries.{IsOver}
use Rattle.sk_sym_state.specs.Seen.{IsWorth, AreWorth}
use Rattle.sk_sym_state.specs.Stands.{AnyStands}
use Rattle.sk_sym.specs.declared.outcome.SymOutcome.{SymOutcome}
use Rattle.sk_sym.specs.Outcome.{ResultSays, Says, choice_of}

-- Under the choice the arguments speak against it: they break the obligation, or it is a harness, which is done at a cost
-- above the limit.
abbrev pub IsBadUnder : Expanded → Choice → Bounds → Option ℕ → Obligation → List Value → Type 0
IsBadUnder x a bounds limit o args = IsBrokenUnder x a bounds args (Some o) ⊎ IsOver limit (cost_of_obligation_under x a bounds args (Some o))

-- In every graph to which this one grows, and in every environment whose choice is in range: the node holds exactly where
-- the values that the arguments are worth there speak against that choice.
pub record IsCheck (d : Graph) (x : Expanded) (given : Option Choice) (bounds : Bounds) (limit : Option ℕ) (o : Obligation) (args : List Shape) (bad : BoolId) : Type 0 where
  pub there : HasBool d.nodes bad
  pub value : (g : Graph) (e : Env) (values : List Value) → Grows d g → InRange x (choice_of given e) → AreWorth g e [] args values → (bool_value g e bad ≡ true) ↔ IsBadUnder x (choice_of given e) bounds limit o values

-- ---- Step by step

-- the nodes of an outcome are those of the graph
pub record IsThere (d : Graph) (made : SymOutcome) : Type 0 where
  pub failed : HasBool d.nodes made.failed
  pub skipped : HasBool d.nodes made.skipped
  pub cost : HasCost d.nodes made.cost
  pub result : AnyStands d made.result
  pub refs : AllStand d made.refs

-- the node holds exactly where the two are worth the same, which name no record
pub record Agrees (d : Graph) (a b : Shape) (r : BoolId) : Type 0 where
  pub there : HasBool d.nodes r
  pub value : (g : Graph) (e : Env) (v w : Value) → Grows d g → IsWorth g e [] a v → IsWorth g e [] b w → (bool_value g e r ≡ true) ↔ (v ≡ w)

-- so of two results
pub record ResultsAgree (d : Graph) (a b : Option Shape) (r : BoolId) : Type 0 where
  pub there : HasBool d.nodes r
  pub value : (g : Graph) (e : Env) (v w : Option Value) → Grows d g → ResultSays g e a v → ResultSays g e b w → (bool_value g e r ≡ true) ↔ (v ≡ w)

-- so of two lists
pub record AllAgree (d : Graph) (a b : List Shape) (r : BoolId) : Type 0 where
  pub there : HasBool d.nodes r
  pub value : (g : Graph) (e : Env) (vs ws : List Value) → Grows d g → AreWorth g e [] a vs → AreWorth g e [] b ws → (bool_value g e r ≡ true) ↔ (vs ≡ ws)

-- the node holds exactly where the run fails, or is done at a cost above the limit
pub record FailsOrCosts (d : Graph) (made : SymOutcome) (limit : Option ℕ) (r : BoolId) : Type 0 where
  pub there : HasBool d.nodes r
  pub value : (g : Graph) (e : Env) (o : Outcome) → Grows d g → Says g e made o → (bool_value g e r ≡ true) ↔ (HasFailed o ⊎ IsOver limit (cost_of o))

-- the node holds exactly where the run of a reference speaks against that of its implementation
pub record Speaks (d : Graph) (reference own : SymOutcome) (r : BoolId) : Type 0 where
  pub there : HasBool d.nodes r
  pub value : (g : Graph) (e : Env) (o p : Outcome) → Grows d g → Says g e reference o → Says g e own p → (bool_value g e r ≡ true) ↔ SpeaksAgainst o p
