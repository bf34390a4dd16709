-- What the outcome of a run over nodes says of a run.
--
-- The records that a run makes are gone when it is over. So what is answered names none, and is worth what the run gives
-- where no record is.
use Rattle.std.specs.Prelude.{◌≡◌, ℕ, Bool, true, false, List, [], Option, Some, None}
use Rattle.sk_base.specs.declared.bounds.Bounds.{Bounds}
use Rattle.sk_dag.specs.declared.env.Env.{Env}
use Rattle.sk_dag.specs.declared.shape.Shape.{Shape}
use Rattle.sk_dag.specs.Graph.{Graph, Grows, HasBool, HasCost}
use Rattle.sk_dag.specs.Eval.{bool_value, cost_value}
use Rattle.sk_dag.specs.EvalShape.{shape_value}
use Rattle.sk_arr.specs.Shapes.{AllStand}
use Rattle.sk_arr.specs.Answers.{shapes_value}
use Rattle.sk_prog.specs.declared.ids.FunId.{FunId}
use Rattle.sk_prog.specs.declared.prog.Fun.{Fun}
use Rattle.sk_prog.specs.declared.ty.Ty.{Ty}
use Rattle.sk_prog.specs.declared.value.Value.{Value}
use Rattle.sk_model.specs.declared.expanded.Choice.{Choice}
use Rattle.sk_model.specs.declared.expanded.Expanded.{Expanded}
use Rattle.sk_model.specs.declared.outcome.Outcome.{Outcome}
use Rattle.sk_model.specs.declared.outcome.Outcome.TheVariants as outcome
use Rattle.sk_model.specs.Fill.{InRange}
use Rattle.sk_model.specs.Open.{run_open}
use Rattle.sk_sym_folds.specs.Chosen.{chosen_values}
use Rattle.sk_heap_laws.specs.Values.{IsLive, AllLive}
use Rattle.sk_sym_state.specs.declared.state.Ended.{Ended}
use Rattle.sk_sym_state.specs.declared.state.SymState.{SymState}
use Rattle.sk_sym_state.specs.Seen.{IsWorth, AreWorth}
use Rattle.sk_sym_state.specs.Stands.{AnyStands}
use Rattle.sk_sym.specs.declared.outcome.SymOutcome.{SymOutcome}

-- A result is there where the run has one, and is worth it.
abbrev pub ResultSays : Graph → Env → Option Shape → Option Value → Type 0
ResultSays g e None None = Unit {0}
ResultSays g e (Some r) (Some v) = IsWorth g e [] r v
ResultSays g e None (Some v) = ⊥
ResultSays g e (Some r) None = ⊥

-- The run neither fails nor is skipped, and gives this result, these final values of the `ref` parameters, and this cost.
pub record SaysDone (g : Graph) (e : Env) (made : SymOutcome) (v : Option Value) (vs : List Value) (paid : ℕ) : Type 0 where
  pub failed : bool_value g e made.failed ≡ false
  pub skipped : bool_value g e made.skipped ≡ false
  pub result : ResultSays g e made.result v
  pub refs : AreWorth g e [] made.refs vs
  pub cost : cost_value g e made.cost ≡ paid

-- The run fails, or it is skipped, as these say.
pub record SaysEnded (g : Graph) (e : Env) (made : SymOutcome) (fails skips : Bool) : Type 0 where
  pub failed : bool_value g e made.failed ≡ fails
  pub skipped : bool_value g e made.skipped ≡ skips

-- In the environment, the outcome over nodes says that the run ended so. It tells no span.
abbrev pub Says : Graph → Env → SymOutcome → Outcome → Type 0
Says g e made (outcome.Done result refs cost) = SaysDone g e made result refs cost
Says g e made (outcome.Failed span) = SaysEnded g e made true false
Says g e made (outcome.Skipped span) = SaysEnded g e made false true

-- the choice of an environment, unless one is given
abbrev pub choice_of : Option Choice → Env → Choice
choice_of given e = record { values = chosen_values given e }

-- In every graph to which this one grows, and in every environment whose choice is in range: on the values that the
-- arguments are worth there, the outcome says how the function runs under that choice.
pub record IsOutcome (d : Graph) (x : Expanded) (given : Option Choice) (f : FunId) (args : List Shape) (bounds : Bounds) (made : SymOutcome) : Type 0 where
  pub failed : HasBool d.nodes made.failed
  pub skipped : HasBool d.nodes made.skipped
  pub cost : HasCost d.nodes made.cost
  pub result : AnyStands d made.result
  pub refs : AllStand d made.refs
  pub says : (g : Graph) (e : Env) (values : List Value) → Grows d g → InRange x (choice_of given e) → AreWorth g e [] args values → Says g e made (run_open x (choice_of given e) f values bounds)

-- ---- Step by step

-- whatever records there are, each that the shape names is there: it names none
pub record NamesNone (r : Shape) : Type 0 where
  pub live : (g : Graph) (e : Env) (holds : ℕ → Bool) → IsLive holds (shape_value g e r)

pub record AllNameNone (list : List Shape) : Type 0 where
  pub live : (g : Graph) (e : Env) (holds : ℕ → Bool) → AllLive holds (shapes_value g e list)

-- the result of a function of this result type: the shape that is given, which names no record
abbrev pub IsResultOf : Option Ty → Option Shape → Option Shape → Type 0
IsResultOf None given r = r ≡ None
IsResultOf (Some t) None r = r ≡ None
IsResultOf (Some t) (Some a) r = (r ≡ Some a) × NamesNone a

-- how a run of the function ends in this state, with what its first call gives
pub record IsMadeOf (fun : Fun) (s : SymState) (ended : Ended) (made : SymOutcome) : Type 0 where
  pub failed : made.failed ≡ s.failed
  pub skipped : made.skipped ≡ s.skipped
  pub cost : made.cost ≡ s.cost
  pub refs : made.refs ≡ ended.refs
  pub unnamed : AllNameNone ended.refs
  pub result : IsResultOf fun.result ended.result made.result

-- in each later graph and each environment the outcome says that the run fails
pub record AlwaysFails (d : Graph) (made : SymOutcome) : Type 0 where
  pub failed : HasBool d.nodes made.failed
  pub skipped : HasBool d.nodes made.skipped
  pub cost : HasCost d.nodes made.cost
  pub result : made.result ≡ None
  pub refs : made.refs ≡ []
  pub says : (g : Graph) → Grows d g → (e : Env) → SaysEnded g e made true false
