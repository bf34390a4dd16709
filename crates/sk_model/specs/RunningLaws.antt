-- Laws of runs.
use Rattle.std.specs.Prelude.{◌≡◌, ◌⊎◌, List, [], IsTrue}
use Rattle.sk_base.specs.declared.bounds.Bounds.{Bounds}
use Rattle.sk_prog.specs.declared.ids.FunId.{FunId}
use Rattle.sk_prog.specs.declared.value.Value.{Value}
use Rattle.sk_prog.specs.declared.prog.Prog.{Prog}
use Rattle.sk_model.specs.declared.expanded.Choice.{Choice}
use Rattle.sk_model.specs.declared.expanded.Expanded.{Expanded}
use Rattle.sk_model.specs.declared.outcome.Outcome.{Outcome}
use Rattle.sk_model.specs.declared.outcome.Outcome.TheVariants as outcome
use Rattle.sk_model.specs.Run.{run}
use Rattle.sk_model.specs.Filled.{is_filled}
use Rattle.sk_model.specs.Closed.{is_closed}
use Rattle.sk_model.specs.Sites.{sites}
use Rattle.sk_model.specs.Fill.{fill}
use Rattle.sk_model.specs.Open.{run_open}
use Rattle.sk_model.specs.Meets.{HasFailed}

abbrev pub IsDone : Outcome → Type 0
IsDone (outcome.Done result refs cost) = Unit {0}
IsDone _ = ⊥

abbrev pub IsSkipped : Outcome → Type 0
IsSkipped (outcome.Skipped span) = Unit {0}
IsSkipped _ = ⊥

-- A run ends in exactly one of three ways.
pub record EndsInOneWay (o : Outcome) : Type 0 where
  pub one : IsDone o ⊎ HasFailed o ⊎ IsSkipped o
  pub not_failed : IsDone o → HasFailed o → ⊥
  pub not_skipped : IsDone o → IsSkipped o → ⊥
  pub not_both : HasFailed o → IsSkipped o → ⊥

-- Where nothing is open, a run under any choice is the run: also where repeats by constants are not yet blocks.
abbrev pub OpenRunIsRun : Type 0
OpenRunIsRun = (e : Expanded) (a : Choice) (f : FunId) (args : List Value) (bounds : Bounds) → IsTrue (is_closed e.prog) → run_open e a f args bounds ≡ run e.prog f args bounds

-- A filled program leaves nothing open.
abbrev pub FilledIsClosed : Type 0
FilledIsClosed = (p : Prog) → IsTrue (is_filled p) → IsTrue (is_closed p)

-- A program without sites leaves nothing open.
abbrev pub NoSitesIsClosed : Type 0
NoSitesIsClosed = (bounds : Bounds) (p : Prog) → sites bounds p ≡ [] → IsTrue (is_closed p)

-- So where a program has no sites, its run under any choice is its run.
abbrev pub RunWithoutSites : Type 0
RunWithoutSites = (e : Expanded) (a : Choice) (f : FunId) (args : List Value) (bounds : Bounds) → sites bounds e.prog ≡ [] → run_open e a f args bounds ≡ run e.prog f args bounds

-- A filling is filled.
abbrev pub FillingIsFilled : Type 0
FillingIsFilled = (e : Expanded) (a : Choice) → IsTrue (is_filled (fill e a))
