-- Laws of steps.
use Rattle.std.specs.Prelude.{◌≡◌, ℕ, List}
use Rattle.sk_base.specs.declared.bounds.Bounds.{Bounds}
use Rattle.sk_prog.specs.declared.ids.FunId.{FunId}
use Rattle.sk_prog.specs.declared.value.Value.{Value}
use Rattle.sk_prog.specs.declared.prog.Prog.{Prog}
use Rattle.sk_model.specs.Run.{run}
use Rattle.sk_interp_laws.specs.Run.{recorded, log_of, outcome_of}
use Rattle.sk_interp_laws.specs.Path.{traced, path}
use Rattle.sk_interp_laws.specs.Kept.{empty_log, kept, log_of_steps}

-- Without its steps, a run with all its steps is the run.
abbrev pub WithoutStepsIsRun : Type 0
WithoutStepsIsRun = (prog : Prog) (f : FunId) (args : List Value) (bounds : Bounds) → outcome_of (traced prog f args bounds) ≡ run prog f args bounds

-- A log that keeps so many steps holds the first of the path after a run, and tells whether the path has others.
abbrev pub LogKeepsFirst : Type 0
LogKeepsFirst = (most : ℕ) (prog : Prog) (f : FunId) (args : List Value) (bounds : Bounds) → log_of (recorded kept (empty_log most) prog f args bounds) ≡ log_of_steps most (path prog f args bounds)

-- However many steps it keeps, the run is the same.
abbrev pub LoggedIsRun : Type 0
LoggedIsRun = (most : ℕ) (prog : Prog) (f : FunId) (args : List Value) (bounds : Bounds) → outcome_of (recorded kept (empty_log most) prog f args bounds) ≡ run prog f args bounds
