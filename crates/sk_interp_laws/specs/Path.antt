-- The path of a run: the list of its steps, from the first to the last.
use Rattle.std.specs.Prelude.{List, [], ◌∷◌, ◌++◌}
use Rattle.sk_base.specs.declared.bounds.Bounds.{Bounds}
use Rattle.sk_prog.specs.declared.ids.FunId.{FunId}
use Rattle.sk_prog.specs.declared.value.Value.{Value}
use Rattle.sk_prog.specs.declared.prog.Prog.{Prog}
use Rattle.sk_model.specs.Eval.{Called}
use Rattle.sk_interp_laws.specs.declared.step.Step.{Step}
use Rattle.sk_interp_laws.specs.Recording.{Going}
use Rattle.sk_interp_laws.specs.Run.{recorded, log_of}

-- a list of steps takes in one more behind
abbrev pub behind : List Step → Step → List Step
behind steps step = steps ++ step ∷ []

-- a run with all its steps
abbrev pub traced : Prog → FunId → List Value → Bounds → Going (List Step) Called
traced prog f args bounds = recorded behind [] prog f args bounds

unfoldable pub path : Prog → FunId → List Value → Bounds → List Step
path prog f args bounds = log_of (traced prog f args bounds)
