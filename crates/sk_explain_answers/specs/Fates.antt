-- What the runs of an obligation come to.
use Rattle.std.specs.Prelude.{◌≡◌, List}
use Rattle.sk_base.specs.declared.bounds.Bounds.{Bounds}
use Rattle.sk_prog.specs.declared.value.Value.{Value}
use Rattle.sk_prog.specs.declared.prog.Prog.{Prog}
use Rattle.sk_model.specs.declared.expanded.Obligation.{Obligation}
use Rattle.sk_model.specs.declared.expanded.Obligation.TheVariants as obligation
use Rattle.sk_model.specs.Run.{run}
use Rattle.sk_explain_answers.specs.declared.fates.Fate.{Fate}
use Rattle.sk_explain_answers.specs.declared.fates.Fate.TheVariants as fate

-- the run of a harness, or those of an implementation and of its reference
abbrev pub fate_of : Prog → Bounds → List Value → Obligation → Fate
fate_of prog bounds args (obligation.Harness f) = fate.Harness (run prog f args bounds)
fate_of prog bounds args (obligation.Implements f g) = fate.Implements (run prog f args bounds) (run prog g args bounds)

abbrev pub IsFate : Prog → Bounds → List Value → Obligation → Fate → Type 0
IsFate prog bounds args obligation told = told ≡ fate_of prog bounds args obligation
