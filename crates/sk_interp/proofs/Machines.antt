-- What is done in a memory, and with its log.
use Rattle.std.proofs.Common.{◌≡◌, false, refl, ap}
use Rattle.sk_model.specs.Step.{State, Comp}
use Rattle.sk_model.specs.Step as step
use Rattle.sk_interp_laws.specs.declared.log.Log.{Log}
use Rattle.sk_interp_laws.specs.declared.step.Step.{Step}
use Rattle.sk_interp_laws.specs.Recording.{Goes, lifted}
use Rattle.sk_interp_laws.specs.Kept.{has_room, kept}
use Rattle.sk_interp.specs.declared.stop.Stop.{Stop}
use Rattle.sk_interp.specs.declared.stop.Stop.TheVariants.{Failed, Skipped, NoMemory}
use Rattle.sk_interp.specs.Gives.{Stops}
use Rattle.sk_interp.specs.Records.{Ends}

-- a log that is full keeps no step
pub full : (log : Log) (a b : Step) → has_room log ≡ false → kept log a ≡ kept log b
full log a b h = rw h refl

pub lift_goes : {A : Type 0} (m : step.Step A) (a : A) (s : State) (log : Log) → m ≡ step.Goes a s → lifted m log ≡ Goes a (record { memory = s; log = log })
lift_goes m a s log e = ap (λ n. lifted n log) e

pub lift_ends : {A : Type 0} (stop : Stop) (m : step.Step A) (log : Log) → Stops stop m → Ends stop log (lifted m log)
lift_ends (Failed span) m log e = ap (λ n. lifted n log) e
lift_ends (Skipped span) m log e = ap (λ n. lifted n log) e
lift_ends NoMemory m log e = tt

pub ruleset lifts = (lift_goes, lift_ends)
