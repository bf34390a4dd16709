-- What the code gives of a machine, as a step of a run with its log. Of want of memory nothing is said.
use Rattle.std.specs.Prelude.{◌≡◌, Result, Ok, Err}
use Rattle.sk_model.specs.Step.{Comp}
use Rattle.sk_interp_laws.specs.declared.log.Log.{Log}
use Rattle.sk_interp_laws.specs.Recording.{Recorded, Going, Goes, Fails, Skips, lift}
use Rattle.sk_interp.specs.declared.stop.Stop.{Stop}
use Rattle.sk_interp.specs.declared.stop.Stop.TheVariants.{Failed, Skipped, NoMemory}

-- the end that a stop is, with this log
abbrev pub Ends : {A : Type 0} → Stop → Log → Going Log A → Type 0
Ends (Failed span) log m = m ≡ Fails span log
Ends (Skipped span) log m = m ≡ Skips span log
Ends NoMemory log m = Unit {0}

-- the code gives what the step is
abbrev pub Records : {A : Type 0} → Result A Stop → Recorded Log → Going Log A → Type 0
Records (Ok a) r m = m ≡ Goes a r
Records (Err stop) r m = Ends stop r.log m

-- the same, where what the code gives means what the step gives
abbrev pub RecordsAs : {A B : Type 0} → (A → B) → Result A Stop → Recorded Log → Going Log B → Type 0
RecordsAs meaning (Ok a) r m = m ≡ Goes (meaning a) r
RecordsAs meaning (Err stop) r m = Ends stop r.log m

-- the code gives what is done from every memory and log, which stay
abbrev pub Computes : {A : Type 0} → Result A Stop → Comp A → Type 0
Computes result m = (r : Recorded Log) → Records result r (lift m r)

abbrev pub ComputesAs : {A B : Type 0} → (A → B) → Result A Stop → Comp B → Type 0
ComputesAs meaning result m = (r : Recorded Log) → RecordsAs meaning result r (lift m r)
