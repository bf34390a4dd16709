-- What the code gives of a memory, as a step of a run. Of want of memory nothing is said.
use Rattle.std.specs.Prelude.{◌≡◌, Result, Ok, Err}
use Rattle.sk_model.specs.Step.{State, Step, Goes, Fails, Skips, Comp}
use Rattle.sk_interp.specs.declared.stop.Stop.{Stop}
use Rattle.sk_interp.specs.declared.stop.Stop.TheVariants.{Failed, Skipped, NoMemory}

-- the end that a stop is
abbrev pub Stops : {A : Type 0} → Stop → Step A → Type 0
Stops (Failed span) m = m ≡ Fails span
Stops (Skipped span) m = m ≡ Skips span
Stops NoMemory m = Unit {0}

-- the code gives what the step is
abbrev pub Gives : {A : Type 0} → Result A Stop → State → Step A → Type 0
Gives (Ok a) s m = m ≡ Goes a s
Gives (Err stop) s m = Stops stop m

-- the code gives what is done from every state, which stays
abbrev pub Finds : {A : Type 0} → Result A Stop → Comp A → Type 0
Finds result m = (s : State) → Gives result s (m s)
