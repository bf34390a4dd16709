-- What a part of a program does from a state and a log of the steps before it: what it does in a run, and besides it may tell a step.
-- A log is anything that takes in one step after another.
use Rattle.sk_base.specs.declared.span.Span.{Span}
use Rattle.sk_model.specs.Step.{State, Comp}
use Rattle.sk_model.specs.Step as plain
use Rattle.sk_interp_laws.specs.declared.step.Step.{Step}

pub record Recorded (L : Type 0) : Type 0 where
  pub memory : State
  pub log : L

-- It goes on with a value, the state and the log that it leaves, or it ends the run with the log of the steps before the end.
pub data Going (L A : Type 0) : Type 0 where
  Goes : A → Recorded L → Going L A
  Fails : Span → L → Going L A
  Skips : Span → L → Going L A

-- what is done from a state and a log
abbrev pub Traced : Type 0 → Type 0 → Type 0
Traced L A = Recorded L → Going L A

-- An end is passed on by all that stands around it.
abbrev pub and_then : {L A B : Type 0} → Going L A → (A → Traced L B) → Going L B
and_then (Goes a r) k = k a r
and_then (Fails span log) k = Fails span log
and_then (Skips span log) k = Skips span log

infixl 10 ◌>>=◌
abbrev pub ◌>>=◌ : {L A B : Type 0} → Traced L A → (A → Traced L B) → Traced L B
m >>= k = λ r. and_then (m r) k

abbrev pub pure : {L A : Type 0} → A → Traced L A
pure a = λ r. Goes a r

abbrev pub fail : {L A : Type 0} → Span → Traced L A
fail span = λ r. Fails span r.log

abbrev pub skip : {L A : Type 0} → Span → Traced L A
skip span = λ r. Skips span r.log

-- what is done in a run, which tells no step
abbrev pub lifted : {L A : Type 0} → plain.Step A → L → Going L A
lifted (plain.Goes a s) log = Goes a (record { memory = s; log = log })
lifted (plain.Fails span) log = Fails span log
lifted (plain.Skips span) log = Skips span log

abbrev pub lift : {L A : Type 0} → Comp A → Traced L A
lift m = λ r. lifted (m r.memory) r.log

-- One step more, where logs take in a step so.
abbrev pub tell : {L : Type 0} → (L → Step → L) → Step → Traced L (Unit {0})
tell take step = λ r. Goes tt (record r { log = take r.log step })
