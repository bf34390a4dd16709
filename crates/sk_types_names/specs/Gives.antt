-- What a call of the code answers: what the function does, unless memory runs out. Which rule it names where there is
-- nothing is left open.
use Rattle.std.specs.Prelude.{◌≡◌, ◌≤◌, ℕ, Option, Some, None, Result, Ok, Err}
use Rattle.sk_base.specs.declared.bounds.Bounds.{Bounds}
use Rattle.sk_types_laws.specs.declared.fault.Typing.{Typing}
use Rattle.sk_types_laws.specs.declared.fault.Typing.TheVariants.{Fault, Memory}

-- the widths of `int` that the code takes
pub record IsWidth (bounds : Bounds) : Type 0 where
  pub at_least : 2 ≤ bounds.int_bits
  pub at_most : bounds.int_bits ≤ 32

abbrev pub Fails : {A : Type 0} → Typing → Option A → Type 0
Fails Memory o = Unit {0}
Fails (Fault f) o = o ≡ None

abbrev pub Gives : {A : Type 0} → Result A Typing → Option A → Type 0
Gives (Ok a) o = o ≡ Some a
Gives (Err fault) o = Fails fault o

-- a call that only want of memory stops
abbrev pub Makes : {A : Type 0} → Result A Typing → A → Type 0
Makes (Ok a) b = b ≡ a
Makes (Err Memory) b = Unit {0}
Makes (Err (Fault f)) b = ⊥

abbrev pub IsMemory : Typing → Type 0
IsMemory Memory = Unit {0}
IsMemory (Fault f) = ⊥
