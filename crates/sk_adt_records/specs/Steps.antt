-- What a part of a program does from a state whose records of algebraic structs have the fields of one variant alone. It goes on, fails or is skipped as
-- in a run, or it strays: it asks a record for what it has not.
use Rattle.std.specs.Prelude.{ℕ, List, [], Option, Some, None}
use Rattle.sk_base.specs.declared.span.Span.{Span}
use Rattle.sk_prog.specs.declared.ids.StructId.{StructId}
use Rattle.sk_prog.specs.declared.value.Value.{Value}
use Rattle.sk_model.specs.Step as plain

-- A record of a struct: the number of its variant, where the struct is algebraic, and the values of the fields that it has, by their numbers. Those of an
-- algebraic struct are the fields of its variant alone.
pub record Record : Type 0 where
  pub of : StructId
  pub variant : Option ℕ
  pub at : ℕ → Option Value

-- as in a run, but for the records
pub record State : Type 0 where
  pub heap : List Record
  pub slots : List Value
  pub cost : ℕ

pub data Step (A : Type 0) : Type 0 where
  Goes : A → State → Step A
  Fails : Span → Step A
  Skips : Span → Step A
  Strays : Step A

-- what is done from a state
abbrev pub Comp : Type 0 → Type 0
Comp A = State → Step A

-- An end is passed on by all that stands around it.
abbrev pub and_then : {A B : Type 0} → Step A → (A → Comp B) → Step B
and_then (Goes a s) k = k a s
and_then (Fails span) k = Fails span
and_then (Skips span) k = Skips span
and_then Strays k = Strays

infixl 10 ◌>>=◌
abbrev pub ◌>>=◌ : {A B : Type 0} → Comp A → (A → Comp B) → Comp B
m >>= k = λ s. and_then (m s) k

abbrev pub pure : {A : Type 0} → A → Comp A
pure a = λ s. Goes a s

abbrev pub fail : {A : Type 0} → Span → Comp A
fail span = λ s. Fails span

abbrev pub skip : {A : Type 0} → Span → Comp A
skip span = λ s. Skips span

abbrev pub or_stray : {A : Type 0} → Option A → Comp A
or_stray None = λ s. Strays
or_stray (Some a) = pure a

-- what is done in a run, of what asks for no record

abbrev pub bare : State → plain.State
bare s = record { heap = []; slots = s.slots; cost = s.cost }

abbrev pub lifted : {A : Type 0} → State → plain.Step A → Step A
lifted s (plain.Goes a end) = Goes a (record { heap = s.heap; slots = end.slots; cost = end.cost })
lifted s (plain.Fails span) = Fails span
lifted s (plain.Skips span) = Skips span

abbrev pub lift : {A : Type 0} → plain.Comp A → Comp A
lift m = λ s. lifted s (m (bare s))
