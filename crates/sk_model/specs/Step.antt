-- What a part of a program does from a state: it goes on with a value and the state that it leaves, or
-- it ends the run at once, as failed or as skipped, with the span of a statement.
use Rattle.std.specs.Prelude.{ℕ, List}
use Rattle.sk_base.specs.declared.span.Span.{Span}
use Rattle.sk_prog.specs.declared.value.Value.{Value}

-- The heap is the list of its records, each the list of its fields. A place is a record's index. The
-- slots are the variables of the active call. The cost is the sum of all that was minimized so far.
pub record State : Type 0 where
  pub heap : List (List Value)
  pub slots : List Value
  pub cost : ℕ

pub data Step (A : Type 0) : Type 0 where
  Goes : A → State → Step A
  Fails : Span → Step A
  Skips : Span → Step A

-- what is done from a state
abbrev pub Comp : Type 0 → Type 0
Comp A = State → Step A

-- An end is passed on by all that stands around it.
abbrev pub and_then : {A B : Type 0} → Step A → (A → Comp B) → Step B
and_then (Goes a s) k = k a s
and_then (Fails span) k = Fails span
and_then (Skips span) k = Skips span

infixl 10 ◌>>=◌
abbrev pub ◌>>=◌ : {A B : Type 0} → Comp A → (A → Comp B) → Comp B
m >>= k = λ s. and_then (m s) k

abbrev pub pure : {A : Type 0} → A → Comp A
pure a = λ s. Goes a s

abbrev pub fail : {A : Type 0} → Span → Comp A
fail span = λ s. Fails span

abbrev pub skip : {A : Type 0} → Span → Comp A
skip span = λ s. Skips span
