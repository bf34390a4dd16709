-- Whether a choice is in range, and the first value that is not.
use Rattle.std.specs.Prelude.{ℕ, ◌+◌, ◌≡◌, ◌≢◌, List, [], ◌∷◌, Bool, length, nat_lt, Option, Some, None, Result, Ok, Err, if◌then◌else◌, ◌⊎◌}
use Rattle.std.specs.List.{list_all}
use Rattle.sk_model.specs.declared.expanded.Site.{Site}
use Rattle.sk_model.specs.declared.expanded.Choice.{Choice}
use Rattle.sk_model.specs.declared.expanded.Expanded.{Expanded}
use Rattle.sk_model.specs.Fill.{InRange}
use Rattle.sk_holes.specs.declared.fault.FillFault.{FillFault}
use Rattle.sk_holes.specs.declared.fault.FillFault.TheVariants.{WrongLength, OutOfRange, Memory}

-- each is a number of a program
abbrev pub are_numbers : List ℕ → Bool
are_numbers vs = list_all (λ v. nat_lt v 4294967296) vs

-- Of sites of which the first has place i, the place of the first whose value is not below its size.
abbrev pub first_out : ℕ → List Site → List ℕ → Option ℕ
first_out i [] vs = None
first_out i (s ∷ ss) [] = None
first_out i (s ∷ ss) (v ∷ vs) = if nat_lt v s.size then first_out (i + 1) ss vs else Some i

-- There is a value for each site, and this site is the first whose value is not below its size.
pub record IsFirstOut (e : Expanded) (a : Choice) (site : ℕ) : Type 0 where
  pub all : length a.values ≡ length e.sites
  pub first : first_out 0 e.sites a.values ≡ Some site

-- What a test of the range answers.
abbrev pub Tests : Result (Unit {0}) FillFault → Expanded → Choice → Type 0
Tests (Ok done) e a = InRange e a
Tests (Err WrongLength) e a = length a.values ≢ length e.sites
Tests (Err (OutOfRange site)) e a = IsFirstOut e a site
Tests (Err Memory) e a = ⊥

-- Why a program is not filled, by the cause. Want of memory has none.
abbrev pub IsRefused : FillFault → Expanded → Choice → Type 0
IsRefused WrongLength e a = length a.values ≢ length e.sites
IsRefused (OutOfRange site) e a = IsFirstOut e a site
IsRefused Memory e a = Unit {0}

-- a fault says that the choice has another number of values, or is want of memory
abbrev pub IsWrongLengthOrMemory : FillFault → Type 0
IsWrongLengthOrMemory fault = (fault ≡ WrongLength) ⊎ (fault ≡ Memory)

-- a fault names this site, or is want of memory
abbrev pub IsOutOrMemory : ℕ → FillFault → Type 0
IsOutOrMemory site fault = (fault ≡ OutOfRange site) ⊎ (fault ≡ Memory)
