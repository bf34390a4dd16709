-- Bits: truth values that are known, and literals.
use Rattle.std.specs.Prelude.{◌≡◌, ℕ, ◌+◌, ◌≤◌, Bool, not, if◌then◌else◌, List, All}
use Rattle.sk_clause.specs.declared.lit.Lit.{Lit}
use Rattle.sk_clause.specs.Meaning.{lit_true}
use Rattle.sk_gates.specs.declared.bit.Bit.{Bit}
use Rattle.sk_gates.specs.declared.bit.Bit.TheVariants.{Constant, Literal}
use Rattle.sk_gates.specs.declared.fold.Folded.{Folded}
use Rattle.sk_gates.specs.declared.fold.Folded.TheVariants.{Done, Gate}

-- what a bit is where the variables have these values
abbrev pub bit_true : (ℕ → Bool) → Bit → Bool
bit_true v (Constant b) = b
bit_true v (Literal l) = lit_true v l

-- how many variables there are at least, if a bit speaks of one of them: none for a constant
abbrev pub reach : Bit → ℕ
reach (Constant b) = 0
reach (Literal l) = l.var + 1

-- each bit is a constant, or a literal of one of the first vars variables
abbrev pub AreOver : ℕ → List Bit → Type 0
AreOver vars bits = All (λ b. reach b ≤ vars) bits

-- one of two, and not both
abbrev pub differ : Bool → Bool → Bool
differ a b = if a then not b else b

-- the first where the condition is true, else the second
abbrev pub choose : Bool → Bool → Bool → Bool
choose c a b = if c then a else b

-- a bit that is there already, whose value is always f of the values of a and b
pub record IsDone (f : Bool → Bool → Bool) (a b r : Bit) : Type 0 where
  pub value : (v : ℕ → Bool) → bit_true v r ≡ f (bit_true v a) (bit_true v b)
  pub within : (n : ℕ) → reach a ≤ n → reach b ≤ n → reach r ≤ n

-- a and b are the literals of which a gate is to be made
pub record AreLeft (a b : Bit) (x y : Lit) : Type 0 where
  pub first : a ≡ Literal x
  pub second : b ≡ Literal y

-- what is known of two bits before a gate is made of them
abbrev pub IsFolded : (Bool → Bool → Bool) → Bit → Bit → Folded → Type 0
IsFolded f a b (Done r) = IsDone f a b r
IsFolded f a b (Gate x y) = AreLeft a b x y
