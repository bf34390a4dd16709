-- The two parts of the input of a line `check`: a sketch, and behind a line that is exactly `//%%` what `synth --cert` wrote.
use Rattle.std.specs.Prelude.{ℕ, ◌≡◌, ◌≤◌, ◌⊎◌, List, [], ◌++◌, length, codes}
use Rattle.sk_cert.specs.Departing.{AreLines}

-- what stands on the line between the parts
abbrev pub mark : List ℕ
mark = codes "//%%"

-- The text begins with that line, and this stands behind it. The line ends with a line feed, or the text ends with the line.
abbrev pub BeginsWithMark : List ℕ → List ℕ → Type 0
BeginsWithMark text behind = (text ≡ mark ++ codes "\n" ++ behind) ⊎ ((text ≡ mark) × (behind ≡ []))

-- Whole lines, or nothing, stand before such a line, and this behind it.
pub record HasMark (input front behind : List ℕ) : Type 0 where
  pub lines : AreLines front
  pub rest : List ℕ
  pub is : input ≡ front ++ rest
  pub begins : BeginsWithMark rest behind

-- these stand before and behind the first such line
pub record IsAtMark (input sketch behind : List ℕ) : Type 0 where
  pub mark : HasMark input sketch behind
  pub first : (front rest : List ℕ) → HasMark input front rest → length sketch ≤ length front

-- There is no such line: all is sketch.
pub record HasNoMark (input sketch behind : List ℕ) : Type 0 where
  pub none : (front rest : List ℕ) → HasMark input front rest → ⊥
  pub all : sketch ≡ input
  pub nothing : behind ≡ []

-- The first such line divides the input.
abbrev pub Splits : List ℕ → List ℕ → List ℕ → Type 0
Splits input sketch behind = IsAtMark input sketch behind ⊎ HasNoMark input sketch behind
