-- What the program does with the line that words spell.
use Rattle.std.specs.Prelude.{ℕ, ◌⊎◌, Bool, List, Option}
use Rattle.sk_base.specs.declared.bounds.Budget.{Budget}
use Rattle.sk_opts.specs.declared.line.Set.{Set}
use Rattle.sk_opts.specs.declared.line.Line.{Line}
use Rattle.sk_opts.specs.declared.line.Line.TheVariants as line
use Rattle.sk_opts.specs.CommandLine.{IsLine}
use Rattle.sk_app.specs.declared.direct.Way.{Way}
use Rattle.sk_app.specs.declared.direct.Way.TheVariants as way
use Rattle.sk_app.specs.declared.direct.Job.{Job}
use Rattle.sk_app.specs.declared.listing.Question.{Question}
use Rattle.sk_app.specs.declared.listing.Question.TheVariants as question

-- the words spell no line
abbrev pub IsNoLine : List (List ℕ) → Type 0
IsNoLine words = (l : Line) → IsLine words l → ⊥

-- The words are a line `synth` with these options and budgets, which asks for a certificate or does not.
abbrev pub IsSearch : List (List ℕ) → Set → Budget → Bool → Type 0
IsSearch words set budget cert = IsLine words (line.Synth set budget cert)

-- they are such a line, and this holds of it
pub record ForSearch (words : List (List ℕ)) (Holds : Set → Budget → Bool → Type 0) : Type 0 where
  pub set : Set
  pub budget : Budget
  pub cert : Bool
  pub is : IsSearch words set budget cert
  pub holds : Holds set budget cert

-- The words are such a line with these options, whatever else it asks for.
pub record IsSynth (words : List (List ℕ)) (set : Set) : Type 0 where
  pub budget : Budget
  pub cert : Bool
  pub is : IsSearch words set budget cert

-- the line that asks for a function of this name to be run so on these values
abbrev pub line_by : Way → Set → List ℕ → List (List ℕ) → Line
line_by way.Exec set name values = line.Exec set name values
line_by (way.Trace holes) set name values = line.Trace set name values holes

abbrev pub line_of : Set → Job → Line
line_of set job = line_by job.way set job.name job.values

-- The words are a line `exec` or `trace` with these options, which asks for this job.
abbrev pub IsJob : List (List ℕ) → Set → Job → Type 0
IsJob words set job = IsLine words (line_of set job)

-- they are such a line, and this holds of it
pub record ForJob (words : List (List ℕ)) (Holds : Set → Job → Type 0) : Type 0 where
  pub set : Set
  pub job : Job
  pub is : IsJob words set job
  pub holds : Holds set job

-- The words are a line `trace` with these options and numbers, this name and these values, and this holds of it.
pub record ForTrace (words : List (List ℕ)) (Holds : Set → Option (List ℕ) → List ℕ → List (List ℕ) → Type 0) : Type 0 where
  pub set : Set
  pub holes : Option (List ℕ)
  pub name : List ℕ
  pub values : List (List ℕ)
  pub is : IsLine words (line.Trace set name values holes)
  pub holds : Holds set holes name values

-- The words are a line `lower`, and this holds of its options.
pub record ForLower (words : List (List ℕ)) (Holds : Set → Type 0) : Type 0 where
  pub set : Set
  pub is : IsLine words (line.Lower set)
  pub holds : Holds set

-- The words are a line `prune`, and this holds of its options.
pub record ForPrune (words : List (List ℕ)) (Holds : Set → Type 0) : Type 0 where
  pub set : Set
  pub is : IsLine words (line.Prune set)
  pub holds : Holds set

-- The words are a line `all` with these options, which asks for so many completions at most, and this holds of it.
pub record ForAll (words : List (List ℕ)) (Holds : Set → ℕ → Type 0) : Type 0 where
  pub set : Set
  pub most : ℕ
  pub is : IsLine words (line.All set most)
  pub holds : Holds set most

-- The words are a line `why`, and this holds of its options.
pub record ForWhy (words : List (List ℕ)) (Holds : Set → Type 0) : Type 0 where
  pub set : Set
  pub is : IsLine words (line.Why set)
  pub holds : Holds set

-- The words are a line `check`, and this holds of its options.
pub record ForCheck (words : List (List ℕ)) (Holds : Set → Type 0) : Type 0 where
  pub set : Set
  pub is : IsLine words (line.Check set)
  pub holds : Holds set

-- The words are a line `self`, and this holds of its number.
pub record ForSelf (words : List (List ℕ)) (Holds : ℕ → Type 0) : Type 0 where
  pub n : ℕ
  pub is : IsLine words (line.Itself n)
  pub holds : Holds n

-- the line that asks this about completions
abbrev pub line_asking : Set → Question → Line
line_asking set (question.Which most) = line.All set most
line_asking set question.Why = line.Why set

-- The words are a line that takes a text as it is, with these options: `synth`, `exec` or `trace`, `prune`, `all` or
-- `why`.
pub data TakesText (words : List (List ℕ)) (set : Set) : Type 0 where
  takes_synth : IsSynth words set → TakesText words set
  takes_job : (job : Job) → IsJob words set job → TakesText words set
  takes_prune : IsLine words (line.Prune set) → TakesText words set
  takes_all : (most : ℕ) → IsLine words (line.All set most) → TakesText words set
  takes_why : IsLine words (line.Why set) → TakesText words set

-- The words are a line, with these options, that takes a text whose runs, too, are within their limits.
pub data SizesText (words : List (List ℕ)) (set : Set) : Type 0 where
  sizes_synth : IsSynth words set → SizesText words set
  sizes_all : (most : ℕ) → IsLine words (line.All set most) → SizesText words set
  sizes_why : IsLine words (line.Why set) → SizesText words set

-- they are such a line, and this holds of its options
pub record ForText (words : List (List ℕ)) (Holds : Set → Type 0) : Type 0 where
  pub set : Set
  pub takes : TakesText words set
  pub holds : Holds set

-- The words are a line that reads a text, with these options: one that takes it as it is, or `lower`, which takes its plain form.
abbrev pub ReadsText : List (List ℕ) → Set → Type 0
ReadsText words set = TakesText words set ⊎ IsLine words (line.Lower set)

-- The words are a line that reads its source, with these options: one that reads a text, or `check`, which reads a sketch and a certificate.
abbrev pub ReadsSource : List (List ℕ) → Set → Type 0
ReadsSource words set = ReadsText words set ⊎ IsLine words (line.Check set)
