-- A call of `judge`: its words, how it ends, and what it does to its source and its sink.
use Rattle.std.specs.Prelude.{ℕ, ◌≤◌, List, ◌∷◌, length, Option, IfSome, map, String, string_bytes, codes}
use Rattle.std.specs.Borrow.{MutBor}
use denote.Triple.Both.{Both}
use Rattle.sk_base.specs.Stream.{Rose}
use Rattle.sk_base.specs.declared.source.Source as source
use Rattle.sk_base.specs.declared.sink.Sink as sink
use Rattle.sk_opts.specs.declared.line.Set.{Set}
use Rattle.sk_opts.specs.declared.line.Line.TheVariants as line
use Rattle.sk_opts.specs.declared.line.Usage.{Usage}
use Rattle.sk_opts.specs.declared.line.Usage.TheVariants as usage
use Rattle.sk_opts.specs.CommandLine.{IsLine}
use Rattle.sk_app_reading.specs.Streams.{Appends, AppendsPrefix}
use Rattle.sk_check_app.specs.declared.ending.Ending.{Ending}

-- what is left of the source before and after a call, what the sink holds, where they tell it, and the counts of
-- their faults
pub record Effect : Type 0 where
  pub left_old : Option (List ℕ)
  pub left_new : Option (List ℕ)
  pub read_faults_old : ℕ
  pub read_faults_new : ℕ
  pub held_old : Option (List ℕ)
  pub held_new : Option (List ℕ)
  pub write_faults_old : ℕ
  pub write_faults_new : ℕ

pub record Call : Type 0 where
  pub words : List (List ℕ)
  pub ending : Ending
  pub effect : Effect

-- The effect on the source and the sink of a contract: `entry` is what each is as the call begins, `exit` as it returns.
abbrev pub effect : {S K : Type 0} → source.Ghosts S → sink.Ghosts K → Both (MutBor S) (MutBor S) → Both (MutBor K) (MutBor K) → Effect
effect s k from to = record {
  left_old = s.left from.entry.now;
  left_new = s.left from.exit.now;
  read_faults_old = s.faults from.entry.now;
  read_faults_new = s.faults from.exit.now;
  held_old = k.held to.entry.now;
  held_new = k.held to.exit.now;
  write_faults_old = k.faults to.entry.now;
  write_faults_new = k.faults to.exit.now;
}

abbrev pub call : {S K Z : Type 0} → source.Ghosts S → sink.Ghosts K → List (String Z) → Ending → Both (MutBor S) (MutBor S) → Both (MutBor K) (MutBor K) → Call
call s k words ending from to = record { words = map string_bytes words; ending = ending; effect = effect s k from to }

-- Words

-- Behind the word `check` the words are a line with these options.
abbrev pub IsWords : List (List ℕ) → Set → Type 0
IsWords words set = IsLine (codes "check" ∷ words) (line.Check set)

-- they are so for no options
abbrev pub IsNoWords : List (List ℕ) → Type 0
IsNoWords words = (set : Set) → IsWords words set → ⊥

-- what is told of words: they are so for no options, or memory ran out
abbrev pub IsToldOfWords : List (List ℕ) → Usage → Type 0
IsToldOfWords words usage.NotALine = IsNoWords words
IsToldOfWords words usage.Memory = Unit {0}

-- they are so, and this holds of the options
pub record ForWords (words : List (List ℕ)) (Holds : Set → Type 0) : Type 0 where
  pub set : Set
  pub is : IsWords words set
  pub holds : Holds set

-- Streams

-- a prefix of a text of this kind was appended to what the sink held
pub record WritesPart (P : List ℕ → Type 0) (old new : Option (List ℕ)) : Type 0 where
  pub out : List ℕ
  pub is : P out
  pub appends : AppendsPrefix out old new

-- the greatest number of bytes of an input: of a sketch, and of what stands behind it
abbrev pub most_input : ℕ
most_input = 67108864

-- This holds of the input that the source had left, where it tells that.
abbrev pub OfInput : Call → (List ℕ → Type 0) → Type 0
OfInput c Holds = IfSome c.effect.left_old Holds

-- This holds of an input that is not too long.
abbrev pub OfShortInput : Call → (List ℕ → Type 0) → Type 0
OfShortInput c Holds = OfInput c (λ input. length input ≤ most_input → Holds input)

-- This line was appended to what the sink held, where it tells that.
abbrev pub Gets : Call → List ℕ → Type 0
Gets c out = Appends out c.effect.held_old c.effect.held_new

-- The source failed: its count of faults rose.
abbrev pub SourceFailed : Call → Type 0
SourceFailed c = Rose c.effect.read_faults_old c.effect.read_faults_new

-- The sink failed.
abbrev pub SinkFailed : Call → Type 0
SinkFailed c = Rose c.effect.write_faults_old c.effect.write_faults_new
