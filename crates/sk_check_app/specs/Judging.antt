-- What a call of `judge` does: for words, for its source, and for the input that this gives.
use Rattle.std.specs.Prelude.{ℕ, ◌≡◌, ◌<◌, ◌⊎◌, Bool, true, false, List, [], length, Option}
use Rattle.sk_base.specs.Stream.{Rose}
use Rattle.sk_cert.specs.declared.fault.CertFault.{CertFault}
use Rattle.sk_opts.specs.declared.line.Set.{Set}
use Rattle.sk_front.specs.declared.fault.SketchFault.{SketchFault}
use Rattle.sk_front.specs.declared.fault.SketchFault.TheVariants as sketch
use Rattle.sk_front.specs.Texts.{most_bytes}
use Rattle.sk_app_texts.specs.CheckTexts.{accepted_text}
use Rattle.sk_app_reading.specs.Streams.{Appends, IsCut, IsWhole, IsLong, TakesFew}
use Rattle.sk_check_text.specs.declared.checking.Checked.{Checked}
use Rattle.sk_check_text.specs.declared.checking.Checked.TheVariants as checked
use Rattle.sk_check_text.specs.declared.fault.CheckFault.{CheckFault}
use Rattle.sk_check_text.specs.declared.fault.CheckFault.TheVariants as fault
use Rattle.sk_check_text.specs.Checking.{OfParts, IsChecked, IsVerdict, IsFaultOfCheck, IsPlacedFault}
use Rattle.sk_check_app.specs.declared.ending.Ending.{Ending}
use Rattle.sk_check_app.specs.declared.ending.Ending.TheVariants.{Accepted, Rejected, NotCertificate, NotALine, NotText, NotTyped, TooLarge, ReadFault, WriteFault, TooLong, Memory}
use Rattle.sk_check_app.specs.Ending.{rejected_line}
use Rattle.sk_check_app.specs.Call.{Effect, IsWords, IsNoWords, most_input}

-- The input has too many bytes, or its sketch has more than a sketch may have.
abbrev pub IsTooLong : List ℕ → Type 0
IsTooLong input = (most_input < length input) ⊎ OfParts input (λ sketch behind. most_bytes < length sketch)

-- how a call ends that says this of an input
abbrev pub ending_with : Checked → Ending
ending_with checked.Accepted = Accepted
ending_with (checked.Rejected reason) = Rejected reason
ending_with (checked.NotCertificate told) = NotCertificate told

-- the line that is written of it
abbrev pub line_of : Checked → List ℕ
line_of checked.Accepted = accepted_text
line_of (checked.Rejected reason) = rejected_line reason
line_of (checked.NotCertificate told) = []

-- the ending of an input whose sketch is not taken
abbrev pub sketch_refusal : SketchFault → Ending
sketch_refusal (sketch.NotText told) = NotText told
sketch_refusal (sketch.NotTyped told) = NotTyped told
sketch_refusal (sketch.TooLarge reason) = TooLarge reason
sketch_refusal sketch.Memory = Memory

-- the ending of an input that is refused
abbrev pub refusal : CheckFault → Ending
refusal fault.TooLong = TooLong
refusal (fault.Sketch told) = sketch_refusal told

-- whether an ending writes nothing: those with a status from 10 on, but for a write fault
abbrev pub writes_nothing : Ending → Bool
writes_nothing Accepted = false
writes_nothing (Rejected reason) = false
writes_nothing WriteFault = false
writes_nothing _ = true

-- how the writing of a line ends: as wanted, cut off, or without room
pub data IsWritten (result done : Ending) (out : List ℕ) (faults_old faults_new : ℕ) (old new : Option (List ℕ)) : Type 0 where
  written : result ≡ done → Appends out old new → IsWritten result done out faults_old faults_new old new
  cut : result ≡ WriteFault → IsCut out faults_old faults_new old new → IsWritten result done out faults_old faults_new old new
  no_room : result ≡ Memory → new ≡ old → IsWritten result done out faults_old faults_new old new

-- what is done for an input that is not too long: it is refused, or what stands behind its sketch is no certificate, and nothing is
-- written; or a line is written of its certificate
pub data JudgesInput (set : Set) (input : List ℕ) (result : Ending) (faults_old faults_new : ℕ) (old new : Option (List ℕ)) : Type 0 where
  refused : (told : CheckFault) → IsFaultOfCheck set input told → IsPlacedFault input told → result ≡ refusal told → new ≡ old → JudgesInput set input result faults_old faults_new old new
  no_certificate : (told : CertFault) → IsChecked set input (checked.NotCertificate told) → result ≡ NotCertificate told → new ≡ old → JudgesInput set input result faults_old faults_new old new
  judged : (said : Checked) → IsVerdict said → IsChecked set input said → IsWritten result (ending_with said) (line_of said) faults_old faults_new old new → JudgesInput set input result faults_old faults_new old new

-- The source failed, or gives too many bytes, or memory was wanting, and nothing was written; or its bytes were taken, and
-- this was done for them.
pub data TakesSource (Does : List ℕ → Type 0) (result : Ending) (f : Effect) : Type 0 where
  failed : result ≡ ReadFault → Rose f.read_faults_old f.read_faults_new → f.held_new ≡ f.held_old → TakesSource Does result f
  long : result ≡ TooLong → IsLong most_input f.left_old → f.held_new ≡ f.held_old → TakesSource Does result f
  wanting : result ≡ Memory → f.held_new ≡ f.held_old → TakesSource Does result f
  whole : (input : List ℕ) → IsWhole most_input input f.left_old → Does input → TakesSource Does result f

-- what is done for the source, with these options
pub record Judges (set : Set) (result : Ending) (f : Effect) : Type 0 where
  pub takes : TakesSource (λ input. JudgesInput set input result f.write_faults_old f.write_faults_new f.held_old f.held_new) result f
  pub few : TakesFew most_input f.left_old f.left_new

-- this is the ending, and nothing was read or written
pub record DoesNothing (told result : Ending) (f : Effect) : Type 0 where
  pub is : result ≡ told
  pub unread : f.left_new ≡ f.left_old
  pub unwritten : f.held_new ≡ f.held_old

-- What is done for words: they are not the options of a line `check`, or they are these, or memory was wanting before that was known.
pub data Answers (words : List (List ℕ)) (result : Ending) (f : Effect) : Type 0 where
  no_line : IsNoWords words → DoesNothing NotALine result f → Answers words result f
  served : (set : Set) → IsWords words set → Judges set result f → Answers words result f
  no_memory : DoesNothing Memory result f → Answers words result f
