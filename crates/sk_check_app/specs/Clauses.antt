-- The clauses of `judge`, in pairs: an ending comes only where it has its cause; and where there is the cause, it comes, or the source or
-- the sink failed as `Ends` says, or memory was wanting. They say of words and input what the clauses of `run` say of a line `check`.
use Rattle.std.specs.Prelude.{ℕ, ◌≡◌, ◌≤◌, ◌<◌, List, IsTrue}
use Rattle.sk_types_laws.specs.declared.fault.TypeFault.{TypeFault}
use Rattle.sk_expand_sizes.specs.declared.fault.SizeFault.{SizeFault}
use Rattle.sk_cert.specs.declared.fault.CertFault.{CertFault}
use Rattle.sk_check_laws.specs.declared.reason.Reason.{Reason}
use Rattle.sk_check_laws.specs.Rejected.{part_number}
use Rattle.sk_opts.specs.declared.line.Set.{Set}
use Rattle.sk_front.specs.declared.fault.TextFault.{TextFault}
use Rattle.sk_front.specs.declared.fault.SketchFault.TheVariants as sketch
use Rattle.sk_app_texts.specs.CheckTexts.{accepted_text}
use Rattle.sk_app_reading.specs.Streams.{TakesFew}
use Rattle.sk_check_text.specs.declared.checking.Checked.{Checked}
use Rattle.sk_check_text.specs.declared.fault.CheckFault.{CheckFault}
use Rattle.sk_check_text.specs.declared.fault.CheckFault.TheVariants as fault
use Rattle.sk_check_text.specs.Checking.{TakesSketch, IsAccepted, IsRejectedFor, IsNone, IsSomeCertificate, IsChecked, IsFaultOfCheck, IsPlacedFault, IsCause, IsToldAs, IsVerdict}
use Rattle.sk_check_app.specs.declared.ending.Ending.{Ending}
use Rattle.sk_check_app.specs.declared.ending.Ending.TheVariants.{Accepted, Rejected, NotCertificate, NotALine, NotText, NotTyped, TooLarge, ReadFault, WriteFault, TooLong, Memory}
use Rattle.sk_check_app.specs.Ending.{rejected_line}
use Rattle.sk_check_app.specs.Call.{Call, IsWords, IsNoWords, ForWords, WritesPart, most_input, OfInput, OfShortInput, Gets, SourceFailed, SinkFailed}
use Rattle.sk_check_app.specs.Judging.{line_of, writes_nothing, IsTooLong}

-- The call ends so; or the source failed as this says, or the sink as that, or memory was wanting.
abbrev pub Ends : (Ending → Type 0) → (source sink : Type 0) → Ending → Type 0
Ends So source sink Memory = Unit {0}
Ends So source sink ReadFault = source
Ends So source sink WriteFault = sink
Ends So source sink ending = So ending

-- Words

-- Behind the word `check` the words are no line.
abbrev pub TellsNoLine : Call → Type 0
TellsNoLine c = c.ending ≡ NotALine → IsNoWords c.words

-- Such words end so.
abbrev pub NoLineEnds : Call → Type 0
NoLineEnds c = IsNoWords c.words → Ends (λ e. e ≡ NotALine) ⊥ ⊥ c.ending

-- Certificates

-- The sketch of the input is taken, and behind it stands a certificate of which each part holds, which is right; the sink got a line
-- that says so.
abbrev pub TellsAccepted : Call → Type 0
TellsAccepted c = c.ending ≡ Accepted → ForWords c.words (λ set. OfInput c (λ input. TakesSketch set input IsAccepted × Gets c accepted_text))

-- the certificate is accepted or rejected
abbrev pub IsOfVerdict : Ending → Type 0
IsOfVerdict Accepted = Unit {0}
IsOfVerdict (Rejected reason) = Unit {0}
IsOfVerdict _ = ⊥

-- A sketch that is taken with a certificate behind it ends so, or as rejected.
abbrev pub CheckedEnds : Call → Type 0
CheckedEnds c = (set : Set) → IsWords c.words set → OfShortInput c (λ input. TakesSketch set input IsSomeCertificate → Ends IsOfVerdict (SourceFailed c) (SinkFailed c) c.ending)

-- the certificate is accepted, or rejected for its formulas alone
abbrev pub IsOfAccepted : Ending → Type 0
IsOfAccepted Accepted = Unit {0}
IsOfAccepted (Rejected reason) = 6 ≤ part_number reason
IsOfAccepted _ = ⊥

-- With one of which each part holds it is rejected for its formulas alone.
abbrev pub AcceptedEnds : Call → Type 0
AcceptedEnds c = (set : Set) → IsWords c.words set → OfShortInput c (λ input. TakesSketch set input IsAccepted → Ends IsOfAccepted (SourceFailed c) (SinkFailed c) c.ending)

-- Behind the sketch stands a certificate of which the parts before this one hold, and this one does not; the sink got a line that
-- says so.
abbrev pub TellsRejected : Call → Type 0
TellsRejected c = (reason : Reason) → c.ending ≡ Rejected reason → ForWords c.words (λ set. OfInput c (λ input. TakesSketch set input (IsRejectedFor reason) × Gets c (rejected_line reason)))

-- A sketch with such a certificate ends so, for each part but the formulas.
abbrev pub RejectedEnds : Call → Type 0
RejectedEnds c = (set : Set) → IsWords c.words set → OfShortInput c (λ input. (reason : Reason) → part_number reason < 6 → TakesSketch set input (IsRejectedFor reason) → Ends (λ e. e ≡ Rejected reason) (SourceFailed c) (SinkFailed c) c.ending)

-- What stands behind the sketch is no certificate: this is the first line that departs from the form of one.
abbrev pub TellsNoForm : Call → Type 0
TellsNoForm c = (told : CertFault) → c.ending ≡ NotCertificate told → ForWords c.words (λ set. OfInput c (λ input. TakesSketch set input (IsNone told)))

-- A sketch with such a text behind it ends so.
abbrev pub NoFormEnds : Call → Type 0
NoFormEnds c = (set : Set) → IsWords c.words set → OfShortInput c (λ input. (told : CertFault) → TakesSketch set input (IsNone told) → Ends (λ e. e ≡ NotCertificate told) (SourceFailed c) ⊥ c.ending)

-- Inputs that are refused

-- The sketch of the input has this fault: its first as bytes, or what its tokens read as.
abbrev pub TellsNotText : Call → Type 0
TellsNotText c = (told : TextFault) → c.ending ≡ NotText told → ForWords c.words (λ set. OfInput c (λ input. IsFaultOfCheck set input (fault.Sketch (sketch.NotText told))))

-- It is told at a byte of the sketch, or at its end.
abbrev pub PlacesNotText : Call → Type 0
PlacesNotText c = (told : TextFault) → c.ending ≡ NotText told → OfInput c (λ input. IsPlacedFault input (fault.Sketch (sketch.NotText told)))

-- The tree of the sketch means no program with the options.
abbrev pub TellsNotTyped : Call → Type 0
TellsNotTyped c = (told : TypeFault) → c.ending ≡ NotTyped told → ForWords c.words (λ set. OfInput c (λ input. IsFaultOfCheck set input (fault.Sketch (sketch.NotTyped told))))

-- That is told at the span of an expression or a statement of the tree, which lies within the sketch, or at none, as 0 to 0.
abbrev pub PlacesNotTyped : Call → Type 0
PlacesNotTyped c = (told : TypeFault) → c.ending ≡ NotTyped told → OfInput c (λ input. IsPlacedFault input (fault.Sketch (sketch.NotTyped told)))

-- The expansion of its program passes this limit, and none before it.
abbrev pub TellsTooLarge : Call → Type 0
TellsTooLarge c = (reason : SizeFault) → c.ending ≡ TooLarge reason → ForWords c.words (λ set. OfInput c (λ input. IsFaultOfCheck set input (fault.Sketch (sketch.TooLarge reason))))

-- The source gives more bytes than an input may have, or the sketch of the input has more than a sketch may have.
abbrev pub TellsTooLong : Call → Type 0
TellsTooLong c = c.ending ≡ TooLong → OfInput c IsTooLong

-- Such an input ends so.
abbrev pub LongEnds : Call → Type 0
LongEnds c = (set : Set) → IsWords c.words set → OfInput c (λ input. IsTooLong input → Ends (λ e. e ≡ TooLong) (SourceFailed c) ⊥ c.ending)

-- the input is refused for this cause
abbrev pub IsOfRefused : CheckFault → Ending → Type 0
IsOfRefused told (NotText other) = IsToldAs told (fault.Sketch (sketch.NotText other))
IsOfRefused told (NotTyped other) = IsToldAs told (fault.Sketch (sketch.NotTyped other))
IsOfRefused told (TooLarge other) = IsToldAs told (fault.Sketch (sketch.TooLarge other))
IsOfRefused told TooLong = IsToldAs told fault.TooLong
IsOfRefused told _ = ⊥

-- An input whose sketch is not taken ends with the cause.
abbrev pub RefusedEnds : Call → Type 0
RefusedEnds c = (set : Set) → IsWords c.words set → OfShortInput c (λ input. (told : CheckFault) → IsCause set input told → Ends (IsOfRefused told) (SourceFailed c) ⊥ c.ending)

-- The streams

-- The source failed.
abbrev pub TellsReadFault : Call → Type 0
TellsReadFault c = c.ending ≡ ReadFault → SourceFailed c

-- The sink failed.
abbrev pub TellsWriteFault : Call → Type 0
TellsWriteFault c = c.ending ≡ WriteFault → SinkFailed c

-- a line that is written of an input, with these options
pub record IsLineOf (set : Set) (input out : List ℕ) : Type 0 where
  pub said : Checked
  pub verdict : IsVerdict said
  pub checked : IsChecked set input said
  pub is : out ≡ line_of said

-- After a write fault the sink holds a prefix of that line behind what it held.
abbrev pub CutsLine : Call → Type 0
CutsLine c = c.ending ≡ WriteFault → ForWords c.words (λ set. OfInput c (λ input. WritesPart (IsLineOf set input) c.effect.held_old c.effect.held_new))

-- After any other status from 10 on it holds what it held.
abbrev pub KeepsSink : Call → Type 0
KeepsSink c = IsTrue (writes_nothing c.ending) → c.effect.held_new ≡ c.effect.held_old

-- At most one byte past the limit is read.
abbrev pub ReadsFew : Call → Type 0
ReadsFew c = TakesFew most_input c.effect.left_old c.effect.left_new

-- Nothing is read where the words are no line.
abbrev pub LeavesSource : Call → Type 0
LeavesSource c = IsNoWords c.words → c.effect.left_new ≡ c.effect.left_old
