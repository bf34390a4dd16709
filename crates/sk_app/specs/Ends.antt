-- What the sink holds after an ending, and which endings there are for a text.
use Rattle.std.specs.Prelude.{ℕ, ◌≡◌, ◌<◌, ◌≤◌, length, Bool, true, false, List, Option}
use Rattle.sk_base.specs.Stream.{Rose}
use Rattle.sk_base.specs.declared.bounds.Budget.{Budget}
use Rattle.sk_model.specs.declared.outcome.Outcome.{Outcome}
use Rattle.sk_model.specs.declared.outcome.Outcome.TheVariants as outcome
use Rattle.sk_app.specs.declared.ending.Ending.{Ending}
use Rattle.sk_app.specs.declared.ending.Ending.TheVariants.{Completed, NoCompletion, SpentRounds, SpentConflicts, HelpShown, VersionShown, ExecDone, ExecFailed, ExecSkipped, Lowered, Pruned, Listed, Explained, Met, Accepted, Rejected, NotText, NotTyped, TooLarge, NotRun, NotFilled, ReadFault, WriteFault, TooLong, Memory}
use Rattle.sk_front.specs.declared.fault.TextFault.{TextFault}
use Rattle.sk_front.specs.Texts.{most_bytes, IsTextFault, IsSameFault}
use Rattle.sk_front.specs.declared.fault.SketchFault.{SketchFault}
use Rattle.sk_front.specs.declared.fault.SketchFault.TheVariants as sketch
use Rattle.sk_front.specs.Front.{IsUntyped, IsTooLarge, IsToldAs}
use Rattle.sk_opts.specs.declared.line.Set.{Set}
use Rattle.sk_trace_text.specs.declared.fault.TraceFault.{TraceFault}
use Rattle.sk_trace_text.specs.declared.fault.TraceFault.TheVariants as fault
use Rattle.sk_check_text.specs.declared.fault.CheckFault.{CheckFault}
use Rattle.sk_check_text.specs.declared.fault.CheckFault.TheVariants as check
use Rattle.sk_check_text.specs.Checking as checking
use Rattle.sk_check_laws.specs.Rejected.{part_number}
use Rattle.sk_all_text.specs.Built.{IsTaken}
use Rattle.sk_app_reading.specs.Streams.{Appends, AppendsPrefix}

-- a text of this kind was appended to what the sink held
pub record Writes (P : List ℕ → Type 0) (old new : Option (List ℕ)) : Type 0 where
  pub out : List ℕ
  pub is : P out
  pub appends : Appends out old new

-- a prefix of a text of this kind was appended to what the sink held
pub record WritesPart (P : List ℕ → Type 0) (old new : Option (List ℕ)) : Type 0 where
  pub out : List ℕ
  pub is : P out
  pub appends : AppendsPrefix out old new

-- whether an ending writes nothing: those with a status from 10 on, but for a write fault
abbrev pub writes_nothing : Ending → Bool
writes_nothing Completed = false
writes_nothing (NoCompletion pairs) = false
writes_nothing (SpentRounds pairs best) = false
writes_nothing (SpentConflicts pairs q f log best) = false
writes_nothing HelpShown = false
writes_nothing VersionShown = false
writes_nothing ExecDone = false
writes_nothing (ExecFailed span) = false
writes_nothing (ExecSkipped span) = false
writes_nothing Lowered = false
writes_nothing Pruned = false
writes_nothing Listed = false
writes_nothing Explained = false
writes_nothing Met = false
writes_nothing Accepted = false
writes_nothing (Rejected why) = false
writes_nothing WriteFault = false
writes_nothing _ = true

-- a text was written whole
pub record IsWritten (out : List ℕ) (faults_old faults_new : ℕ) (old new : Option (List ℕ)) : Type 0 where
  pub appends : Appends out old new

-- the sink failed, after a prefix of the text
pub record IsCut (out : List ℕ) (faults_old faults_new : ℕ) (old new : Option (List ℕ)) : Type 0 where
  pub rose : Rose faults_old faults_new
  pub appends : AppendsPrefix out old new

-- how the writing of a text ends: as wanted, cut off, or without room
pub data IsDelivered (result done : Ending) (out : List ℕ) (faults_old faults_new : ℕ) (old new : Option (List ℕ)) : Type 0 where
  delivered : result ≡ done → IsWritten out faults_old faults_new old new → IsDelivered result done out faults_old faults_new old new
  cut : result ≡ WriteFault → IsCut out faults_old faults_new old new → IsDelivered result done out faults_old faults_new old new
  no_room : result ≡ Memory → new ≡ old → IsDelivered result done out faults_old faults_new old new

-- What an ending tells of a text: which cause it has there. Of want of memory it tells nothing, and of a failure only
-- that the source or the sink failed.
abbrev pub IsToldOf : Set → List ℕ → Ending → ℕ → ℕ → ℕ → ℕ → Type 0
IsToldOf set text Completed source_old source_new sink_old sink_new = IsTaken set text
IsToldOf set text (NoCompletion pairs) source_old source_new sink_old sink_new = IsTaken set text
IsToldOf set text (SpentRounds pairs best) source_old source_new sink_old sink_new = IsTaken set text
IsToldOf set text (SpentConflicts pairs q f log best) source_old source_new sink_old sink_new = IsTaken set text
IsToldOf set text Listed source_old source_new sink_old sink_new = IsTaken set text
IsToldOf set text Explained source_old source_new sink_old sink_new = IsTaken set text
IsToldOf set text Met source_old source_new sink_old sink_new = IsTaken set text
IsToldOf set text (NotText fault) source_old source_new sink_old sink_new = (length text ≤ most_bytes) × IsTextFault fault text
IsToldOf set text (NotTyped fault) source_old source_new sink_old sink_new = (length text ≤ most_bytes) × IsUntyped set text
IsToldOf set text (TooLarge reason) source_old source_new sink_old sink_new = IsTooLarge set text reason
IsToldOf set text TooLong source_old source_new sink_old sink_new = most_bytes < length text
IsToldOf set text ReadFault source_old source_new sink_old sink_new = Rose source_old source_new
IsToldOf set text WriteFault source_old source_new sink_old sink_new = Rose sink_old sink_new × IsTaken set text
IsToldOf set text Memory source_old source_new sink_old sink_new = Unit {0}
IsToldOf set text _ source_old source_new sink_old sink_new = ⊥

-- The call ends so; or the source failed as this says, or the sink as that, or memory was wanting.
abbrev pub Ends : (Ending → Type 0) → (source sink : Type 0) → Ending → Type 0
Ends So source sink Memory = Unit {0}
Ends So source sink ReadFault = source
Ends So source sink WriteFault = sink
Ends So source sink ending = So ending

-- For a text that is taken: it is completed, or has no completion, or a budget that is not 0 is spent.
abbrev pub IsOfBuilt : Budget → Ending → Type 0
IsOfBuilt budget Completed = Unit {0}
IsOfBuilt budget (NoCompletion pairs) = Unit {0}
IsOfBuilt budget (SpentRounds pairs best) = 0 < budget.rounds
IsOfBuilt budget (SpentConflicts pairs q f log best) = 0 < budget.conflicts
IsOfBuilt budget _ = ⊥

-- For a text with this fault: it is refused for it.
abbrev pub IsOfFault : TextFault → Ending → Type 0
IsOfFault fault (NotText told) = IsSameFault fault told
IsOfFault fault _ = ⊥

-- For a text whose tree means no program: it is refused as such.
abbrev pub IsOfUntyped : Ending → Type 0
IsOfUntyped (NotTyped fault) = Unit {0}
IsOfUntyped _ = ⊥

-- the ending of a line that runs a function, whose run ends so
abbrev pub ending_of : Outcome → Ending
ending_of (outcome.Done result refs cost) = ExecDone
ending_of (outcome.Failed span) = ExecFailed span
ending_of (outcome.Skipped span) = ExecSkipped span

-- the ending of a line that runs no function for this reason
abbrev pub stopped : TraceFault → Ending
stopped (fault.NotRun reason) = NotRun reason
stopped (fault.NotFilled reason) = NotFilled reason

-- For a text that has no tokens, or whose plain form means no program: it is refused for this cause.
abbrev pub IsOfRefused : SketchFault → Ending → Type 0
IsOfRefused told (NotText fault) = IsToldAs told (sketch.NotText fault)
IsOfRefused told (NotTyped fault) = IsToldAs told (sketch.NotTyped fault)
IsOfRefused told _ = ⊥

-- For an input of a line `check` whose sketch is not taken: it is refused for this cause.
abbrev pub IsOfRefusedInput : CheckFault → Ending → Type 0
IsOfRefusedInput told (NotText fault) = checking.IsToldAs told (check.Sketch (sketch.NotText fault))
IsOfRefusedInput told (NotTyped fault) = checking.IsToldAs told (check.Sketch (sketch.NotTyped fault))
IsOfRefusedInput told (TooLarge reason) = checking.IsToldAs told (check.Sketch (sketch.TooLarge reason))
IsOfRefusedInput told TooLong = checking.IsToldAs told check.TooLong
IsOfRefusedInput told _ = ⊥

-- For one with a certificate: it is accepted or rejected.
abbrev pub IsOfVerdict : Ending → Type 0
IsOfVerdict Accepted = Unit {0}
IsOfVerdict (Rejected why) = Unit {0}
IsOfVerdict _ = ⊥

-- For one with a certificate of which each part holds: it is accepted, or rejected for its formulas alone.
abbrev pub IsOfAccepted : Ending → Type 0
IsOfAccepted Accepted = Unit {0}
IsOfAccepted (Rejected why) = 6 ≤ part_number why
IsOfAccepted _ = ⊥
