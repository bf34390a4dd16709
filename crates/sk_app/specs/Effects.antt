-- What a call does for a line: how it ends, and what it does to its source and its sink.
use Rattle.std.specs.Prelude.{ℕ, ◌≡◌, Bool, true, false, IsTrue, List, Option, IfSome}
use Rattle.sk_base.specs.Stream.{Rose}
use Rattle.sk_base.specs.declared.span.Span.{Span}
use Rattle.sk_base.specs.declared.bounds.Budget.{Budget}
use Rattle.sk_clause.specs.declared.lit.Lit.{Lit}
use Rattle.sk_cnf.specs.declared.growing.Encoded.{Encoded}
use Rattle.sk_opts.specs.declared.line.Set.{Set}
use Rattle.sk_opts.specs.declared.line.Line.{Line}
use Rattle.sk_opts.specs.declared.line.Line.TheVariants as line
use Rattle.sk_opts.specs.CommandLine.{IsLine}
use Rattle.sk_model.specs.declared.expanded.Choice.{Choice}
use Rattle.sk_model.specs.declared.expanded.Pair.{Pair}
use Rattle.sk_model.specs.declared.outcome.Outcome.{Outcome}
use Rattle.sk_oblig_queries.specs.declared.query.Query.{Query}
use Rattle.sk_loop_laws.specs.Shown.{AreSpent}
use Rattle.sk_front.specs.declared.fault.SketchFault.{SketchFault}
use Rattle.sk_front.specs.declared.fault.SketchFault.TheVariants as fault
use Rattle.sk_front.specs.Front.{IsFaultOfExpansion, IsFaultOfSizes}
use Rattle.sk_front.specs.Front as front
use Rattle.sk_front.specs.Texts.{most_bytes, HasSpan}
use Rattle.sk_adt.specs.declared.algebraic.AdtFault.{AdtFault}
use Rattle.sk_adt_text.specs.PlainTexts.{HasNoPlainForm, IsNotTagged, IsLoweredText, IsFaultOfLowering, IsPlacedFault}
use Rattle.sk_types_laws.specs.declared.fault.TypeFault.{TypeFault}
use Rattle.sk_exec.specs.declared.fault.ExecFault.TheVariants as exec
use Rattle.sk_prune_text.specs.PrunedTexts.{IsOpenText, IsPrunedText}
use Rattle.sk_expand_sizes.specs.declared.fault.SizeFault.{SizeFault}
use Rattle.sk_expand_sizes.specs.declared.fault.SizeFault.TheVariants as size
use Rattle.sk_trace_text.specs.declared.fault.TraceFault.{TraceFault}
use Rattle.sk_app.specs.declared.direct.Way.TheVariants as way
use Rattle.sk_app.specs.declared.direct.Job.{Job}
use Rattle.sk_app.specs.Jobs.{IsStopped, IsRunOfJob}
use Rattle.sk_app.specs.declared.listing.Question.{Question}
use Rattle.sk_app.specs.declared.listing.Question.TheVariants as question
use Rattle.sk_app.specs.Questions.{Reply, IsReply, IsExplained, IsMet, ending_with}
use Rattle.sk_all_text.specs.AllTexts.{IsListing}
use Rattle.sk_app_texts.specs.CheckTexts.{accepted_text, rejected_text}
use Rattle.sk_cert.specs.declared.fault.CertFault.{CertFault}
use Rattle.sk_check_laws.specs.declared.reason.Reason.{Reason}
use Rattle.sk_check_text.specs.declared.fault.CheckFault.{CheckFault}
use Rattle.sk_check_text.specs.declared.fault.CheckFault.TheVariants as check
use Rattle.sk_check_text.specs.declared.checking.Checked.TheVariants as checked
use Rattle.sk_check_text.specs.Checking.{IsFaultOfCheck, IsChecked}
use Rattle.sk_check_text.specs.Checking as checking
use Rattle.sk_app.specs.Summary.{IsSummary}
use Rattle.sk_app.specs.Checks.{most_input, told_reason, IsVerdictText}
use Rattle.sk_app.specs.declared.ending.Ending.{Ending}
use Rattle.sk_app.specs.declared.ending.Ending.TheVariants.{Completed, NoCompletion, SpentRounds, SpentConflicts, HelpShown, VersionShown, NotALine, NotText, NotTyped, TooLarge, NotRun, NotFilled, ReadFault, WriteFault, TooLong, Memory, ExecDone, ExecFailed, ExecSkipped, Lowered, Pruned, NotLowered, NotTagged, Listed, Explained, Met, Accepted, Rejected, NotCertificate}
use Rattle.sk_app_reading.specs.Streams.{IsWhole, IsLong, TakesFew}
use Rattle.sk_app.specs.ResultText.{IsCompletion, IsNone}
use Rattle.sk_app.specs.Spent.{AreLearnt, IsSpentRounds, IsSpentConflicts}
use Rattle.sk_app.specs.Results.{IsResult}
use Rattle.sk_app.specs.Help.{help_text, version_text}
use Rattle.sk_app.specs.Lines.{IsNoLine, ForSearch, ForJob, ForLower, ForPrune, ForAll, ForWhy, ForCheck, ForSelf}
use Rattle.sk_app.specs.Call.{Effect}
use Rattle.sk_app.specs.Ends.{IsDelivered, Writes, WritesPart, writes_nothing, IsToldOf, ending_of, stopped}

-- nothing was read
pub record ReadsNothing (f : Effect) : Type 0 where
  pub left : f.left_new ≡ f.left_old
  pub faults : f.read_faults_new ≡ f.read_faults_old

-- nothing was read, and nothing written
pub record DoesNothing (f : Effect) : Type 0 where
  pub unread : ReadsNothing f
  pub unwritten : f.held_new ≡ f.held_old

-- the ending is this refusal, and nothing was done
pub record IsRefused (refusal result : Ending) (f : Effect) : Type 0 where
  pub is : result ≡ refusal
  pub nothing : DoesNothing f

-- this text was written, and nothing read; else the sink failed, or memory was wanting
pub record IsShown (text : List ℕ) (shown result : Ending) (f : Effect) : Type 0 where
  pub unread : ReadsNothing f
  pub written : IsDelivered result shown text f.write_faults_old f.write_faults_new f.held_old f.held_new

-- the endings of a line `synth`
abbrev pub is_of_synth : Ending → Bool
is_of_synth NotALine = false
is_of_synth HelpShown = false
is_of_synth VersionShown = false
is_of_synth ExecDone = false
is_of_synth (ExecFailed span) = false
is_of_synth (ExecSkipped span) = false
is_of_synth (NotRun reason) = false
is_of_synth (NotFilled reason) = false
is_of_synth Lowered = false
is_of_synth Pruned = false
is_of_synth (NotLowered reason) = false
is_of_synth (NotTagged span) = false
is_of_synth Listed = false
is_of_synth Explained = false
is_of_synth Met = false
is_of_synth Accepted = false
is_of_synth (Rejected why) = false
is_of_synth (NotCertificate fault) = false
is_of_synth _ = true

-- a fault of types is told at a span of the text
abbrev pub TellsSpan : Ending → Option (List ℕ) → Type 0
TellsSpan result left = (fault : TypeFault) → result ≡ NotTyped fault → IfSome left (λ text. HasSpan text fault.span)

-- a call for a line `synth` with these options and budgets, which asks for a certificate or does not
pub record Synthesises (set : Set) (budget : Budget) (cert : Bool) (result : Ending) (f : Effect) : Type 0 where
  pub ends : IsTrue (is_of_synth result)
  pub completed : result ≡ Completed → IfSome f.left_old (λ text. Writes (IsCompletion set budget cert text) f.held_old f.held_new)
  pub none : (pairs : List Pair) → result ≡ NoCompletion pairs → IfSome f.left_old (λ text. Writes (IsNone set budget cert text pairs) f.held_old f.held_new)
  pub rounds : (pairs : List Pair) (best : Option Choice) → result ≡ SpentRounds pairs best → AreSpent budget.rounds pairs × IfSome f.left_old (λ text. Writes (IsSpentRounds set budget text pairs best) f.held_old f.held_new)
  pub conflicts : (pairs : List Pair) (q : Query) (formula : Encoded) (log : List (List Lit)) (best : Option Choice) → result ≡ SpentConflicts pairs q formula log best → AreLearnt budget.conflicts log × IfSome f.left_old (λ text. Writes (IsSpentConflicts set budget cert text pairs q formula log best) f.held_old f.held_new)
  pub told : IfSome f.left_old (λ text. IsToldOf set text result f.read_faults_old f.read_faults_new f.write_faults_old f.write_faults_new)
  pub place : TellsSpan result f.left_old
  pub read_fault : result ≡ ReadFault → Rose f.read_faults_old f.read_faults_new
  pub write_fault : result ≡ WriteFault → Rose f.write_faults_old f.write_faults_new
  pub prefix : result ≡ WriteFault → IfSome f.left_old (λ text. WritesPart (IsResult set budget cert text) f.held_old f.held_new)
  pub kept : IsTrue (writes_nothing result) → f.held_new ≡ f.held_old
  pub few : TakesFew most_bytes f.left_old f.left_new

-- what is written of a run of this text that ends so
pub record IsRunResult (set : Set) (job : Job) (result : Ending) (text out : List ℕ) : Type 0 where
  pub outcome : Outcome
  pub run : IsRunOfJob set job text outcome out
  pub ends : result ≡ ending_of outcome

-- a text that a line `exec` or `trace` writes
pub record IsRunOutput (set : Set) (job : Job) (text out : List ℕ) : Type 0 where
  pub outcome : Outcome
  pub run : IsRunOfJob set job text outcome out

-- the ending of a text that has no expansion within the limits
abbrev pub refusal : SketchFault → Ending
refusal (fault.NotText told) = NotText told
refusal (fault.NotTyped told) = NotTyped told
refusal (fault.TooLarge reason) = TooLarge reason
refusal fault.Memory = Memory

-- whether this is a size of the expansion, and not of its runs
abbrev pub is_of_expansion : SizeFault → Bool
is_of_expansion size.Copies = true
is_of_expansion size.Sites = true
is_of_expansion _ = false

-- what a line that runs a function does for a text that is not too long
pub data RunsText (set : Set) (job : Job) (text : List ℕ) (result : Ending) (faults_old faults_new : ℕ) (old new : Option (List ℕ)) : Type 0 where
  refused : (told : SketchFault) → IsFaultOfExpansion set text told → result ≡ refusal told → new ≡ old → RunsText set job text result faults_old faults_new old new
  not_run : (reason : TraceFault) → IsStopped set job text reason → result ≡ stopped reason → new ≡ old → RunsText set job text result faults_old faults_new old new
  ran : (outcome : Outcome) (out : List ℕ) → IsRunOfJob set job text outcome out → IsDelivered result (ending_of outcome) out faults_old faults_new old new → RunsText set job text result faults_old faults_new old new

-- The source failed, or gives more bytes than so many, or memory was wanting, and nothing was written; or its text was taken, and
-- this was done for it.
pub data TakesSource (most : ℕ) (Does : List ℕ → Type 0) (result : Ending) (f : Effect) : Type 0 where
  failed : result ≡ ReadFault → Rose f.read_faults_old f.read_faults_new → f.held_new ≡ f.held_old → TakesSource most Does result f
  long : result ≡ TooLong → IsLong most f.left_old → f.held_new ≡ f.held_old → TakesSource most Does result f
  wanting : result ≡ Memory → f.held_new ≡ f.held_old → TakesSource most Does result f
  whole : (text : List ℕ) → IsWhole most text f.left_old → Does text → TakesSource most Does result f

abbrev pub RunsSource : Set → Job → Ending → Effect → Type 0
RunsSource set job result f = TakesSource most_bytes (λ text. RunsText set job text result f.write_faults_old f.write_faults_new f.held_old f.held_new) result f

-- a call for a line `exec` or `trace` with these options, which asks for this job
pub record Executes (set : Set) (job : Job) (result : Ending) (f : Effect) : Type 0 where
  pub runs : RunsSource set job result f
  pub place : TellsSpan result f.left_old
  pub few : TakesFew most_bytes f.left_old f.left_new

-- what a line `lower` does for a text that is not too long
pub data LowersText (set : Set) (text : List ℕ) (result : Ending) (faults_old faults_new : ℕ) (old new : Option (List ℕ)) : Type 0 where
  no_program : (told : SketchFault) → IsFaultOfLowering set text told → IsPlacedFault text told → result ≡ refusal told → new ≡ old → LowersText set text result faults_old faults_new old new
  not_lowered : (reason : AdtFault) → HasNoPlainForm text reason → result ≡ NotLowered reason → new ≡ old → LowersText set text result faults_old faults_new old new
  not_tagged : (span : Span) → IsNotTagged set text span → result ≡ NotTagged span → new ≡ old → LowersText set text result faults_old faults_new old new
  lowered : (out : List ℕ) → IsLoweredText set text out → IsDelivered result Lowered out faults_old faults_new old new → LowersText set text result faults_old faults_new old new

abbrev pub LowersSource : Set → Ending → Effect → Type 0
LowersSource set result f = TakesSource most_bytes (λ text. LowersText set text result f.write_faults_old f.write_faults_new f.held_old f.held_new) result f

-- a call for a line `lower` with these options
pub record Lowers (set : Set) (result : Ending) (f : Effect) : Type 0 where
  pub lowers : LowersSource set result f
  pub few : TakesFew most_bytes f.left_old f.left_new

-- what a line `prune` does for a text that is not too long
pub data PrunesText (set : Set) (text : List ℕ) (result : Ending) (faults_old faults_new : ℕ) (old new : Option (List ℕ)) : Type 0 where
  unexpanded : (told : SketchFault) → IsFaultOfExpansion set text told → front.IsPlacedFault text told → result ≡ refusal told → new ≡ old → PrunesText set text result faults_old faults_new old new
  unfilled : IsOpenText set text → result ≡ NotRun exec.Unfilled → new ≡ old → PrunesText set text result faults_old faults_new old new
  pruned : (out : List ℕ) → IsPrunedText set text out → IsDelivered result Pruned out faults_old faults_new old new → PrunesText set text result faults_old faults_new old new

abbrev pub PrunesSource : Set → Ending → Effect → Type 0
PrunesSource set result f = TakesSource most_bytes (λ text. PrunesText set text result f.write_faults_old f.write_faults_new f.held_old f.held_new) result f

-- a call for a line `prune` with these options
pub record Prunes (set : Set) (result : Ending) (f : Effect) : Type 0 where
  pub prunes : PrunesSource set result f
  pub few : TakesFew most_bytes f.left_old f.left_new

-- what a line `all` or `why` does for a text that is not too long
pub data RepliesTo (set : Set) (q : Question) (text : List ℕ) (result : Ending) (faults_old faults_new : ℕ) (old new : Option (List ℕ)) : Type 0 where
  unanswered : (told : SketchFault) → IsFaultOfSizes set text told → front.IsPlacedFault text told → result ≡ refusal told → new ≡ old → RepliesTo set q text result faults_old faults_new old new
  replied : (reply : Reply) (out : List ℕ) → IsReply set q text reply out → IsDelivered result (ending_with reply) out faults_old faults_new old new → RepliesTo set q text result faults_old faults_new old new

abbrev pub AsksSource : Set → Question → Ending → Effect → Type 0
AsksSource set q result f = TakesSource most_bytes (λ text. RepliesTo set q text result f.write_faults_old f.write_faults_new f.held_old f.held_new) result f

-- a call for a line `all` or `why` with these options, which asks this
pub record Asks (set : Set) (q : Question) (result : Ending) (f : Effect) : Type 0 where
  pub asks : AsksSource set q result f
  pub few : TakesFew most_bytes f.left_old f.left_new

-- how a line `check` ends for an input of which nothing is said but that it is refused
abbrev pub refused_input : CheckFault → Ending
refused_input check.TooLong = TooLong
refused_input (check.Sketch told) = refusal told

-- this was written of a certificate that is rejected, or memory was wanting and nothing was
pub data IsRejectedText (reason : Reason) (result : Ending) (faults_old faults_new : ℕ) (old new : Option (List ℕ)) : Type 0 where
  rejection_told : IsDelivered result (Rejected reason) (rejected_text (told_reason reason)) faults_old faults_new old new → IsRejectedText reason result faults_old faults_new old new
  rejection_wanting : result ≡ Memory → new ≡ old → IsRejectedText reason result faults_old faults_new old new

-- what a line `check` does for an input that is not too long
pub data ChecksInput (set : Set) (input : List ℕ) (result : Ending) (faults_old faults_new : ℕ) (old new : Option (List ℕ)) : Type 0 where
  unsaid : (told : CheckFault) → IsFaultOfCheck set input told → checking.IsPlacedFault input told → result ≡ refused_input told → new ≡ old → ChecksInput set input result faults_old faults_new old new
  no_certificate : (told : CertFault) → IsChecked set input (checked.NotCertificate told) → result ≡ NotCertificate told → new ≡ old → ChecksInput set input result faults_old faults_new old new
  accepted : IsChecked set input checked.Accepted → IsDelivered result Accepted accepted_text faults_old faults_new old new → ChecksInput set input result faults_old faults_new old new
  rejected : (reason : Reason) → IsChecked set input (checked.Rejected reason) → IsRejectedText reason result faults_old faults_new old new → ChecksInput set input result faults_old faults_new old new

abbrev pub ChecksSource : Set → Ending → Effect → Type 0
ChecksSource set result f = TakesSource most_input (λ input. ChecksInput set input result f.write_faults_old f.write_faults_new f.held_old f.held_new) result f

-- a call for a line `check` with these options
pub record Checks (set : Set) (result : Ending) (f : Effect) : Type 0 where
  pub checks : ChecksSource set result f
  pub few : TakesFew most_input f.left_old f.left_new

-- what is written of the sketch that a line `self` makes: a summary; or memory was wanting, and nothing was
pub data IsSummarised (n : ℕ) (result : Ending) (faults_old faults_new : ℕ) (old new : Option (List ℕ)) : Type 0 where
  summarised : (out : List ℕ) → IsSummary n out → IsDelivered result Completed out faults_old faults_new old new → IsSummarised n result faults_old faults_new old new
  unsummarised : result ≡ Memory → new ≡ old → IsSummarised n result faults_old faults_new old new

-- a call for a line `self` with this number, which reads nothing
pub record Summarises (n : ℕ) (result : Ending) (f : Effect) : Type 0 where
  pub unread : ReadsNothing f
  pub written : IsSummarised n result f.write_faults_old f.write_faults_new f.held_old f.held_new

-- what a call does for a line
abbrev pub Serves : Line → Ending → Effect → Type 0
Serves (line.Synth set budget cert) result f = Synthesises set budget cert result f
Serves (line.Exec set name values) result f = Executes set (record { name = name; values = values; way = way.Exec }) result f
Serves (line.Trace set name values holes) result f = Executes set (record { name = name; values = values; way = way.Trace holes }) result f
Serves (line.Lower set) result f = Lowers set result f
Serves (line.Prune set) result f = Prunes set result f
Serves (line.All set most) result f = Asks set (question.Which most) result f
Serves (line.Why set) result f = Asks set question.Why result f
Serves (line.Check set) result f = Checks set result f
Serves (line.Itself n) result f = Summarises n result f
Serves line.Help result f = IsShown help_text HelpShown result f
Serves line.Version result f = IsShown version_text VersionShown result f

-- What a call does for words: they spell no line, or this one, or memory was wanting before that was known.
pub data Answers (words : List (List ℕ)) (result : Ending) (f : Effect) : Type 0 where
  no_line : IsNoLine words → IsRefused NotALine result f → Answers words result f
  served : (l : Line) → IsLine words l → Serves l result f → Answers words result f
  no_memory : IsRefused Memory result f → Answers words result f

-- a text that a line writes for this text of its source
pub data IsOutput (words : List (List ℕ)) (text out : List ℕ) : Type 0 where
  result : ForSearch words (λ set budget cert. IsResult set budget cert text out) → IsOutput words text out
  run : ForJob words (λ set job. IsRunOutput set job text out) → IsOutput words text out
  plain : ForLower words (λ set. IsLoweredText set text out) → IsOutput words text out
  left : ForPrune words (λ set. IsPrunedText set text out) → IsOutput words text out
  listing : ForAll words (λ set most. IsListing set most text out) → IsOutput words text out
  reasons : ForWhy words (λ set. IsExplained set text out) → IsOutput words text out
  meeting : ForWhy words (λ set. IsMet set text out) → IsOutput words text out
  verdict : ForCheck words (λ set. IsVerdictText set text out) → IsOutput words text out
  summary : ForSelf words (λ n. IsSummary n out) → IsOutput words text out
  help : IsLine words line.Help → out ≡ help_text → IsOutput words text out
  version : IsLine words line.Version → out ≡ version_text → IsOutput words text out
