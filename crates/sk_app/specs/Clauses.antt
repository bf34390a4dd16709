-- The clauses of `run`, in pairs: an ending comes only where it has its cause; and where there is the cause, it comes, or the
-- source or the sink failed as `Ends` says, or memory was wanting.
use Rattle.std.specs.Prelude.{ℕ, ◌≡◌, ◌≤◌, ◌<◌, ◌⊎◌, Bool, List, length, Option, IsTrue}
use Rattle.sk_base.specs.declared.bounds.Bounds.{Bounds}
use Rattle.sk_base.specs.declared.bounds.Budget.{Budget}
use Rattle.sk_base.specs.declared.span.Span.{Span}
use Rattle.sk_clause.specs.declared.lit.Lit.{Lit}
use Rattle.sk_cnf.specs.declared.growing.Encoded.{Encoded}
use Rattle.sk_model.specs.declared.expanded.Choice.{Choice}
use Rattle.sk_model.specs.declared.expanded.Expanded.{Expanded}
use Rattle.sk_model.specs.declared.expanded.Pair.{Pair}
use Rattle.sk_model.specs.declared.outcome.Outcome.{Outcome}
use Rattle.sk_oblig_queries.specs.declared.query.Query.{Query}
use Rattle.sk_loop_laws.specs.Shown.{AreSpent}
use Rattle.sk_opts.specs.declared.line.Set.{Set}
use Rattle.sk_opts.specs.declared.line.Line.TheVariants as line
use Rattle.sk_opts.specs.CommandLine.{IsLine}
use Rattle.sk_front.specs.Texts.{most_bytes, byte_of, HasSpan, IsTextFault}
use Rattle.sk_front.specs.Front.{IsUntyped, IsTooLarge, IsCause}
use Rattle.sk_front.specs.declared.fault.TextFault.{TextFault}
use Rattle.sk_front.specs.declared.fault.SketchFault.{SketchFault}
use Rattle.sk_front.specs.declared.fault.SketchFault.TheVariants as sketch
use Rattle.sk_adt.specs.declared.algebraic.AdtFault.{AdtFault}
use Rattle.sk_adt_text.specs.Kept.{KeepsVariants}
use Rattle.sk_adt_text.specs.PlainTexts.{HasPlainForm, HasNoPlainForm, IsNotTagged, IsLoweredText, IsFaultOfLowering, IsPlacedFault}
use Rattle.sk_types_laws.specs.declared.fault.TypeFault.{TypeFault}
use Rattle.sk_expand_sizes.specs.declared.fault.SizeFault.{SizeFault}
use Rattle.sk_exec.specs.declared.fault.ExecFault.{ExecFault}
use Rattle.sk_exec.specs.declared.fault.ExecFault.TheVariants as exec
use Rattle.sk_prune_text.specs.PrunedTexts.{IsOpenText, IsPrunedText}
use Rattle.sk_prune_text.specs.Kept.{KeepsRuns}
use Rattle.sk_holes.specs.declared.fault.FillFault.{FillFault}
use Rattle.sk_trace_text.specs.declared.fault.TraceFault.{TraceFault}
use Rattle.sk_trace_text.specs.declared.fault.TraceFault.TheVariants as reason
use Rattle.sk_trace_text.specs.Traced.{IsNotTraced}
use Rattle.sk_app.specs.declared.direct.Job.{Job}
use Rattle.sk_app.specs.declared.ending.Ending.TheVariants.{Completed, NoCompletion, SpentRounds, SpentConflicts, HelpShown, VersionShown, ExecDone, ExecFailed, ExecSkipped, Lowered, Pruned, Listed, Explained, Met, Accepted, Rejected, NotALine, NotText, NotTyped, TooLarge, NotRun, NotFilled, NotLowered, NotTagged, NotCertificate, ReadFault, WriteFault, TooLong}
use Rattle.sk_min_laws.specs.Best.{Meeting}
use Rattle.sk_all_text.specs.Built.{IsBuilt}
use Rattle.sk_all_text.specs.AllTexts.{IsListing}
use Rattle.sk_app.specs.ResultText.{IsCompletion, IsNone}
use Rattle.sk_app.specs.Spent.{AreLearnt, IsSpentRounds, IsSpentConflicts}
use Rattle.sk_app_reading.specs.Streams.{Appends, AppendsPrefix, TakesFew}
use Rattle.sk_app.specs.Help.{help_text, version_text}
use Rattle.sk_app_texts.specs.CheckTexts.{accepted_text, rejected_text}
use Rattle.sk_cert.specs.declared.fault.CertFault.{CertFault}
use Rattle.sk_check_laws.specs.declared.reason.Reason.{Reason}
use Rattle.sk_check_laws.specs.Rejected.{part_number}
use Rattle.sk_check_text.specs.declared.fault.CheckFault.{CheckFault}
use Rattle.sk_check_text.specs.declared.fault.CheckFault.TheVariants as check
use Rattle.sk_check_text.specs.Checking.{TakesSketch, IsAccepted, IsRejectedFor, IsSomeCertificate, IsFaultOfCheck}
use Rattle.sk_check_text.specs.Checking as checking
use Rattle.sk_app.specs.Summary.{IsSummary}
use Rattle.sk_app.specs.Checks.{most_input, IsTooLongInput, told_reason}
use Rattle.sk_app.specs.Lines.{IsNoLine, IsSearch, ForSearch, IsJob, ForJob, ForTrace, ForLower, ForPrune, ForAll, ForWhy, TakesText, SizesText, ForText, ReadsText, ForCheck, ReadsSource, ForSelf}
use Rattle.sk_app.specs.Jobs.{IsStopped, IsRunOfJob}
use Rattle.sk_app.specs.Questions.{IsExplained, IsMet}
use Rattle.sk_app.specs.Ends.{WritesPart, writes_nothing, Ends, IsOfBuilt, IsOfFault, IsOfUntyped, IsOfRefused, IsOfRefusedInput, IsOfVerdict, IsOfAccepted, ending_of, stopped}
use Rattle.sk_app.specs.Effects.{is_of_expansion, IsRunResult, IsOutput}
use Rattle.sk_app.specs.Call.{Call, OfText, Gets, SourceFailed, SinkFailed}

-- Words

-- The words are no line.
abbrev pub TellsNoLine : Call → Type 0
TellsNoLine c = c.ending ≡ NotALine → IsNoLine c.words

-- Words that are no line end so.
abbrev pub NoLineEnds : Call → Type 0
NoLineEnds c = IsNoLine c.words → Ends (λ e. e ≡ NotALine) ⊥ ⊥ c.ending

-- The line is `--help`, and the sink got the help.
abbrev pub TellsHelp : Call → Type 0
TellsHelp c = c.ending ≡ HelpShown → IsLine c.words line.Help × Appends help_text c.effect.held_old c.effect.held_new

-- A line `--help` ends so.
abbrev pub HelpEnds : Call → Type 0
HelpEnds c = IsLine c.words line.Help → Ends (λ e. e ≡ HelpShown) ⊥ (SinkFailed c) c.ending

-- The line is `--version`, and the sink got the version.
abbrev pub TellsVersion : Call → Type 0
TellsVersion c = c.ending ≡ VersionShown → IsLine c.words line.Version × Appends version_text c.effect.held_old c.effect.held_new

-- A line `--version` ends so.
abbrev pub VersionEnds : Call → Type 0
VersionEnds c = IsLine c.words line.Version → Ends (λ e. e ≡ VersionShown) ⊥ (SinkFailed c) c.ending

-- A line `synth`

-- The sink got the result text of a filling that meets its obligations and costs least, with a certificate where the line asks for one;
-- or, for a line `self`, the summary of such a filling.
abbrev pub TellsCompletion : Call → Type 0
TellsCompletion c = c.ending ≡ Completed → ForSearch c.words (λ set budget cert. OfText c (λ text. Gets c (IsCompletion set budget cert text))) ⊎ ForSelf c.words (λ n. Gets c (IsSummary n))

-- No filling meets them, and none passes even the inputs of the ending's pairs. The sink got a line that says so, with a certificate
-- where the line asks for one.
abbrev pub TellsNone : Call → Type 0
TellsNone c = (pairs : List Pair) → c.ending ≡ NoCompletion pairs → ForSearch c.words (λ set budget cert. OfText c (λ text. Gets c (IsNone set budget cert text pairs)))

-- The line's budget of rounds is spent, which is not 0: the pairs are as many. The sink got them, and a choice whose filling
-- meets its obligations, where one is known.
abbrev pub TellsRounds : Call → Type 0
TellsRounds c = (pairs : List Pair) (best : Option Choice) → c.ending ≡ SpentRounds pairs best → ForSearch c.words (λ set budget cert. AreSpent budget.rounds pairs × OfText c (λ text. Gets c (IsSpentRounds set budget text pairs best)))

-- The line's budget of conflicts is spent, which is not 0: as many clauses were learnt from the formula of the query.
abbrev pub TellsConflicts : Call → Type 0
TellsConflicts c = (pairs : List Pair) (q : Query) (formula : Encoded) (log : List (List Lit)) (best : Option Choice) → c.ending ≡ SpentConflicts pairs q formula log best → ForSearch c.words (λ set budget cert. AreLearnt budget.conflicts log × OfText c (λ text. Gets c (IsSpentConflicts set budget cert text pairs q formula log best)))

-- A text that is taken ends in one of these ways.
abbrev pub BuiltEnds : Call → Type 0
BuiltEnds c = (set : Set) (budget : Budget) (cert : Bool) → IsSearch c.words set budget cert → OfText c (λ text. (bounds : Bounds) (e : Expanded) → IsBuilt set text bounds e → Ends (IsOfBuilt budget) (SourceFailed c) (SinkFailed c) c.ending)

-- A line `self` ends as completed. Its sketch is taken and has a completion; no text shows otherwise, and one that did would count as
-- want of memory.
abbrev pub SelfEnds : Call → Type 0
SelfEnds c = (n : ℕ) → IsLine c.words (line.Itself n) → Ends (λ e. e ≡ Completed) ⊥ (SinkFailed c) c.ending

-- Texts that are refused

-- The text has this fault: its first as bytes, or what its tokens read as; for a line `lower`, what those of its plain form
-- read as; for a line `check` the sketch of the input has it.
abbrev pub TellsNotText : Call → Type 0
TellsNotText c = (fault : TextFault) → c.ending ≡ NotText fault → ForText c.words (λ set. OfText c (IsTextFault fault)) ⊎ ForLower c.words (λ set. OfText c (λ text. IsFaultOfLowering set text (sketch.NotText fault))) ⊎ ForCheck c.words (λ set. OfText c (λ input. IsFaultOfCheck set input (check.Sketch (sketch.NotText fault))))

-- It is told at a byte of the text, or at its end.
abbrev pub PlacesNotText : Call → Type 0
PlacesNotText c = (fault : TextFault) → c.ending ≡ NotText fault → OfText c (λ text. byte_of fault ≤ length text)

-- A text with this fault ends so.
abbrev pub FaultyEnds : Call → Type 0
FaultyEnds c = (set : Set) → TakesText c.words set → OfText c (λ text. length text ≤ most_bytes → (fault : TextFault) → IsTextFault fault text → Ends (IsOfFault fault) (SourceFailed c) ⊥ c.ending)

-- The tree of the text, or for a line `lower` that of its plain form, or for a line `check` that of the sketch of its input, means no program with the options of the line.
abbrev pub TellsNotTyped : Call → Type 0
TellsNotTyped c = (fault : TypeFault) → c.ending ≡ NotTyped fault → ForText c.words (λ set. OfText c (IsUntyped set)) ⊎ ForLower c.words (λ set. OfText c (λ text. IsFaultOfLowering set text (sketch.NotTyped fault))) ⊎ ForCheck c.words (λ set. OfText c (λ input. IsFaultOfCheck set input (check.Sketch (sketch.NotTyped fault))))

-- That is told at the span of an expression or a statement of the tree, which lies within the text, or at none, as 0 to 0.
abbrev pub PlacesNotTyped : Call → Type 0
PlacesNotTyped c = (fault : TypeFault) → c.ending ≡ NotTyped fault → ForText c.words (λ set. OfText c (λ text. HasSpan text fault.span)) ⊎ ForLower c.words (λ set. OfText c (λ text. IsPlacedFault text (sketch.NotTyped fault))) ⊎ ForCheck c.words (λ set. OfText c (λ input. checking.IsPlacedFault input (check.Sketch (sketch.NotTyped fault))))

-- A text whose tree means no program ends so.
abbrev pub UntypedEnds : Call → Type 0
UntypedEnds c = (set : Set) → TakesText c.words set → OfText c (λ text. length text ≤ most_bytes → IsUntyped set text → Ends IsOfUntyped (SourceFailed c) ⊥ c.ending)

-- The expansion of its program, or for a line `check` of that of the sketch, passes this limit, and none before it. For a line `lower`
-- this does not come.
abbrev pub TellsTooLarge : Call → Type 0
TellsTooLarge c = (reason : SizeFault) → c.ending ≡ TooLarge reason → ForText c.words (λ set. OfText c (λ text. IsTooLarge set text reason)) ⊎ ForCheck c.words (λ set. OfText c (λ input. IsFaultOfCheck set input (check.Sketch (sketch.TooLarge reason))))

-- For a line `synth`, `all` or `why` a text whose expansion passes a limit ends so.
abbrev pub LargeEnds : Call → Type 0
LargeEnds c = (set : Set) → SizesText c.words set → OfText c (λ text. (reason : SizeFault) → IsTooLarge set text reason → Ends (λ e. e ≡ TooLarge reason) (SourceFailed c) ⊥ c.ending)

-- For a line `exec`, `trace` or `prune` too, where it has too many nodes or sites.
abbrev pub CopiesEnds : Call → Type 0
CopiesEnds c = (set : Set) → TakesText c.words set → OfText c (λ text. (reason : SizeFault) → IsTrue (is_of_expansion reason) → IsTooLarge set text reason → Ends (λ e. e ≡ TooLarge reason) (SourceFailed c) ⊥ c.ending)

-- The source gives more bytes than a sketch may have.
abbrev pub TellsTooLong : Call → Type 0
TellsTooLong c = c.ending ≡ TooLong → OfText c (λ text. most_bytes < length text)

-- A text that is too long ends so.
abbrev pub LongEnds : Call → Type 0
LongEnds c = (set : Set) → ReadsText c.words set → OfText c (λ text. most_bytes < length text → Ends (λ e. e ≡ TooLong) (SourceFailed c) ⊥ c.ending)

-- A line `exec` or `trace`

-- The run of the line's function is done; the sink got its text, for `trace` with its steps.
abbrev pub TellsDone : Call → Type 0
TellsDone c = c.ending ≡ ExecDone → ForJob c.words (λ set job. OfText c (λ text. Gets c (IsRunResult set job ExecDone text)))

-- It failed at this span.
abbrev pub TellsFailed : Call → Type 0
TellsFailed c = (span : Span) → c.ending ≡ ExecFailed span → ForJob c.words (λ set job. OfText c (λ text. Gets c (IsRunResult set job (ExecFailed span) text)))

-- It was skipped at this span.
abbrev pub TellsSkipped : Call → Type 0
TellsSkipped c = (span : Span) → c.ending ≡ ExecSkipped span → ForJob c.words (λ set job. OfText c (λ text. Gets c (IsRunResult set job (ExecSkipped span) text)))

-- A text whose function is run ends as the run does.
abbrev pub RunEnds : Call → Type 0
RunEnds c = (set : Set) (job : Job) → IsJob c.words set job → OfText c (λ text. (outcome : Outcome) (out : List ℕ) → IsRunOfJob set job text outcome out → Ends (λ e. e ≡ ending_of outcome) (SourceFailed c) (SinkFailed c) c.ending)

-- No function is run, for this reason; for a line `prune` the expansion of the text has a site.
abbrev pub TellsNotRun : Call → Type 0
TellsNotRun c = (told : ExecFault) → c.ending ≡ NotRun told → ForJob c.words (λ set job. OfText c (λ text. IsStopped set job text (reason.NotRun told))) ⊎ ForPrune c.words (λ set. OfText c (λ text. (told ≡ exec.Unfilled) × IsOpenText set text))

-- The numbers of a line `trace` do not fill the sketch, for this reason.
abbrev pub TellsNotFilled : Call → Type 0
TellsNotFilled c = (told : FillFault) → c.ending ≡ NotFilled told → ForTrace c.words (λ set holes name values. OfText c (λ text. IsNotTraced set holes name values text (reason.NotFilled told)))

-- A text of which no function is run for a reason ends with it.
abbrev pub NotRunEnds : Call → Type 0
NotRunEnds c = (set : Set) (job : Job) → IsJob c.words set job → OfText c (λ text. (told : TraceFault) → IsStopped set job text told → Ends (λ e. e ≡ stopped told) (SourceFailed c) ⊥ c.ending)

-- A line `lower`

-- The sink got the text of the program that the plain form of the text means, which is tagged.
abbrev pub TellsLowered : Call → Type 0
TellsLowered c = c.ending ≡ Lowered → ForLower c.words (λ set. OfText c (λ text. Gets c (IsLoweredText set text)))

-- And it keeps what the algebraic types of the text say: tags are integers, runs never stray from the variants, and the text that
-- the sink got shows its program.
abbrev pub KeepsTypes : Call → Type 0
KeepsTypes c = c.ending ≡ Lowered → ForLower c.words (λ set. OfText c (λ text. Gets c (λ out. HasPlainForm text (KeepsVariants set out))))

-- A text with such a program ends so.
abbrev pub LoweredEnds : Call → Type 0
LoweredEnds c = (set : Set) → IsLine c.words (line.Lower set) → OfText c (λ text. (out : List ℕ) → IsLoweredText set text out → Ends (λ e. e ≡ Lowered) (SourceFailed c) (SinkFailed c) c.ending)

-- The text has no plain form, for this reason.
abbrev pub TellsNotLowered : Call → Type 0
TellsNotLowered c = (told : AdtFault) → c.ending ≡ NotLowered told → ForLower c.words (λ set. OfText c (λ text. HasNoPlainForm text told))

-- A text that has none for a reason ends with it.
abbrev pub NotLoweredEnds : Call → Type 0
NotLoweredEnds c = (set : Set) → IsLine c.words (line.Lower set) → OfText c (λ text. (told : AdtFault) → HasNoPlainForm text told → Ends (λ e. e ≡ NotLowered told) (SourceFailed c) ⊥ c.ending)

-- The program of its plain form is not tagged: this is the first span that breaks a rule.
abbrev pub TellsNotTagged : Call → Type 0
TellsNotTagged c = (span : Span) → c.ending ≡ NotTagged span → ForLower c.words (λ set. OfText c (λ text. IsNotTagged set text span))

-- A text with such a span ends with it.
abbrev pub NotTaggedEnds : Call → Type 0
NotTaggedEnds c = (set : Set) → IsLine c.words (line.Lower set) → OfText c (λ text. (span : Span) → IsNotTagged set text span → Ends (λ e. e ≡ NotTagged span) (SourceFailed c) ⊥ c.ending)

-- A text that has no tokens, or whose plain form reads as no tree or means no program, ends with that fault.
abbrev pub RefusedEnds : Call → Type 0
RefusedEnds c = (set : Set) → IsLine c.words (line.Lower set) → OfText c (λ text. length text ≤ most_bytes → (told : SketchFault) → IsCause (IsFaultOfLowering set text) told → Ends (IsOfRefused told) (SourceFailed c) ⊥ c.ending)

-- A line `prune`

-- The sink got the text of the program that the text means, without what no run can reach.
abbrev pub TellsPruned : Call → Type 0
TellsPruned c = c.ending ≡ Pruned → ForPrune c.words (λ set. OfText c (λ text. Gets c (IsPrunedText set text)))

-- And each function that stays runs on all arguments as before, with result, `ref` values and cost; and the text that the sink got
-- shows the program that is left.
abbrev pub KeepsFunctions : Call → Type 0
KeepsFunctions c = c.ending ≡ Pruned → ForPrune c.words (λ set. OfText c (λ text. Gets c (KeepsRuns set text)))

-- A text with such a program ends so.
abbrev pub PrunedEnds : Call → Type 0
PrunedEnds c = (set : Set) → IsLine c.words (line.Prune set) → OfText c (λ text. (out : List ℕ) → IsPrunedText set text out → Ends (λ e. e ≡ Pruned) (SourceFailed c) (SinkFailed c) c.ending)

-- A text whose expansion has a site is not pruned.
abbrev pub OpenEnds : Call → Type 0
OpenEnds c = (set : Set) → IsLine c.words (line.Prune set) → OfText c (λ text. IsOpenText set text → Ends (λ e. e ≡ NotRun exec.Unfilled) (SourceFailed c) ⊥ c.ending)

-- A line `all` or `why`

-- The sink got a list of completions: all of them, or as many as the line asks for.
abbrev pub TellsListed : Call → Type 0
TellsListed c = c.ending ≡ Listed → ForAll c.words (λ set most. OfText c (λ text. Gets c (IsListing set most text)))

-- For a line `all` a text that is taken ends so.
abbrev pub ListedEnds : Call → Type 0
ListedEnds c = (set : Set) (most : ℕ) → IsLine c.words (line.All set most) → OfText c (λ text. (bounds : Bounds) (e : Expanded) → IsBuilt set text bounds e → Ends (λ x. x ≡ Listed) (SourceFailed c) (SinkFailed c) c.ending)

-- There is no completion. The sink got inputs that explain it: no filling passes them, and one passes all but any one of them.
abbrev pub TellsExplained : Call → Type 0
TellsExplained c = c.ending ≡ Explained → ForWhy c.words (λ set. OfText c (λ text. Gets c (IsExplained set text)))

-- For a line `why` a text that is taken and has no completion ends so.
abbrev pub ExplainedEnds : Call → Type 0
ExplainedEnds c = (set : Set) → IsLine c.words (line.Why set) → OfText c (λ text. (bounds : Bounds) (e : Expanded) → IsBuilt set text bounds e → ((a : Choice) → Meeting e bounds a → ⊥) → Ends (λ x. x ≡ Explained) (SourceFailed c) (SinkFailed c) c.ending)

-- There is a completion, and the sink got one.
abbrev pub TellsMet : Call → Type 0
TellsMet c = c.ending ≡ Met → ForWhy c.words (λ set. OfText c (λ text. Gets c (IsMet set text)))

-- For a line `why` a text that is taken and has a completion ends so.
abbrev pub MetEnds : Call → Type 0
MetEnds c = (set : Set) → IsLine c.words (line.Why set) → OfText c (λ text. (bounds : Bounds) (e : Expanded) → IsBuilt set text bounds e → (a : Choice) → Meeting e bounds a → Ends (λ x. x ≡ Met) (SourceFailed c) (SinkFailed c) c.ending)

-- A line `check`

-- The sketch of the input is taken, and behind it stands a certificate of which each part holds, which is right.
abbrev pub TellsAccepted : Call → Type 0
TellsAccepted c = c.ending ≡ Accepted → ForCheck c.words (λ set. OfText c (λ input. TakesSketch set input IsAccepted × Appends accepted_text c.effect.held_old c.effect.held_new))

-- A sketch that is taken with a certificate behind it ends so, or as rejected.
abbrev pub CheckedEnds : Call → Type 0
CheckedEnds c = (set : Set) → IsLine c.words (line.Check set) → OfText c (λ input. length input ≤ most_input → TakesSketch set input IsSomeCertificate → Ends IsOfVerdict (SourceFailed c) (SinkFailed c) c.ending)

-- With one of which each part holds it is rejected for its formulas alone.
abbrev pub AcceptedEnds : Call → Type 0
AcceptedEnds c = (set : Set) → IsLine c.words (line.Check set) → OfText c (λ input. length input ≤ most_input → TakesSketch set input IsAccepted → Ends IsOfAccepted (SourceFailed c) (SinkFailed c) c.ending)

-- Behind the sketch stands a certificate of which the parts before this one hold, and this one does not.
abbrev pub TellsRejected : Call → Type 0
TellsRejected c = (why : Reason) → c.ending ≡ Rejected why → ForCheck c.words (λ set. OfText c (λ input. TakesSketch set input (IsRejectedFor why) × Appends (rejected_text (told_reason why)) c.effect.held_old c.effect.held_new))

-- A sketch with such a certificate ends so, for each part but the formulas.
abbrev pub RejectedEnds : Call → Type 0
RejectedEnds c = (set : Set) → IsLine c.words (line.Check set) → OfText c (λ input. length input ≤ most_input → (why : Reason) → part_number why < 6 → TakesSketch set input (IsRejectedFor why) → Ends (λ e. e ≡ Rejected why) (SourceFailed c) (SinkFailed c) c.ending)

-- What stands behind the sketch is no certificate: this is the first line that departs from the form of one.
abbrev pub TellsNoForm : Call → Type 0
TellsNoForm c = (told : CertFault) → c.ending ≡ NotCertificate told → ForCheck c.words (λ set. OfText c (λ input. TakesSketch set input (checking.IsNone told)))

-- A sketch with such a text behind it ends so.
abbrev pub NoFormEnds : Call → Type 0
NoFormEnds c = (set : Set) → IsLine c.words (line.Check set) → OfText c (λ input. length input ≤ most_input → (told : CertFault) → TakesSketch set input (checking.IsNone told) → Ends (λ e. e ≡ NotCertificate told) (SourceFailed c) ⊥ c.ending)

-- The source gives more bytes than an input may have, or the sketch of the input has more than a sketch may have.
abbrev pub TellsLongInput : Call → Type 0
TellsLongInput c = (set : Set) → IsLine c.words (line.Check set) → c.ending ≡ TooLong → OfText c IsTooLongInput

-- Such an input ends so.
abbrev pub LongInputEnds : Call → Type 0
LongInputEnds c = (set : Set) → IsLine c.words (line.Check set) → OfText c (λ input. IsTooLongInput input → Ends (λ e. e ≡ TooLong) (SourceFailed c) ⊥ c.ending)

-- An input whose sketch is not taken ends with the cause.
abbrev pub UntakenEnds : Call → Type 0
UntakenEnds c = (set : Set) → IsLine c.words (line.Check set) → OfText c (λ input. length input ≤ most_input → (told : CheckFault) → checking.IsCause set input told → Ends (IsOfRefusedInput told) (SourceFailed c) ⊥ c.ending)

-- The streams

-- The source failed.
abbrev pub TellsReadFault : Call → Type 0
TellsReadFault c = c.ending ≡ ReadFault → SourceFailed c

-- The sink failed.
abbrev pub TellsWriteFault : Call → Type 0
TellsWriteFault c = c.ending ≡ WriteFault → SinkFailed c

-- After a write fault the sink holds a prefix of what the line writes behind what it held.
abbrev pub CutsOutput : Call → Type 0
CutsOutput c = c.ending ≡ WriteFault → OfText c (λ text. WritesPart (IsOutput c.words text) c.effect.held_old c.effect.held_new)

-- For `--help` that is a prefix of the help.
abbrev pub CutsHelp : Call → Type 0
CutsHelp c = IsLine c.words line.Help → c.ending ≡ WriteFault → AppendsPrefix help_text c.effect.held_old c.effect.held_new

-- For a line `self` that is a prefix of a summary.
abbrev pub CutsSummary : Call → Type 0
CutsSummary c = (n : ℕ) → IsLine c.words (line.Itself n) → c.ending ≡ WriteFault → WritesPart (IsSummary n) c.effect.held_old c.effect.held_new

-- For `--version` that is a prefix of the version.
abbrev pub CutsVersion : Call → Type 0
CutsVersion c = IsLine c.words line.Version → c.ending ≡ WriteFault → AppendsPrefix version_text c.effect.held_old c.effect.held_new

-- After any other status from 10 on it holds what it held.
abbrev pub KeepsSink : Call → Type 0
KeepsSink c = IsTrue (writes_nothing c.ending) → c.effect.held_new ≡ c.effect.held_old

-- At most one byte past the limit is read, which is that of an input for a line `check`, and that of a sketch for any other.
abbrev pub ReadsFew : Call → Type 0
ReadsFew c = TakesFew most_input c.effect.left_old c.effect.left_new × (((set : Set) → IsLine c.words (line.Check set) → ⊥) → TakesFew most_bytes c.effect.left_old c.effect.left_new)

-- Nothing is read but for a line that reads its source.
abbrev pub LeavesSource : Call → Type 0
LeavesSource c = ((set : Set) → ReadsSource c.words set → ⊥) → c.effect.left_new ≡ c.effect.left_old
