-- What the clauses of `run` say, from what a call does for the words and the line that they spell.
use Rattle.std.proofs.Common.{◌≡◌, ℕ, ◌≤◌, ◌<◌, ◌⊎◌, inl, inr, Bool, true, false, List, [], Option, length, refl, sym, ap, subst, ◌∙◌, arith}
use Rattle.std.specs.Prelude.{IsTrue, IfSome}
use Rattle.std.proofs.lemmas.Bool.{false≢true}
use Rattle.sk_base.specs.Stream.{Rose}
use Rattle.sk_base.specs.declared.bounds.Bounds.{Bounds}
use Rattle.sk_base.specs.declared.bounds.Budget.{Budget}
use Rattle.sk_base.specs.declared.span.Span.{Span}
use Rattle.sk_model.specs.declared.expanded.Expanded.{Expanded}
use Rattle.sk_clause.specs.declared.lit.Lit.{Lit}
use Rattle.sk_cnf.specs.declared.growing.Encoded.{Encoded}
use Rattle.sk_oblig_queries.specs.declared.query.Query.{Query}
use Rattle.sk_loop_laws.specs.Shown.{AreSpent}
use Rattle.sk_model.specs.declared.expanded.Choice.{Choice}
use Rattle.sk_model.specs.declared.expanded.Pair.{Pair}
use Rattle.sk_model.specs.declared.outcome.Outcome.{Outcome}
use Rattle.sk_exec.specs.declared.fault.ExecFault.{ExecFault}
use Rattle.sk_holes.specs.declared.fault.FillFault.{FillFault}
use Rattle.sk_trace_text.specs.declared.fault.TraceFault.{TraceFault}
use Rattle.sk_trace_text.specs.declared.fault.TraceFault.TheVariants as reason
use Rattle.sk_trace_text.specs.Traced.{IsNotTraced}
use Rattle.sk_app.specs.declared.direct.Way.{Way}
use Rattle.sk_app.specs.declared.direct.Way.TheVariants as way
use Rattle.sk_app.specs.declared.direct.Job.{Job}
use Rattle.sk_app.specs.Jobs.{IsStopped, IsRunOfJob}
use Rattle.sk_app.specs.declared.listing.Question.{Question}
use Rattle.sk_app.specs.declared.listing.Question.TheVariants as question
use Rattle.sk_app.specs.Questions.{Reply, OfList, OfReasons, OfCompletion, IsReply, IsExplained, IsMet, ending_with}
use Rattle.sk_all_text.specs.AllTexts.{IsListing}
use Rattle.sk_min_laws.specs.Best.{Meeting}
use Rattle.sk_app.proofs.JobLaws.{not_of_job, one_job, not_asking, one_question, job_or_question}
use Rattle.sk_opts.specs.declared.line.Set.{Set}
use Rattle.sk_opts.specs.declared.line.Line.{Line}
use Rattle.sk_opts.specs.declared.line.Line.TheVariants as line
use Rattle.sk_opts.specs.CommandLine.{IsLine}
use Rattle.sk_opts.proofs.LineLaws.{lines_are_one}
use Rattle.sk_app_texts.specs.CheckTexts.{accepted_text, rejected_text}
use Rattle.sk_cert.specs.declared.fault.CertFault.{CertFault}
use Rattle.sk_check_laws.specs.declared.reason.Reason.{Reason}
use Rattle.sk_check_laws.specs.Rejected.{part_number}
use Rattle.sk_check_text.specs.declared.fault.CheckFault.{CheckFault}
use Rattle.sk_check_text.specs.declared.fault.CheckFault.TheVariants as check
use Rattle.sk_check_text.specs.Checking.{TakesSketch, IsAccepted, IsRejectedFor, IsSomeCertificate, IsFaultOfCheck}
use Rattle.sk_check_text.specs.Checking as checking
use Rattle.sk_app.specs.Summary.{IsSummary}
use Rattle.sk_app.specs.Checks.{most_input, IsTooLongInput, told_reason}
use Rattle.sk_app.specs.declared.ending.Ending.{Ending}
use Rattle.sk_app.specs.declared.ending.Ending.TheVariants as ending
use Rattle.sk_types_laws.specs.declared.fault.TypeFault.{TypeFault}
use Rattle.sk_expand_sizes.specs.declared.fault.SizeFault.{SizeFault}
use Rattle.sk_front.specs.declared.fault.TextFault.{TextFault}
use Rattle.sk_front.specs.declared.fault.SketchFault.{SketchFault}
use Rattle.sk_front.specs.declared.fault.SketchFault.TheVariants as sketch
use Rattle.sk_front.specs.Front.{IsUntyped, IsTooLarge, IsCause}
use Rattle.sk_adt.specs.declared.algebraic.AdtFault.{AdtFault}
use Rattle.sk_adt_text.specs.PlainTexts.{HasNoPlainForm, IsNotTagged, IsLoweredText, IsFaultOfLowering, IsPlacedFault}
use Rattle.sk_front.specs.Texts.{most_bytes, byte_of, HasSpan, IsTextFault}
use Rattle.sk_front.proofs.TextLaws.{byte_within}
use Rattle.sk_app_reading.specs.Streams.{Appends, AppendsPrefix, TakesFew}
use Rattle.sk_all_text.specs.Built.{IsBuilt}
use Rattle.sk_app.specs.ResultText.{IsCompletion, IsNone}
use Rattle.sk_app.specs.Spent.{AreLearnt, IsSpentRounds, IsSpentConflicts}
use Rattle.sk_app.specs.Results.{IsResult}
use Rattle.sk_app.specs.Help.{help_text, version_text}
use Rattle.sk_app.specs.Lines.{IsNoLine, IsSearch, ForSearch, IsSynth, line_by, line_of, IsJob, ForJob, ForTrace, ForLower, ForPrune, ForAll, ForWhy, line_asking, TakesText, takes_synth, takes_job, takes_prune, takes_all, takes_why, SizesText, sizes_synth, sizes_all, sizes_why, ForText, ReadsText, ForCheck, ReadsSource, ForSelf}
use Rattle.sk_app.specs.Ends.{delivered, cut, no_room, Writes, WritesPart, writes_nothing, IsToldOf}
use Rattle.sk_app.proofs.Endings.{EndsBuilt, EndsFaulty, EndsUntyped, EndsLarge, EndsLong, EndsRun, EndsStopped, EndsLowered, EndsPruned, EndsOpen, EndsNotLowered, EndsNotTagged, EndsRefused, EndsListed, EndsExplained, EndsMet, EndsReply, EndsChecked, EndsAccepted, EndsRejected, EndsNotCertificate, EndsRefusedInput, EndsNoLine, EndsSelf, EndsHelp, EndsVersion}
use Rattle.sk_app.specs.Call.{Effect}
use Rattle.sk_app.specs.Effects.{IsRefused, IsShown, is_of_synth, Synthesises, is_of_expansion, IsRunResult, IsRunOutput, Executes, Lowers, Prunes, Asks, Checks, Summarises, summarised, unsummarised, Serves, Answers, no_line, served, no_memory, IsOutput}
use Rattle.sk_app.specs.Effects as output
use Rattle.sk_app.proofs.StreamLemmas.{front-nil}
use Rattle.sk_app.proofs.SourceLaws.{every, mapped, came_wanting}
use Rattle.sk_app.proofs.ToldLaws as by
use Rattle.sk_app.proofs.ExecLaws as by_exec
use Rattle.sk_app.proofs.LowerLaws as by_lower
use Rattle.sk_app.proofs.PruneLaws as by_prune
use Rattle.sk_exec.specs.declared.fault.ExecFault.TheVariants as exec
use Rattle.sk_prune_text.specs.PrunedTexts.{IsOpenText, IsPrunedText}
use Rattle.sk_app.proofs.QuestionLaws as by_asking
use Rattle.sk_app.proofs.CheckLaws as by_check

nothing_taken : (most : ℕ) (old new : Option (List ℕ)) → new ≡ old → TakesFew most old new
nothing_taken most old new e = record { taken = []; few = omega arith; split = sym e ∙ front-nil new }

-- of an input no more is taken than of a sketch
takes_less : (old new : Option (List ℕ)) → TakesFew most_bytes old new → TakesFew most_input old new
takes_less old new t = record { taken = t.taken; few = (let few = t.few in omega (arith, few)); split = t.split }

-- whether this is the ending of lines that run a function alone
abbrev is_exec_alone : Ending → Bool
is_exec_alone ending.ExecDone = true
is_exec_alone (ending.ExecFailed span) = true
is_exec_alone (ending.ExecSkipped span) = true
is_exec_alone (ending.NotFilled reason) = true
is_exec_alone _ = false

-- whether this is the ending of a line `lower` alone
abbrev is_lower_alone : Ending → Bool
is_lower_alone ending.Lowered = true
is_lower_alone (ending.NotLowered reason) = true
is_lower_alone (ending.NotTagged span) = true
is_lower_alone _ = false

-- whether this is an ending of lines that read their source alone
abbrev is_of_text : Ending → Bool
is_of_text (ending.NotText fault) = true
is_of_text (ending.NotTyped fault) = true
is_of_text (ending.TooLarge reason) = true
is_of_text ending.ReadFault = true
is_of_text ending.TooLong = true
is_of_text _ = false

-- whether this is the ending of a line `synth` alone
abbrev is_synth_alone : Ending → Bool
is_synth_alone ending.Completed = true
is_synth_alone (ending.NoCompletion pairs) = true
is_synth_alone (ending.SpentRounds pairs best) = true
is_synth_alone (ending.SpentConflicts pairs q f log best) = true
is_synth_alone _ = false

-- the words are a line that asks this about completions, and this holds of it
record ForQuestion (words : List (List ℕ)) (Holds : Set → Question → Type 0) : Type 0 where
  pub set : Set
  pub asked : Question
  pub is : IsLine words (line_asking set asked)
  pub holds : Holds set asked

module _ (words : List (List ℕ)) (r : Ending) (f : Effect) where
  -- What a call does, by the kind of its line

  data Kind : Type 0 where
    of_none : IsNoLine words → IsRefused ending.NotALine r f → Kind
    of_self : (n : ℕ) → IsLine words (line.Itself n) → Summarises n r f → Kind
    of_synth : (set : Set) (budget : Budget) (cert : Bool) → IsSearch words set budget cert → Synthesises set budget cert r f → Kind
    of_exec : (set : Set) (job : Job) → IsJob words set job → Executes set job r f → Kind
    of_lower : (set : Set) → IsLine words (line.Lower set) → Lowers set r f → Kind
    of_prune : (set : Set) → IsLine words (line.Prune set) → Prunes set r f → Kind
    of_question : (set : Set) (asked : Question) → IsLine words (line_asking set asked) → Asks set asked r f → Kind
    of_check : (set : Set) → IsLine words (line.Check set) → Checks set r f → Kind
    of_help : IsLine words line.Help → IsShown help_text ending.HelpShown r f → Kind
    of_version : IsLine words line.Version → IsShown version_text ending.VersionShown r f → Kind
    of_memory : IsRefused ending.Memory r f → Kind

  line_kind : (l : Line) → IsLine words l → Serves l r f → Kind
  line_kind (line.Synth set budget cert) h s = of_synth set budget cert h s
  line_kind (line.Exec set name values) h s = of_exec set (record { name = name; values = values; way = way.Exec }) h s
  line_kind (line.Trace set name values holes) h s = of_exec set (record { name = name; values = values; way = way.Trace holes }) h s
  line_kind (line.Lower set) h s = of_lower set h s
  line_kind (line.Prune set) h s = of_prune set h s
  line_kind (line.All set most) h s = of_question set (question.Which most) h s
  line_kind (line.Why set) h s = of_question set question.Why h s
  line_kind (line.Check set) h s = of_check set h s
  line_kind (line.Itself n) h s = of_self n h s
  line_kind line.Help h s = of_help h s
  line_kind line.Version h s = of_version h s

  kind : Answers words r f → Kind
  kind (no_line n s) = of_none n s
  kind (served l h s) = line_kind l h s
  kind (no_memory s) = of_memory s

  -- Which endings the kinds have

  shown_not : (text : List ℕ) (shown : Ending) → IsShown text shown r f → (x : Ending) → (shown ≡ x → ⊥) → (ending.WriteFault ≡ x → ⊥) → (ending.Memory ≡ x → ⊥) → r ≡ x → ⊥
  shown_not text shown s x a b c e = elim s.written [ delivered is w ↦ a (sym is ∙ e) | cut is w ↦ b (sym is ∙ e) | no_room is same ↦ c (sym is ∙ e) ]

  self_not : (n : ℕ) → Summarises n r f → (x : Ending) → (ending.Completed ≡ x → ⊥) → (ending.WriteFault ≡ x → ⊥) → (ending.Memory ≡ x → ⊥) → r ≡ x → ⊥
  self_not n s x a b c e = elim s.written [
    | summarised out i w ↦ elim w [ delivered is y ↦ a (sym is ∙ e) | cut is y ↦ b (sym is ∙ e) | no_room is same ↦ c (sym is ∙ e) ]
    | unsummarised is same ↦ c (sym is ∙ e)
  ]

  self_written : (n : ℕ) → Summarises n r f → r ≡ ending.Completed → Writes (IsSummary n) f.held_old f.held_new
  self_written n s e = elim s.written [
    | summarised out i w ↦ elim w [ delivered is y ↦ record { out = out; is = i; appends = y.appends } | cut is y ↦ (let q = sym is ∙ e in cc) | no_room is same ↦ (let q = sym is ∙ e in cc) ]
    | unsummarised is same ↦ (let q = sym is ∙ e in cc)
  ]

  self_cut : (n : ℕ) → Summarises n r f → r ≡ ending.WriteFault → WritesPart (IsSummary n) f.held_old f.held_new
  self_cut n s e = elim s.written [
    | summarised out i w ↦ elim w [ delivered is y ↦ (let q = sym is ∙ e in cc) | cut is y ↦ record { out = out; is = i; appends = y.appends } | no_room is same ↦ (let q = sym is ∙ e in cc) ]
    | unsummarised is same ↦ (let q = sym is ∙ e in cc)
  ]

  self_rose : (n : ℕ) → Summarises n r f → r ≡ ending.WriteFault → Rose f.write_faults_old f.write_faults_new
  self_rose n s e = elim s.written [
    | summarised out i w ↦ elim w [ delivered is y ↦ (let q = sym is ∙ e in cc) | cut is y ↦ y.rose | no_room is same ↦ (let q = sym is ∙ e in cc) ]
    | unsummarised is same ↦ (let q = sym is ∙ e in cc)
  ]

  self_kept : (n : ℕ) → Summarises n r f → IsTrue (writes_nothing r) → f.held_new ≡ f.held_old
  self_kept n s k = elim s.written [
    | summarised out i w ↦ elim w [ delivered is y ↦ absurd (false≢true (ap writes_nothing (sym is) ∙ k)) | cut is y ↦ absurd (false≢true (ap writes_nothing (sym is) ∙ k)) | no_room is same ↦ same ]
    | unsummarised is same ↦ same
  ]

  self_ends : (n : ℕ) (P : Ending → Type 0) → Summarises n r f → P ending.Completed → (Rose f.write_faults_old f.write_faults_new → P ending.WriteFault) → P ending.Memory → P r
  self_ends n P s a b c = elim s.written [
    | summarised out i w ↦ elim w [ delivered is y ↦ subst P (sym is) a | cut is y ↦ subst P (sym is) (b y.rose) | no_room is same ↦ subst P (sym is) c ]
    | unsummarised is same ↦ subst P (sym is) c
  ]

  alone_not : (y x : Ending) → is_synth_alone x ≡ true → is_synth_alone y ≡ false → y ≡ x → ⊥
  alone_not y x a b e = false≢true (sym b ∙ ap is_synth_alone e ∙ a)

  exec_alone_not : (y x : Ending) → is_exec_alone x ≡ true → is_exec_alone y ≡ false → y ≡ x → ⊥
  exec_alone_not y x a b e = false≢true (sym b ∙ ap is_exec_alone e ∙ a)

  lower_alone_not : (y x : Ending) → is_lower_alone x ≡ true → is_lower_alone y ≡ false → y ≡ x → ⊥
  lower_alone_not y x a b e = false≢true (sym b ∙ ap is_lower_alone e ∙ a)

  reply_not : (y x : Ending) → by_asking.is_reply x ≡ true → by_asking.is_reply y ≡ false → y ≡ x → ⊥
  reply_not y x a b e = false≢true (sym b ∙ ap by_asking.is_reply e ∙ a)

  text_not : (y x : Ending) → is_of_text x ≡ true → is_of_text y ≡ false → y ≡ x → ⊥
  text_not y x a b e = false≢true (sym b ∙ ap is_of_text e ∙ a)

  synth_alone_not_exec : (x : Ending) → is_synth_alone x ≡ true → by_exec.is_of_exec x ≡ false
  synth_alone_not_exec ending.Completed a = refl
  synth_alone_not_exec (ending.NoCompletion pairs) a = refl
  synth_alone_not_exec (ending.SpentRounds pairs best) a = refl
  synth_alone_not_exec (ending.SpentConflicts pairs q g log best) a = refl
  synth_alone_not_exec ending.HelpShown a = refl
  synth_alone_not_exec ending.Accepted a = refl
  synth_alone_not_exec (ending.Rejected why) a = refl
  synth_alone_not_exec (ending.NotCertificate why) a = refl
  synth_alone_not_exec ending.VersionShown a = refl
  synth_alone_not_exec ending.NotALine a = refl
  synth_alone_not_exec ending.ExecDone a = absurd (false≢true a)
  synth_alone_not_exec (ending.ExecFailed span) a = absurd (false≢true a)
  synth_alone_not_exec (ending.ExecSkipped span) a = absurd (false≢true a)
  synth_alone_not_exec (ending.NotText fault) a = absurd (false≢true a)
  synth_alone_not_exec (ending.NotTyped fault) a = absurd (false≢true a)
  synth_alone_not_exec (ending.TooLarge reason) a = absurd (false≢true a)
  synth_alone_not_exec (ending.NotRun reason) a = absurd (false≢true a)
  synth_alone_not_exec (ending.NotFilled reason) a = absurd (false≢true a)
  synth_alone_not_exec ending.Lowered a = absurd (false≢true a)
  synth_alone_not_exec ending.Pruned a = absurd (false≢true a)
  synth_alone_not_exec ending.Listed a = absurd (false≢true a)
  synth_alone_not_exec ending.Explained a = absurd (false≢true a)
  synth_alone_not_exec ending.Met a = absurd (false≢true a)
  synth_alone_not_exec (ending.NotLowered reason) a = absurd (false≢true a)
  synth_alone_not_exec (ending.NotTagged span) a = absurd (false≢true a)
  synth_alone_not_exec ending.ReadFault a = absurd (false≢true a)
  synth_alone_not_exec ending.WriteFault a = absurd (false≢true a)
  synth_alone_not_exec ending.TooLong a = absurd (false≢true a)
  synth_alone_not_exec ending.Memory a = absurd (false≢true a)

  synth_alone_not_lower : (x : Ending) → is_synth_alone x ≡ true → by_lower.is_of_lower x ≡ false
  synth_alone_not_lower ending.Completed a = refl
  synth_alone_not_lower (ending.NoCompletion pairs) a = refl
  synth_alone_not_lower (ending.SpentRounds pairs best) a = refl
  synth_alone_not_lower (ending.SpentConflicts pairs q g log best) a = refl
  synth_alone_not_lower ending.HelpShown a = absurd (false≢true a)
  synth_alone_not_lower ending.Accepted a = absurd (false≢true a)
  synth_alone_not_lower (ending.Rejected why) a = absurd (false≢true a)
  synth_alone_not_lower (ending.NotCertificate why) a = absurd (false≢true a)
  synth_alone_not_lower ending.VersionShown a = absurd (false≢true a)
  synth_alone_not_lower ending.ExecDone a = absurd (false≢true a)
  synth_alone_not_lower (ending.ExecFailed span) a = absurd (false≢true a)
  synth_alone_not_lower (ending.ExecSkipped span) a = absurd (false≢true a)
  synth_alone_not_lower ending.Lowered a = absurd (false≢true a)
  synth_alone_not_lower ending.Pruned a = absurd (false≢true a)
  synth_alone_not_lower ending.Listed a = absurd (false≢true a)
  synth_alone_not_lower ending.Explained a = absurd (false≢true a)
  synth_alone_not_lower ending.Met a = absurd (false≢true a)
  synth_alone_not_lower ending.NotALine a = absurd (false≢true a)
  synth_alone_not_lower (ending.NotText fault) a = absurd (false≢true a)
  synth_alone_not_lower (ending.NotTyped fault) a = absurd (false≢true a)
  synth_alone_not_lower (ending.TooLarge reason) a = absurd (false≢true a)
  synth_alone_not_lower (ending.NotRun reason) a = absurd (false≢true a)
  synth_alone_not_lower (ending.NotFilled reason) a = absurd (false≢true a)
  synth_alone_not_lower (ending.NotLowered reason) a = absurd (false≢true a)
  synth_alone_not_lower (ending.NotTagged span) a = absurd (false≢true a)
  synth_alone_not_lower ending.ReadFault a = absurd (false≢true a)
  synth_alone_not_lower ending.WriteFault a = absurd (false≢true a)
  synth_alone_not_lower ending.TooLong a = absurd (false≢true a)
  synth_alone_not_lower ending.Memory a = absurd (false≢true a)

  exec_alone_not_lower : (x : Ending) → is_exec_alone x ≡ true → by_lower.is_of_lower x ≡ false
  exec_alone_not_lower ending.ExecDone a = refl
  exec_alone_not_lower (ending.ExecFailed span) a = refl
  exec_alone_not_lower (ending.ExecSkipped span) a = refl
  exec_alone_not_lower (ending.NotRun reason) a = absurd (false≢true a)
  exec_alone_not_lower (ending.NotFilled reason) a = refl
  exec_alone_not_lower ending.Completed a = absurd (false≢true a)
  exec_alone_not_lower (ending.NoCompletion pairs) a = absurd (false≢true a)
  exec_alone_not_lower (ending.SpentRounds pairs best) a = absurd (false≢true a)
  exec_alone_not_lower (ending.SpentConflicts pairs q g log best) a = absurd (false≢true a)
  exec_alone_not_lower ending.HelpShown a = absurd (false≢true a)
  exec_alone_not_lower ending.Accepted a = absurd (false≢true a)
  exec_alone_not_lower (ending.Rejected why) a = absurd (false≢true a)
  exec_alone_not_lower (ending.NotCertificate why) a = absurd (false≢true a)
  exec_alone_not_lower ending.VersionShown a = absurd (false≢true a)
  exec_alone_not_lower ending.Lowered a = absurd (false≢true a)
  exec_alone_not_lower ending.Pruned a = absurd (false≢true a)
  exec_alone_not_lower ending.Listed a = absurd (false≢true a)
  exec_alone_not_lower ending.Explained a = absurd (false≢true a)
  exec_alone_not_lower ending.Met a = absurd (false≢true a)
  exec_alone_not_lower ending.NotALine a = absurd (false≢true a)
  exec_alone_not_lower (ending.NotText fault) a = absurd (false≢true a)
  exec_alone_not_lower (ending.NotTyped fault) a = absurd (false≢true a)
  exec_alone_not_lower (ending.TooLarge reason) a = absurd (false≢true a)
  exec_alone_not_lower (ending.NotLowered reason) a = absurd (false≢true a)
  exec_alone_not_lower (ending.NotTagged span) a = absurd (false≢true a)
  exec_alone_not_lower ending.ReadFault a = absurd (false≢true a)
  exec_alone_not_lower ending.WriteFault a = absurd (false≢true a)
  exec_alone_not_lower ending.TooLong a = absurd (false≢true a)
  exec_alone_not_lower ending.Memory a = absurd (false≢true a)

  synth_alone_not_prune : (x : Ending) → is_synth_alone x ≡ true → by_prune.is_of_prune x ≡ false
  synth_alone_not_prune ending.Completed a = refl
  synth_alone_not_prune (ending.NoCompletion pairs) a = refl
  synth_alone_not_prune (ending.SpentRounds pairs best) a = refl
  synth_alone_not_prune (ending.SpentConflicts pairs q g log best) a = refl
  synth_alone_not_prune ending.HelpShown a = absurd (false≢true a)
  synth_alone_not_prune ending.VersionShown a = absurd (false≢true a)
  synth_alone_not_prune ending.NotALine a = absurd (false≢true a)
  synth_alone_not_prune ending.ExecDone a = absurd (false≢true a)
  synth_alone_not_prune (ending.ExecFailed span) a = absurd (false≢true a)
  synth_alone_not_prune (ending.ExecSkipped span) a = absurd (false≢true a)
  synth_alone_not_prune (ending.NotText fault) a = absurd (false≢true a)
  synth_alone_not_prune (ending.NotTyped fault) a = absurd (false≢true a)
  synth_alone_not_prune (ending.TooLarge reason) a = absurd (false≢true a)
  synth_alone_not_prune (ending.NotRun reason) a = absurd (false≢true a)
  synth_alone_not_prune (ending.NotFilled reason) a = absurd (false≢true a)
  synth_alone_not_prune ending.Lowered a = absurd (false≢true a)
  synth_alone_not_prune ending.Pruned a = absurd (false≢true a)
  synth_alone_not_prune ending.Listed a = absurd (false≢true a)
  synth_alone_not_prune ending.Explained a = absurd (false≢true a)
  synth_alone_not_prune ending.Met a = absurd (false≢true a)
  synth_alone_not_prune (ending.NotLowered reason) a = absurd (false≢true a)
  synth_alone_not_prune (ending.NotTagged span) a = absurd (false≢true a)
  synth_alone_not_prune ending.Accepted a = absurd (false≢true a)
  synth_alone_not_prune (ending.Rejected why) a = absurd (false≢true a)
  synth_alone_not_prune (ending.NotCertificate why) a = absurd (false≢true a)
  synth_alone_not_prune ending.ReadFault a = absurd (false≢true a)
  synth_alone_not_prune ending.WriteFault a = absurd (false≢true a)
  synth_alone_not_prune ending.TooLong a = absurd (false≢true a)
  synth_alone_not_prune ending.Memory a = absurd (false≢true a)

  exec_alone_not_prune : (x : Ending) → is_exec_alone x ≡ true → by_prune.is_of_prune x ≡ false
  exec_alone_not_prune ending.Completed a = absurd (false≢true a)
  exec_alone_not_prune (ending.NoCompletion pairs) a = absurd (false≢true a)
  exec_alone_not_prune (ending.SpentRounds pairs best) a = absurd (false≢true a)
  exec_alone_not_prune (ending.SpentConflicts pairs q g log best) a = absurd (false≢true a)
  exec_alone_not_prune ending.HelpShown a = absurd (false≢true a)
  exec_alone_not_prune ending.VersionShown a = absurd (false≢true a)
  exec_alone_not_prune ending.NotALine a = absurd (false≢true a)
  exec_alone_not_prune ending.ExecDone a = refl
  exec_alone_not_prune (ending.ExecFailed span) a = refl
  exec_alone_not_prune (ending.ExecSkipped span) a = refl
  exec_alone_not_prune (ending.NotText fault) a = absurd (false≢true a)
  exec_alone_not_prune (ending.NotTyped fault) a = absurd (false≢true a)
  exec_alone_not_prune (ending.TooLarge reason) a = absurd (false≢true a)
  exec_alone_not_prune (ending.NotRun reason) a = absurd (false≢true a)
  exec_alone_not_prune (ending.NotFilled reason) a = refl
  exec_alone_not_prune ending.Lowered a = absurd (false≢true a)
  exec_alone_not_prune ending.Pruned a = absurd (false≢true a)
  exec_alone_not_prune ending.Listed a = absurd (false≢true a)
  exec_alone_not_prune ending.Explained a = absurd (false≢true a)
  exec_alone_not_prune ending.Met a = absurd (false≢true a)
  exec_alone_not_prune (ending.NotLowered reason) a = absurd (false≢true a)
  exec_alone_not_prune (ending.NotTagged span) a = absurd (false≢true a)
  exec_alone_not_prune ending.Accepted a = absurd (false≢true a)
  exec_alone_not_prune (ending.Rejected why) a = absurd (false≢true a)
  exec_alone_not_prune (ending.NotCertificate why) a = absurd (false≢true a)
  exec_alone_not_prune ending.ReadFault a = absurd (false≢true a)
  exec_alone_not_prune ending.WriteFault a = absurd (false≢true a)
  exec_alone_not_prune ending.TooLong a = absurd (false≢true a)
  exec_alone_not_prune ending.Memory a = absurd (false≢true a)

  lower_alone_not_prune : (x : Ending) → is_lower_alone x ≡ true → by_prune.is_of_prune x ≡ false
  lower_alone_not_prune ending.Completed a = absurd (false≢true a)
  lower_alone_not_prune (ending.NoCompletion pairs) a = absurd (false≢true a)
  lower_alone_not_prune (ending.SpentRounds pairs best) a = absurd (false≢true a)
  lower_alone_not_prune (ending.SpentConflicts pairs q g log best) a = absurd (false≢true a)
  lower_alone_not_prune ending.HelpShown a = absurd (false≢true a)
  lower_alone_not_prune ending.VersionShown a = absurd (false≢true a)
  lower_alone_not_prune ending.NotALine a = absurd (false≢true a)
  lower_alone_not_prune ending.ExecDone a = absurd (false≢true a)
  lower_alone_not_prune (ending.ExecFailed span) a = absurd (false≢true a)
  lower_alone_not_prune (ending.ExecSkipped span) a = absurd (false≢true a)
  lower_alone_not_prune (ending.NotText fault) a = absurd (false≢true a)
  lower_alone_not_prune (ending.NotTyped fault) a = absurd (false≢true a)
  lower_alone_not_prune (ending.TooLarge reason) a = absurd (false≢true a)
  lower_alone_not_prune (ending.NotRun reason) a = absurd (false≢true a)
  lower_alone_not_prune (ending.NotFilled reason) a = absurd (false≢true a)
  lower_alone_not_prune ending.Lowered a = refl
  lower_alone_not_prune ending.Pruned a = absurd (false≢true a)
  lower_alone_not_prune ending.Listed a = absurd (false≢true a)
  lower_alone_not_prune ending.Explained a = absurd (false≢true a)
  lower_alone_not_prune ending.Met a = absurd (false≢true a)
  lower_alone_not_prune (ending.NotLowered reason) a = refl
  lower_alone_not_prune (ending.NotTagged span) a = refl
  lower_alone_not_prune ending.Accepted a = absurd (false≢true a)
  lower_alone_not_prune (ending.Rejected why) a = absurd (false≢true a)
  lower_alone_not_prune (ending.NotCertificate why) a = absurd (false≢true a)
  lower_alone_not_prune ending.ReadFault a = absurd (false≢true a)
  lower_alone_not_prune ending.WriteFault a = absurd (false≢true a)
  lower_alone_not_prune ending.TooLong a = absurd (false≢true a)
  lower_alone_not_prune ending.Memory a = absurd (false≢true a)

  reply_not_prune : (x : Ending) → by_asking.is_reply x ≡ true → by_prune.is_of_prune x ≡ false
  reply_not_prune ending.Completed a = absurd (false≢true a)
  reply_not_prune (ending.NoCompletion pairs) a = absurd (false≢true a)
  reply_not_prune (ending.SpentRounds pairs best) a = absurd (false≢true a)
  reply_not_prune (ending.SpentConflicts pairs q g log best) a = absurd (false≢true a)
  reply_not_prune ending.HelpShown a = absurd (false≢true a)
  reply_not_prune ending.VersionShown a = absurd (false≢true a)
  reply_not_prune ending.NotALine a = absurd (false≢true a)
  reply_not_prune ending.ExecDone a = absurd (false≢true a)
  reply_not_prune (ending.ExecFailed span) a = absurd (false≢true a)
  reply_not_prune (ending.ExecSkipped span) a = absurd (false≢true a)
  reply_not_prune (ending.NotText fault) a = absurd (false≢true a)
  reply_not_prune (ending.NotTyped fault) a = absurd (false≢true a)
  reply_not_prune (ending.TooLarge reason) a = absurd (false≢true a)
  reply_not_prune (ending.NotRun reason) a = absurd (false≢true a)
  reply_not_prune (ending.NotFilled reason) a = absurd (false≢true a)
  reply_not_prune ending.Lowered a = absurd (false≢true a)
  reply_not_prune ending.Pruned a = absurd (false≢true a)
  reply_not_prune ending.Listed a = refl
  reply_not_prune ending.Explained a = refl
  reply_not_prune ending.Met a = refl
  reply_not_prune (ending.NotLowered reason) a = absurd (false≢true a)
  reply_not_prune (ending.NotTagged span) a = absurd (false≢true a)
  reply_not_prune ending.Accepted a = absurd (false≢true a)
  reply_not_prune (ending.Rejected why) a = absurd (false≢true a)
  reply_not_prune (ending.NotCertificate why) a = absurd (false≢true a)
  reply_not_prune ending.ReadFault a = absurd (false≢true a)
  reply_not_prune ending.WriteFault a = absurd (false≢true a)
  reply_not_prune ending.TooLong a = absurd (false≢true a)
  reply_not_prune ending.Memory a = absurd (false≢true a)

  -- the endings of a line `synth` alone come for no other line
  synth_of : (x : Ending) → is_synth_alone x ≡ true → by_asking.is_of_question x ≡ false → by_check.is_of_check x ≡ false → (ending.Completed ≡ x → ⊥) → Kind → r ≡ x → ForSearch words (λ set budget cert. Synthesises set budget cert r f)
  synth_of x a d o y (of_none n s) e = absurd (alone_not ending.NotALine x a refl (sym s.is ∙ e))
  synth_of x a d o y (of_self n h s) e = absurd (self_not n s x y (alone_not ending.WriteFault x a refl) (alone_not ending.Memory x a refl) e)
  synth_of x a d o y (of_synth set budget cert h s) e = record { set = set; budget = budget; cert = cert; is = h; holds = s }
  synth_of x a d o y (of_exec set job h s) e = by_exec.exec_not set job r f x (synth_alone_not_exec x a) s.runs e
  synth_of x a d o y (of_lower set h s) e = by_lower.lower_not set r f x (synth_alone_not_lower x a) s.lowers e
  synth_of x a d o y (of_prune set h s) e = by_prune.prune_not set r f x (synth_alone_not_prune x a) s.prunes e
  synth_of x a d o y (of_question set asked h s) e = by_asking.question_not set asked r f x d s.asks e
  synth_of x a d o y (of_check set h s) e = by_check.check_not set r f x o s.checks e
  synth_of x a d o y (of_help h s) e = absurd (shown_not help_text ending.HelpShown s x (alone_not ending.HelpShown x a refl) (alone_not ending.WriteFault x a refl) (alone_not ending.Memory x a refl) e)
  synth_of x a d o y (of_version h s) e = absurd (shown_not version_text ending.VersionShown s x (alone_not ending.VersionShown x a refl) (alone_not ending.WriteFault x a refl) (alone_not ending.Memory x a refl) e)
  synth_of x a d o y (of_memory s) e = absurd (alone_not ending.Memory x a refl (sym s.is ∙ e))

  -- those of lines that run a function alone
  exec_of : (x : Ending) → is_exec_alone x ≡ true → is_of_synth x ≡ false → by_asking.is_of_question x ≡ false → by_check.is_of_check x ≡ false → Kind → r ≡ x → ForJob words (λ set job. Executes set job r f)
  exec_of x a b d o (of_none n s) e = absurd (exec_alone_not ending.NotALine x a refl (sym s.is ∙ e))
  exec_of x a b d o (of_self n h s) e = absurd (self_not n s x (exec_alone_not ending.Completed x a refl) (exec_alone_not ending.WriteFault x a refl) (exec_alone_not ending.Memory x a refl) e)
  exec_of x a b d o (of_synth set budget cert h s) e = absurd (false≢true (sym b ∙ ap is_of_synth (sym e) ∙ s.ends))
  exec_of x a b d o (of_exec set job h s) e = record { set = set; job = job; is = h; holds = s }
  exec_of x a b d o (of_lower set h s) e = by_lower.lower_not set r f x (exec_alone_not_lower x a) s.lowers e
  exec_of x a b d o (of_prune set h s) e = by_prune.prune_not set r f x (exec_alone_not_prune x a) s.prunes e
  exec_of x a b d o (of_question set asked h s) e = by_asking.question_not set asked r f x d s.asks e
  exec_of x a b d o (of_check set h s) e = by_check.check_not set r f x o s.checks e
  exec_of x a b d o (of_help h s) e = absurd (shown_not help_text ending.HelpShown s x (exec_alone_not ending.HelpShown x a refl) (exec_alone_not ending.WriteFault x a refl) (exec_alone_not ending.Memory x a refl) e)
  exec_of x a b d o (of_version h s) e = absurd (shown_not version_text ending.VersionShown s x (exec_alone_not ending.VersionShown x a refl) (exec_alone_not ending.WriteFault x a refl) (exec_alone_not ending.Memory x a refl) e)
  exec_of x a b d o (of_memory s) e = absurd (exec_alone_not ending.Memory x a refl (sym s.is ∙ e))

  -- those of a line `lower` alone
  lower_of : (x : Ending) → is_lower_alone x ≡ true → is_of_synth x ≡ false → by_exec.is_of_exec x ≡ false → by_asking.is_of_question x ≡ false → by_check.is_of_check x ≡ false → Kind → r ≡ x → ForLower words (λ set. Lowers set r f)
  lower_of x a b c d o (of_none n s) e = absurd (lower_alone_not ending.NotALine x a refl (sym s.is ∙ e))
  lower_of x a b c d o (of_self n h s) e = absurd (self_not n s x (lower_alone_not ending.Completed x a refl) (lower_alone_not ending.WriteFault x a refl) (lower_alone_not ending.Memory x a refl) e)
  lower_of x a b c d o (of_synth set budget cert h s) e = absurd (false≢true (sym b ∙ ap is_of_synth (sym e) ∙ s.ends))
  lower_of x a b c d o (of_exec set job h s) e = by_exec.exec_not set job r f x c s.runs e
  lower_of x a b c d o (of_lower set h s) e = record { set = set; is = h; holds = s }
  lower_of x a b c d o (of_prune set h s) e = by_prune.prune_not set r f x (lower_alone_not_prune x a) s.prunes e
  lower_of x a b c d o (of_question set asked h s) e = by_asking.question_not set asked r f x d s.asks e
  lower_of x a b c d o (of_check set h s) e = by_check.check_not set r f x o s.checks e
  lower_of x a b c d o (of_help h s) e = absurd (shown_not help_text ending.HelpShown s x (lower_alone_not ending.HelpShown x a refl) (lower_alone_not ending.WriteFault x a refl) (lower_alone_not ending.Memory x a refl) e)
  lower_of x a b c d o (of_version h s) e = absurd (shown_not version_text ending.VersionShown s x (lower_alone_not ending.VersionShown x a refl) (lower_alone_not ending.WriteFault x a refl) (lower_alone_not ending.Memory x a refl) e)
  lower_of x a b c d o (of_memory s) e = absurd (lower_alone_not ending.Memory x a refl (sym s.is ∙ e))

  -- those of a line `prune` alone
  prune_of : Kind → r ≡ ending.Pruned → ForPrune words (λ set. Prunes set r f)
  prune_of (of_none n s) e = let q = sym s.is ∙ e in cc
  prune_of (of_self n h s) e = absurd (self_not n s ending.Pruned (λ q. cc) (λ q. cc) (λ q. cc) e)
  prune_of (of_synth set budget cert h s) e = absurd (false≢true (ap is_of_synth (sym e) ∙ s.ends))
  prune_of (of_exec set job h s) e = by_exec.exec_not set job r f ending.Pruned refl s.runs e
  prune_of (of_lower set h s) e = by_lower.lower_not set r f ending.Pruned refl s.lowers e
  prune_of (of_prune set h s) e = record { set = set; is = h; holds = s }
  prune_of (of_question set asked h s) e = by_asking.question_not set asked r f ending.Pruned refl s.asks e
  prune_of (of_check set h s) e = by_check.check_not set r f ending.Pruned refl s.checks e
  prune_of (of_help h s) e = absurd (shown_not help_text ending.HelpShown s ending.Pruned (λ q. cc) (λ q. cc) (λ q. cc) e)
  prune_of (of_version h s) e = absurd (shown_not version_text ending.VersionShown s ending.Pruned (λ q. cc) (λ q. cc) (λ q. cc) e)
  prune_of (of_memory s) e = let q = sym s.is ∙ e in cc

  -- where no function is run, the line runs one, or is `prune`
  stopped_of : (told : ExecFault) → Kind → r ≡ ending.NotRun told → ForJob words (λ set job. Executes set job r f) ⊎ ForPrune words (λ set. Prunes set r f)
  stopped_of told (of_none n s) e = let q = sym s.is ∙ e in cc
  stopped_of told (of_self n h s) e = absurd (self_not n s (ending.NotRun told) (λ q. cc) (λ q. cc) (λ q. cc) e)
  stopped_of told (of_synth set budget cert h s) e = absurd (false≢true (ap is_of_synth (sym e) ∙ s.ends))
  stopped_of told (of_exec set job h s) e = inl (record { set = set; job = job; is = h; holds = s })
  stopped_of told (of_lower set h s) e = by_lower.lower_not set r f (ending.NotRun told) refl s.lowers e
  stopped_of told (of_prune set h s) e = inr (record { set = set; is = h; holds = s })
  stopped_of told (of_question set asked h s) e = by_asking.question_not set asked r f (ending.NotRun told) refl s.asks e
  stopped_of told (of_check set h s) e = by_check.check_not set r f (ending.NotRun told) refl s.checks e
  stopped_of told (of_help h s) e = absurd (shown_not help_text ending.HelpShown s (ending.NotRun told) (λ q. cc) (λ q. cc) (λ q. cc) e)
  stopped_of told (of_version h s) e = absurd (shown_not version_text ending.VersionShown s (ending.NotRun told) (λ q. cc) (λ q. cc) (λ q. cc) e)
  stopped_of told (of_memory s) e = let q = sym s.is ∙ e in cc

  takes_asking : (set : Set) (asked : Question) → IsLine words (line_asking set asked) → TakesText words set
  takes_asking set (question.Which most) h = takes_all most h
  takes_asking set question.Why h = takes_why h

  -- those of a line `all` or `why` alone
  asking_of : (x : Ending) → by_asking.is_reply x ≡ true → is_of_synth x ≡ false → by_exec.is_of_exec x ≡ false → by_lower.is_of_lower x ≡ false → by_check.is_of_check x ≡ false → Kind → r ≡ x → ForQuestion words (λ set asked. Asks set asked r f)
  asking_of x a b c d o (of_none n s) e = absurd (reply_not ending.NotALine x a refl (sym s.is ∙ e))
  asking_of x a b c d o (of_self n h s) e = absurd (self_not n s x (reply_not ending.Completed x a refl) (reply_not ending.WriteFault x a refl) (reply_not ending.Memory x a refl) e)
  asking_of x a b c d o (of_synth set budget cert h s) e = absurd (false≢true (sym b ∙ ap is_of_synth (sym e) ∙ s.ends))
  asking_of x a b c d o (of_exec set job h s) e = by_exec.exec_not set job r f x c s.runs e
  asking_of x a b c d o (of_lower set h s) e = by_lower.lower_not set r f x d s.lowers e
  asking_of x a b c d o (of_prune set h s) e = by_prune.prune_not set r f x (reply_not_prune x a) s.prunes e
  asking_of x a b c d o (of_question set asked h s) e = record { set = set; asked = asked; is = h; holds = s }
  asking_of x a b c d o (of_check set h s) e = by_check.check_not set r f x o s.checks e
  asking_of x a b c d o (of_help h s) e = absurd (shown_not help_text ending.HelpShown s x (reply_not ending.HelpShown x a refl) (reply_not ending.WriteFault x a refl) (reply_not ending.Memory x a refl) e)
  asking_of x a b c d o (of_version h s) e = absurd (shown_not version_text ending.VersionShown s x (reply_not ending.VersionShown x a refl) (reply_not ending.WriteFault x a refl) (reply_not ending.Memory x a refl) e)
  asking_of x a b c d o (of_memory s) e = absurd (reply_not ending.Memory x a refl (sym s.is ∙ e))

  -- what follows for a line that takes a text as it is, and for a line `lower`, from an ending of lines that read their source alone
  text_of : (x : Ending) → is_of_text x ≡ true → (P Q C : Set → Type 0) → ((set : Set) (budget : Budget) (cert : Bool) → Synthesises set budget cert r f → P set) → ((set : Set) (job : Job) → Executes set job r f → P set) → ((set : Set) → Lowers set r f → Q set) → ((set : Set) (asked : Question) → Asks set asked r f → P set) → ((set : Set) → Checks set r f → C set) → ((set : Set) → Prunes set r f → P set) → Kind → r ≡ x → ForText words P ⊎ ForLower words Q ⊎ ForCheck words C
  text_of x a P Q C k l m v w p (of_none n s) e = absurd (text_not ending.NotALine x a refl (sym s.is ∙ e))
  text_of x a P Q C k l m v w p (of_self n h s) e = absurd (self_not n s x (text_not ending.Completed x a refl) (text_not ending.WriteFault x a refl) (text_not ending.Memory x a refl) e)
  text_of x a P Q C k l m v w p (of_synth set budget cert h s) e = inl (record { set = set; takes = takes_synth (record { budget = budget; cert = cert; is = h }); holds = k set budget cert s })
  text_of x a P Q C k l m v w p (of_exec set job h s) e = inl (record { set = set; takes = takes_job job h; holds = l set job s })
  text_of x a P Q C k l m v w p (of_lower set h s) e = inr (inl (record { set = set; is = h; holds = m set s }))
  text_of x a P Q C k l m v w p (of_prune set h s) e = inl (record { set = set; takes = takes_prune h; holds = p set s })
  text_of x a P Q C k l m v w p (of_check set h s) e = inr (inr (record { set = set; is = h; holds = w set s }))
  text_of x a P Q C k l m v w p (of_question set asked h s) e = inl (record { set = set; takes = takes_asking set asked h; holds = v set asked s })
  text_of x a P Q C k l m v w p (of_help h s) e = absurd (shown_not help_text ending.HelpShown s x (text_not ending.HelpShown x a refl) (text_not ending.WriteFault x a refl) (text_not ending.Memory x a refl) e)
  text_of x a P Q C k l m v w p (of_version h s) e = absurd (shown_not version_text ending.VersionShown s x (text_not ending.VersionShown x a refl) (text_not ending.WriteFault x a refl) (text_not ending.Memory x a refl) e)
  text_of x a P Q C k l m v w p (of_memory s) e = absurd (text_not ending.Memory x a refl (sym s.is ∙ e))

  -- what follows for each
  for_each : {P : Type 0} → ForText words (λ set. P) ⊎ ForLower words (λ set. P) ⊎ ForCheck words (λ set. P) → P
  for_each (inl h) = h.holds
  for_each (inr (inl h)) = h.holds
  for_each (inr (inr h)) = h.holds

  -- a line `synth` has none of the endings of other lines
  synth_not : (set : Set) (budget : Budget) (cert : Bool) (x : Ending) → Synthesises set budget cert r f → is_of_synth x ≡ false → r ≡ x → ⊥
  synth_not set budget cert x s b e = false≢true (sym b ∙ ap is_of_synth (sym e) ∙ s.ends)

  -- what is told of the text with this ending
  pub told_as : (set : Set) (budget : Budget) (cert : Bool) → Synthesises set budget cert r f → (x : Ending) (P : List ℕ → Type 0) → ((text : List ℕ) → IsToldOf set text x f.read_faults_old f.read_faults_new f.write_faults_old f.write_faults_new → P text) → r ≡ x → IfSome f.left_old P
  told_as set budget cert s x P k e = mapped f.left_old (λ text. IsToldOf set text r f.read_faults_old f.read_faults_new f.write_faults_old f.write_faults_new) P (λ text h. k text (subst (λ y. IsToldOf set text y f.read_faults_old f.read_faults_new f.write_faults_old f.write_faults_new) e h)) s.told

  -- Clauses that follow from the ending

  not_a_line_of : Kind → r ≡ ending.NotALine → IsNoLine words
  not_a_line_of (of_none n s) e = n
  not_a_line_of (of_self n h s) e = absurd (self_not n s ending.NotALine (λ q. cc) (λ q. cc) (λ q. cc) e)
  not_a_line_of (of_synth set budget cert h s) e = absurd (synth_not set budget cert ending.NotALine s refl e)
  not_a_line_of (of_exec set job h s) e = by_exec.exec_not set job r f ending.NotALine refl s.runs e
  not_a_line_of (of_lower set h s) e = by_lower.lower_not set r f ending.NotALine refl s.lowers e
  not_a_line_of (of_prune set h s) e = by_prune.prune_not set r f ending.NotALine refl s.prunes e
  not_a_line_of (of_question set asked h s) e = by_asking.question_not set asked r f ending.NotALine refl s.asks e
  not_a_line_of (of_check set h s) e = by_check.check_not set r f ending.NotALine refl s.checks e
  not_a_line_of (of_help h s) e = absurd (shown_not help_text ending.HelpShown s ending.NotALine (λ q. cc) (λ q. cc) (λ q. cc) e)
  not_a_line_of (of_version h s) e = absurd (shown_not version_text ending.VersionShown s ending.NotALine (λ q. cc) (λ q. cc) (λ q. cc) e)
  not_a_line_of (of_memory s) e = let q = sym s.is ∙ e in cc

  -- what was written of a text that is shown
  shown_whole : (text : List ℕ) (shown : Ending) → IsShown text shown r f → (ending.WriteFault ≡ shown → ⊥) → (ending.Memory ≡ shown → ⊥) → r ≡ shown → Appends text f.held_old f.held_new
  shown_whole text shown s a b e = elim s.written [ delivered is w ↦ w.appends | cut is w ↦ absurd (a (sym is ∙ e)) | no_room is same ↦ absurd (b (sym is ∙ e)) ]

  shown_cut : (text : List ℕ) (shown : Ending) → IsShown text shown r f → (shown ≡ ending.WriteFault → ⊥) → (ending.Memory ≡ ending.WriteFault → ⊥) → r ≡ ending.WriteFault → AppendsPrefix text f.held_old f.held_new
  shown_cut text shown s a b e = elim s.written [ delivered is w ↦ absurd (a (sym is ∙ e)) | cut is w ↦ w.appends | no_room is same ↦ absurd (b (sym is ∙ e)) ]

  shown_rose : (text : List ℕ) (shown : Ending) → IsShown text shown r f → (shown ≡ ending.WriteFault → ⊥) → (ending.Memory ≡ ending.WriteFault → ⊥) → r ≡ ending.WriteFault → Rose f.write_faults_old f.write_faults_new
  shown_rose text shown s a b e = elim s.written [ delivered is w ↦ absurd (a (sym is ∙ e)) | cut is w ↦ w.rose | no_room is same ↦ absurd (b (sym is ∙ e)) ]

  -- where the ending is that of a text that is shown, or a write fault, something may have been written
  shown_kept : (text : List ℕ) (shown : Ending) → IsShown text shown r f → writes_nothing shown ≡ false → IsTrue (writes_nothing r) → f.held_new ≡ f.held_old
  shown_kept text shown s b k = elim s.written [
    | delivered is w ↦ absurd (false≢true (sym b ∙ ap writes_nothing (sym is) ∙ k))
    | cut is w ↦ absurd (false≢true (ap writes_nothing (sym is) ∙ k))
    | no_room is same ↦ same
  ]

  help_of : Kind → r ≡ ending.HelpShown → IsLine words line.Help × Appends help_text f.held_old f.held_new
  help_of (of_none n s) e = let q = sym s.is ∙ e in cc
  help_of (of_self n h s) e = absurd (self_not n s ending.HelpShown (λ q. cc) (λ q. cc) (λ q. cc) e)
  help_of (of_synth set budget cert h s) e = absurd (synth_not set budget cert ending.HelpShown s refl e)
  help_of (of_exec set job h s) e = by_exec.exec_not set job r f ending.HelpShown refl s.runs e
  help_of (of_lower set h s) e = by_lower.lower_not set r f ending.HelpShown refl s.lowers e
  help_of (of_prune set h s) e = by_prune.prune_not set r f ending.HelpShown refl s.prunes e
  help_of (of_question set asked h s) e = by_asking.question_not set asked r f ending.HelpShown refl s.asks e
  help_of (of_check set h s) e = by_check.check_not set r f ending.HelpShown refl s.checks e
  help_of (of_help h s) e = (h, shown_whole help_text ending.HelpShown s (λ q. cc) (λ q. cc) e)
  help_of (of_version h s) e = absurd (shown_not version_text ending.VersionShown s ending.HelpShown (λ q. cc) (λ q. cc) (λ q. cc) e)
  help_of (of_memory s) e = let q = sym s.is ∙ e in cc

  version_of : Kind → r ≡ ending.VersionShown → IsLine words line.Version × Appends version_text f.held_old f.held_new
  version_of (of_none n s) e = let q = sym s.is ∙ e in cc
  version_of (of_self n h s) e = absurd (self_not n s ending.VersionShown (λ q. cc) (λ q. cc) (λ q. cc) e)
  version_of (of_synth set budget cert h s) e = absurd (synth_not set budget cert ending.VersionShown s refl e)
  version_of (of_exec set job h s) e = by_exec.exec_not set job r f ending.VersionShown refl s.runs e
  version_of (of_lower set h s) e = by_lower.lower_not set r f ending.VersionShown refl s.lowers e
  version_of (of_prune set h s) e = by_prune.prune_not set r f ending.VersionShown refl s.prunes e
  version_of (of_question set asked h s) e = by_asking.question_not set asked r f ending.VersionShown refl s.asks e
  version_of (of_check set h s) e = by_check.check_not set r f ending.VersionShown refl s.checks e
  version_of (of_help h s) e = absurd (shown_not help_text ending.HelpShown s ending.VersionShown (λ q. cc) (λ q. cc) (λ q. cc) e)
  version_of (of_version h s) e = (h, shown_whole version_text ending.VersionShown s (λ q. cc) (λ q. cc) e)
  version_of (of_memory s) e = let q = sym s.is ∙ e in cc

  write_fault_of : Kind → r ≡ ending.WriteFault → Rose f.write_faults_old f.write_faults_new
  write_fault_of (of_none n s) e = let q = sym s.is ∙ e in cc
  write_fault_of (of_self n h s) e = self_rose n s e
  write_fault_of (of_synth set budget cert h s) e = s.write_fault e
  write_fault_of (of_exec set job h s) e = by_exec.write_fault_by set job r f s.runs e
  write_fault_of (of_lower set h s) e = by_lower.write_fault_by set r f s.lowers e
  write_fault_of (of_prune set h s) e = by_prune.write_fault_by set r f s.prunes e
  write_fault_of (of_question set asked h s) e = by_asking.write_fault_by set asked r f s.asks e
  write_fault_of (of_check set h s) e = by_check.write_fault_by set r f s.checks e
  write_fault_of (of_help h s) e = shown_rose help_text ending.HelpShown s (λ q. cc) (λ q. cc) e
  write_fault_of (of_version h s) e = shown_rose version_text ending.VersionShown s (λ q. cc) (λ q. cc) e
  write_fault_of (of_memory s) e = let q = sym s.is ∙ e in cc

  abbrev Cut : List ℕ → Type 0
  Cut text = WritesPart (IsOutput words text) f.held_old f.held_new

  -- a reply is what the line writes
  output_of : (set : Set) (asked : Question) (text : List ℕ) (reply : Reply) (out : List ℕ) → IsLine words (line_asking set asked) → IsReply set asked text reply out → IsOutput words text out
  output_of set (question.Which most) text OfList out h i = output.listing (record { set = set; most = most; is = h; holds = i })
  output_of set (question.Which most) text OfReasons out h i = absurd i
  output_of set (question.Which most) text OfCompletion out h i = absurd i
  output_of set question.Why text OfList out h i = absurd i
  output_of set question.Why text OfReasons out h i = output.reasons (record { set = set; is = h; holds = i })
  output_of set question.Why text OfCompletion out h i = output.meeting (record { set = set; is = h; holds = i })

  prefix_of : Kind → r ≡ ending.WriteFault → IfSome f.left_old Cut
  prefix_of (of_none n s) e = let q = sym s.is ∙ e in cc
  prefix_of (of_self n h s) e = every f.left_old Cut (λ text. let w = self_cut n s e in record { out = w.out; is = output.summary (record { n = n; is = h; holds = w.is }); appends = w.appends })
  prefix_of (of_synth set budget cert h s) e = mapped f.left_old (λ text. WritesPart (IsResult set budget cert text) f.held_old f.held_new) Cut (λ text w. record { out = w.out; is = output.result (record { set = set; budget = budget; cert = cert; is = h; holds = w.is }); appends = w.appends }) (s.prefix e)
  prefix_of (of_exec set job h s) e = mapped f.left_old (λ text. WritesPart (IsRunOutput set job text) f.held_old f.held_new) Cut (λ text w. record { out = w.out; is = output.run (record { set = set; job = job; is = h; holds = w.is }); appends = w.appends }) (by_exec.told_by set job r f (λ text. WritesPart (IsRunOutput set job text) f.held_old f.held_new) (λ text w. by_exec.prefix_by set job r f e text w) s.runs)
  prefix_of (of_lower set h s) e = by_lower.told_as set r f ending.WriteFault Cut (λ text told. record { out = told.1.out; is = output.plain (record { set = set; is = h; holds = told.1.is }); appends = told.1.appends }) e s.lowers
  prefix_of (of_prune set h s) e = by_prune.told_as set r f ending.WriteFault Cut (λ text told. record { out = told.1.out; is = output.left (record { set = set; is = h; holds = told.1.is }); appends = told.1.appends }) e s.prunes
  prefix_of (of_question set asked h s) e = by_asking.told_by set asked r f Cut (λ text came. let w = by_asking.prefix_by set asked r f text came e in record { out = w.out; is = output_of set asked text w.is.0 w.out h w.is.1; appends = w.appends }) s.asks
  prefix_of (of_check set h s) e = by_check.told_as set r f ending.WriteFault Cut (λ text told. record { out = told.1.out; is = output.verdict (record { set = set; is = h; holds = told.1.is }); appends = told.1.appends }) e s.checks
  prefix_of (of_help h s) e = every f.left_old Cut (λ text. record { out = help_text; is = output.help h refl; appends = shown_cut help_text ending.HelpShown s (λ q. cc) (λ q. cc) e })
  prefix_of (of_version h s) e = every f.left_old Cut (λ text. record { out = version_text; is = output.version h refl; appends = shown_cut version_text ending.VersionShown s (λ q. cc) (λ q. cc) e })
  prefix_of (of_memory s) e = let q = sym s.is ∙ e in cc

  kept_of : Kind → IsTrue (writes_nothing r) → f.held_new ≡ f.held_old
  kept_of (of_none n s) k = s.nothing.unwritten
  kept_of (of_self n h s) k = self_kept n s k
  kept_of (of_synth set budget cert h s) k = s.kept k
  kept_of (of_exec set job h s) k = by_exec.kept_by set job r f s.runs k
  kept_of (of_lower set h s) k = by_lower.kept_by set r f s.lowers k
  kept_of (of_prune set h s) k = by_prune.kept_by set r f s.prunes k
  kept_of (of_question set asked h s) k = by_asking.kept_by set asked r f s.asks k
  kept_of (of_check set h s) k = by_check.kept_by set r f s.checks k
  kept_of (of_help h s) k = shown_kept help_text ending.HelpShown s refl k
  kept_of (of_version h s) k = shown_kept version_text ending.VersionShown s refl k
  kept_of (of_memory s) k = s.nothing.unwritten

  abbrev Few : Type 0
  Few = TakesFew most_input f.left_old f.left_new × (((set : Set) → IsLine words (line.Check set) → ⊥) → TakesFew most_bytes f.left_old f.left_new)

  few_text : TakesFew most_bytes f.left_old f.left_new → Few
  few_text x = (takes_less f.left_old f.left_new x, λ none. x)

  few_none : f.left_new ≡ f.left_old → Few
  few_none e = (nothing_taken most_input f.left_old f.left_new e, λ none. nothing_taken most_bytes f.left_old f.left_new e)

  few_of : Kind → Few
  few_of (of_none n s) = few_none s.nothing.unread.left
  few_of (of_self n h s) = few_none s.unread.left
  few_of (of_synth set budget cert h s) = few_text s.few
  few_of (of_exec set job h s) = few_text s.few
  few_of (of_lower set h s) = few_text s.few
  few_of (of_prune set h s) = few_text s.few
  few_of (of_question set asked h s) = few_text s.few
  few_of (of_check set h s) = (s.few, λ none. absurd (none set h))
  few_of (of_help h s) = few_none s.unread.left
  few_of (of_version h s) = few_none s.unread.left
  few_of (of_memory s) = few_none s.nothing.unread.left

  unread_of : Kind → ((set : Set) → ReadsSource words set → ⊥) → f.left_new ≡ f.left_old
  unread_of (of_none n s) reads = s.nothing.unread.left
  unread_of (of_self n h s) reads = s.unread.left
  unread_of (of_synth set budget cert h s) reads = absurd (reads set (inl (inl (takes_synth (record { budget = budget; cert = cert; is = h })))))
  unread_of (of_exec set job h s) reads = absurd (reads set (inl (inl (takes_job job h))))
  unread_of (of_lower set h s) reads = absurd (reads set (inl (inr h)))
  unread_of (of_prune set h s) reads = absurd (reads set (inl (inl (takes_prune h))))
  unread_of (of_check set h s) reads = absurd (reads set (inr h))
  unread_of (of_question set asked h s) reads = absurd (reads set (inl (inl (takes_asking set asked h))))
  unread_of (of_help h s) reads = s.unread.left
  unread_of (of_version h s) reads = s.unread.left
  unread_of (of_memory s) reads = s.nothing.unread.left

  -- Clauses that follow from the line

  one : (l m : Line) → IsLine words l → IsLine words m → l ≡ m
  one l m = lines_are_one words l m

  ends_no_line_of : Kind → IsNoLine words → EndsNoLine r
  ends_no_line_of (of_none n s) spells = subst EndsNoLine (sym s.is) refl
  ends_no_line_of (of_self n h s) spells = absurd (spells (line.Itself n) h)
  ends_no_line_of (of_synth set budget cert h s) spells = absurd (spells (line.Synth set budget cert) h)
  ends_no_line_of (of_exec set job h s) spells = absurd (spells (line_of set job) h)
  ends_no_line_of (of_lower set h s) spells = absurd (spells (line.Lower set) h)
  ends_no_line_of (of_prune set h s) spells = absurd (spells (line.Prune set) h)
  ends_no_line_of (of_question set asked h s) spells = absurd (spells (line_asking set asked) h)
  ends_no_line_of (of_check set h s) spells = absurd (spells (line.Check set) h)
  ends_no_line_of (of_help h s) spells = absurd (spells line.Help h)
  ends_no_line_of (of_version h s) spells = absurd (spells line.Version h)
  ends_no_line_of (of_memory s) spells = subst EndsNoLine (sym s.is) tt

  -- the endings of a text that is shown
  shown_ends : (text : List ℕ) (shown : Ending) (P : Ending → Type 0) → IsShown text shown r f → P shown → (Rose f.write_faults_old f.write_faults_new → P ending.WriteFault) → P ending.Memory → P r
  shown_ends text shown P s a b c = elim s.written [ delivered is w ↦ subst P (sym is) a | cut is w ↦ subst P (sym is) (b w.rose) | no_room is same ↦ subst P (sym is) c ]

  ends_help_of : Kind → IsLine words line.Help → EndsHelp r f.write_faults_old f.write_faults_new
  ends_help_of (of_none n s) h = absurd (n line.Help h)
  ends_help_of (of_self n g s) h = let q = one (line.Itself n) line.Help g h in cc
  ends_help_of (of_synth set budget cert g s) h = let q = one (line.Synth set budget cert) line.Help g h in cc
  ends_help_of (of_exec set job g s) h = not_of_job line.Help set job refl (one line.Help (line_of set job) h g)
  ends_help_of (of_lower set g s) h = let q = one (line.Lower set) line.Help g h in cc
  ends_help_of (of_prune set g s) h = let q = one (line.Prune set) line.Help g h in cc
  ends_help_of (of_question set asked g s) h = not_asking line.Help set asked refl (one line.Help (line_asking set asked) h g)
  ends_help_of (of_check t g s) h = let q = one (line.Check t) line.Help g h in cc
  ends_help_of (of_help g s) h = shown_ends help_text ending.HelpShown (λ x. EndsHelp x f.write_faults_old f.write_faults_new) s refl (λ w. w) tt
  ends_help_of (of_version g s) h = let q = one line.Version line.Help g h in cc
  ends_help_of (of_memory s) h = subst (λ x. EndsHelp x f.write_faults_old f.write_faults_new) (sym s.is) tt

  ends_version_of : Kind → IsLine words line.Version → EndsVersion r f.write_faults_old f.write_faults_new
  ends_version_of (of_none n s) h = absurd (n line.Version h)
  ends_version_of (of_self n g s) h = let q = one (line.Itself n) line.Version g h in cc
  ends_version_of (of_synth set budget cert g s) h = let q = one (line.Synth set budget cert) line.Version g h in cc
  ends_version_of (of_exec set job g s) h = not_of_job line.Version set job refl (one line.Version (line_of set job) h g)
  ends_version_of (of_lower set g s) h = let q = one (line.Lower set) line.Version g h in cc
  ends_version_of (of_prune set g s) h = let q = one (line.Prune set) line.Version g h in cc
  ends_version_of (of_question set asked g s) h = not_asking line.Version set asked refl (one line.Version (line_asking set asked) h g)
  ends_version_of (of_check t g s) h = let q = one (line.Check t) line.Version g h in cc
  ends_version_of (of_help g s) h = let q = one line.Help line.Version g h in cc
  ends_version_of (of_version g s) h = shown_ends version_text ending.VersionShown (λ x. EndsVersion x f.write_faults_old f.write_faults_new) s refl (λ w. w) tt
  ends_version_of (of_memory s) h = subst (λ x. EndsVersion x f.write_faults_old f.write_faults_new) (sym s.is) tt

  prefix_help_of : Kind → IsLine words line.Help → r ≡ ending.WriteFault → AppendsPrefix help_text f.held_old f.held_new
  prefix_help_of (of_none n s) h e = absurd (n line.Help h)
  prefix_help_of (of_self n g s) h e = let q = one (line.Itself n) line.Help g h in cc
  prefix_help_of (of_synth set budget cert g s) h e = let q = one (line.Synth set budget cert) line.Help g h in cc
  prefix_help_of (of_exec set job g s) h e = not_of_job line.Help set job refl (one line.Help (line_of set job) h g)
  prefix_help_of (of_lower set g s) h e = let q = one (line.Lower set) line.Help g h in cc
  prefix_help_of (of_prune set g s) h e = let q = one (line.Prune set) line.Help g h in cc
  prefix_help_of (of_question set asked g s) h e = not_asking line.Help set asked refl (one line.Help (line_asking set asked) h g)
  prefix_help_of (of_check t g s) h e = let q = one (line.Check t) line.Help g h in cc
  prefix_help_of (of_help g s) h e = shown_cut help_text ending.HelpShown s (λ q. cc) (λ q. cc) e
  prefix_help_of (of_version g s) h e = let q = one line.Version line.Help g h in cc
  prefix_help_of (of_memory s) h e = let q = sym s.is ∙ e in cc

  prefix_version_of : Kind → IsLine words line.Version → r ≡ ending.WriteFault → AppendsPrefix version_text f.held_old f.held_new
  prefix_version_of (of_none n s) h e = absurd (n line.Version h)
  prefix_version_of (of_self n g s) h e = let q = one (line.Itself n) line.Version g h in cc
  prefix_version_of (of_synth set budget cert g s) h e = let q = one (line.Synth set budget cert) line.Version g h in cc
  prefix_version_of (of_exec set job g s) h e = not_of_job line.Version set job refl (one line.Version (line_of set job) h g)
  prefix_version_of (of_lower set g s) h e = let q = one (line.Lower set) line.Version g h in cc
  prefix_version_of (of_prune set g s) h e = let q = one (line.Prune set) line.Version g h in cc
  prefix_version_of (of_question set asked g s) h e = not_asking line.Version set asked refl (one line.Version (line_asking set asked) h g)
  prefix_version_of (of_check t g s) h e = let q = one (line.Check t) line.Version g h in cc
  prefix_version_of (of_help g s) h e = let q = one line.Help line.Version g h in cc
  prefix_version_of (of_version g s) h e = shown_cut version_text ending.VersionShown s (λ q. cc) (λ q. cc) e
  prefix_version_of (of_memory s) h e = let q = sym s.is ∙ e in cc

  -- what follows for a line `synth` from its own call, or from want of memory
  for_synth : (P : Set → Budget → Bool → Type 0) → ((set : Set) (budget : Budget) (cert : Bool) → Synthesises set budget cert r f → P set budget cert) → ((set : Set) (budget : Budget) (cert : Bool) → r ≡ ending.Memory → P set budget cert) → Kind → (set : Set) (budget : Budget) (cert : Bool) → IsSearch words set budget cert → P set budget cert
  for_synth P a m (of_none n s) set budget cert h = absurd (n (line.Synth set budget cert) h)
  for_synth P a m (of_self n g s) set budget cert h = let q = one (line.Itself n) (line.Synth set budget cert) g h in cc
  for_synth P a m (of_synth t other its g s) set budget cert h =
      let q = one (line.Synth t other its) (line.Synth set budget cert) g h in
      let sets : t ≡ set = cc in
      let budgets : other ≡ budget = cc in
      let certs : its ≡ cert = cc in
      subst (λ x. P x budget cert) sets (subst (λ x. P t x cert) budgets (subst (P t other) certs (a t other its s)))
  for_synth P a m (of_exec other job g s) set budget cert h = not_of_job (line.Synth set budget cert) other job refl (one (line.Synth set budget cert) (line_of other job) h g)
  for_synth P a m (of_lower t g s) set budget cert h = let q = one (line.Lower t) (line.Synth set budget cert) g h in cc
  for_synth P a m (of_prune t g s) set budget cert h = let q = one (line.Prune t) (line.Synth set budget cert) g h in cc
  for_synth P a m (of_question t asked g s) set budget cert h = not_asking (line.Synth set budget cert) t asked refl (one (line.Synth set budget cert) (line_asking t asked) h g)
  for_synth P a m (of_check t g s) set budget cert h = let q = one (line.Check t) (line.Synth set budget cert) g h in cc
  for_synth P a m (of_help g s) set budget cert h = let q = one line.Help (line.Synth set budget cert) g h in cc
  for_synth P a m (of_version g s) set budget cert h = let q = one line.Version (line.Synth set budget cert) g h in cc
  for_synth P a m (of_memory s) set budget cert h = m set budget cert s.is

  -- what follows for a line that runs a function from its own call, or from want of memory
  for_exec : (P : Set → Job → Type 0) → ((set : Set) (job : Job) → Executes set job r f → P set job) → ((set : Set) (job : Job) → r ≡ ending.Memory → P set job) → Kind → (set : Set) (job : Job) → IsJob words set job → P set job
  for_exec P a m (of_none n s) set job h = absurd (n (line_of set job) h)
  for_exec P a m (of_self n g s) set job h = not_of_job (line.Itself n) set job refl (one (line.Itself n) (line_of set job) g h)
  for_exec P a m (of_synth t budget cert g s) set job h = not_of_job (line.Synth t budget cert) set job refl (one (line.Synth t budget cert) (line_of set job) g h)
  for_exec P a m (of_exec t other g s) set job h =
      let same = one_job t set other job (one (line_of t other) (line_of set job) g h) in
      subst (λ x. P x job) same.sets (subst (P t) same.jobs (a t other s))
  for_exec P a m (of_lower t g s) set job h = not_of_job (line.Lower t) set job refl (one (line.Lower t) (line_of set job) g h)
  for_exec P a m (of_prune t g s) set job h = not_of_job (line.Prune t) set job refl (one (line.Prune t) (line_of set job) g h)
  for_exec P a m (of_question t asked g s) set job h = job_or_question set job t asked (one (line_of set job) (line_asking t asked) h g)
  for_exec P a m (of_check t g s) set job h = not_of_job (line.Check t) set job refl (one (line.Check t) (line_of set job) g h)
  for_exec P a m (of_help g s) set job h = not_of_job line.Help set job refl (one line.Help (line_of set job) g h)
  for_exec P a m (of_version g s) set job h = not_of_job line.Version set job refl (one line.Version (line_of set job) g h)
  for_exec P a m (of_memory s) set job h = m set job s.is

  -- what follows for a line `lower` from its own call, or from want of memory
  for_lower : (P : Set → Type 0) → ((set : Set) → Lowers set r f → P set) → ((set : Set) → r ≡ ending.Memory → P set) → Kind → (set : Set) → IsLine words (line.Lower set) → P set
  for_lower P a m (of_none n s) set h = absurd (n (line.Lower set) h)
  for_lower P a m (of_self n g s) set h = let q = one (line.Itself n) (line.Lower set) g h in cc
  for_lower P a m (of_synth t budget cert g s) set h = let q = one (line.Synth t budget cert) (line.Lower set) g h in cc
  for_lower P a m (of_exec t job g s) set h = not_of_job (line.Lower set) t job refl (one (line.Lower set) (line_of t job) h g)
  for_lower P a m (of_lower t g s) set h =
      let q = one (line.Lower t) (line.Lower set) g h in
      let sets : t ≡ set = cc in
      subst P sets (a t s)
  for_lower P a m (of_check t g s) set h = let q = one (line.Check t) (line.Lower set) g h in cc
  for_lower P a m (of_prune t g s) set h = let q = one (line.Prune t) (line.Lower set) g h in cc
  for_lower P a m (of_help g s) set h = let q = one line.Help (line.Lower set) g h in cc
  for_lower P a m (of_question t asked g s) set h = not_asking (line.Lower set) t asked refl (one (line.Lower set) (line_asking t asked) h g)
  for_lower P a m (of_version g s) set h = let q = one line.Version (line.Lower set) g h in cc
  for_lower P a m (of_memory s) set h = m set s.is

  -- what follows for a line `prune` from its own call, or from want of memory
  for_prune : (P : Set → Type 0) → ((set : Set) → Prunes set r f → P set) → ((set : Set) → r ≡ ending.Memory → P set) → Kind → (set : Set) → IsLine words (line.Prune set) → P set
  for_prune P a m (of_none n s) set h = absurd (n (line.Prune set) h)
  for_prune P a m (of_self n g s) set h = let q = one (line.Itself n) (line.Prune set) g h in cc
  for_prune P a m (of_synth t budget cert g s) set h = let q = one (line.Synth t budget cert) (line.Prune set) g h in cc
  for_prune P a m (of_exec t job g s) set h = not_of_job (line.Prune set) t job refl (one (line.Prune set) (line_of t job) h g)
  for_prune P a m (of_prune t g s) set h =
      let q = one (line.Prune t) (line.Prune set) g h in
      let sets : t ≡ set = cc in
      subst P sets (a t s)
  for_prune P a m (of_check t g s) set h = let q = one (line.Check t) (line.Prune set) g h in cc
  for_prune P a m (of_lower t g s) set h = let q = one (line.Lower t) (line.Prune set) g h in cc
  for_prune P a m (of_help g s) set h = let q = one line.Help (line.Prune set) g h in cc
  for_prune P a m (of_question t asked g s) set h = not_asking (line.Prune set) t asked refl (one (line.Prune set) (line_asking t asked) h g)
  for_prune P a m (of_version g s) set h = let q = one line.Version (line.Prune set) g h in cc
  for_prune P a m (of_memory s) set h = m set s.is

  -- what follows for a line `all` or `why` from its own call, or from want of memory
  for_asking : (P : Set → Question → Type 0) → ((set : Set) (asked : Question) → Asks set asked r f → P set asked) → ((set : Set) (asked : Question) → r ≡ ending.Memory → P set asked) → Kind → (set : Set) (asked : Question) → IsLine words (line_asking set asked) → P set asked
  for_asking P a m (of_none n s) set asked h = absurd (n (line_asking set asked) h)
  for_asking P a m (of_self n g s) set asked h = not_asking (line.Itself n) set asked refl (one (line.Itself n) (line_asking set asked) g h)
  for_asking P a m (of_synth t budget cert g s) set asked h = not_asking (line.Synth t budget cert) set asked refl (one (line.Synth t budget cert) (line_asking set asked) g h)
  for_asking P a m (of_exec t job g s) set asked h = job_or_question t job set asked (one (line_of t job) (line_asking set asked) g h)
  for_asking P a m (of_lower t g s) set asked h = not_asking (line.Lower t) set asked refl (one (line.Lower t) (line_asking set asked) g h)
  for_asking P a m (of_prune t g s) set asked h = not_asking (line.Prune t) set asked refl (one (line.Prune t) (line_asking set asked) g h)
  for_asking P a m (of_question t other g s) set asked h =
      let same = one_question t set other asked (one (line_asking t other) (line_asking set asked) g h) in
      subst (λ x. P x asked) same.0 (subst (P t) same.1 (a t other s))
  for_asking P a m (of_check t g s) set asked h = not_asking (line.Check t) set asked refl (one (line.Check t) (line_asking set asked) g h)
  for_asking P a m (of_help g s) set asked h = not_asking line.Help set asked refl (one line.Help (line_asking set asked) g h)
  for_asking P a m (of_version g s) set asked h = not_asking line.Version set asked refl (one line.Version (line_asking set asked) g h)
  for_asking P a m (of_memory s) set asked h = m set asked s.is

  -- what follows for a line `check` from its own call, or from want of memory
  for_check : (P : Set → Type 0) → ((set : Set) → Checks set r f → P set) → ((set : Set) → r ≡ ending.Memory → P set) → Kind → (set : Set) → IsLine words (line.Check set) → P set
  for_check P a m (of_none n s) set h = absurd (n (line.Check set) h)
  for_check P a m (of_self n g s) set h = let q = one (line.Itself n) (line.Check set) g h in cc
  for_check P a m (of_synth t budget cert g s) set h = let q = one (line.Synth t budget cert) (line.Check set) g h in cc
  for_check P a m (of_exec t job g s) set h = not_of_job (line.Check set) t job refl (one (line.Check set) (line_of t job) h g)
  for_check P a m (of_lower t g s) set h = let q = one (line.Lower t) (line.Check set) g h in cc
  for_check P a m (of_prune t g s) set h = let q = one (line.Prune t) (line.Check set) g h in cc
  for_check P a m (of_question t asked g s) set h = not_asking (line.Check set) t asked refl (one (line.Check set) (line_asking t asked) h g)
  for_check P a m (of_check t g s) set h =
      let q = one (line.Check t) (line.Check set) g h in
      let sets : t ≡ set = cc in
      subst P sets (a t s)
  for_check P a m (of_help g s) set h = let q = one line.Help (line.Check set) g h in cc
  for_check P a m (of_version g s) set h = let q = one line.Version (line.Check set) g h in cc
  for_check P a m (of_memory s) set h = m set s.is

  -- what follows for a line `self` from its own call, or from want of memory
  for_self : (P : ℕ → Type 0) → ((n : ℕ) → Summarises n r f → P n) → ((n : ℕ) → r ≡ ending.Memory → P n) → Kind → (n : ℕ) → IsLine words (line.Itself n) → P n
  for_self P a m (of_none x s) n h = absurd (x (line.Itself n) h)
  for_self P a m (of_self k g s) n h =
      let q = one (line.Itself k) (line.Itself n) g h in
      let same : k ≡ n = cc in
      subst P same (a k s)
  for_self P a m (of_synth t budget cert g s) n h = let q = one (line.Synth t budget cert) (line.Itself n) g h in cc
  for_self P a m (of_exec t job g s) n h = not_of_job (line.Itself n) t job refl (one (line.Itself n) (line_of t job) h g)
  for_self P a m (of_lower t g s) n h = let q = one (line.Lower t) (line.Itself n) g h in cc
  for_self P a m (of_prune t g s) n h = let q = one (line.Prune t) (line.Itself n) g h in cc
  for_self P a m (of_question t asked g s) n h = not_asking (line.Itself n) t asked refl (one (line.Itself n) (line_asking t asked) h g)
  for_self P a m (of_check t g s) n h = let q = one (line.Check t) (line.Itself n) g h in cc
  for_self P a m (of_help g s) n h = let q = one line.Help (line.Itself n) g h in cc
  for_self P a m (of_version g s) n h = let q = one line.Version (line.Itself n) g h in cc
  for_self P a m (of_memory s) n h = m n s.is

  abbrev Completion : Type 0
  Completion = ForSearch words (λ set budget cert. IfSome f.left_old (λ text. Writes (IsCompletion set budget cert text) f.held_old f.held_new)) ⊎ ForSelf words (λ n. Writes (IsSummary n) f.held_old f.held_new)

  completed_of : Kind → r ≡ ending.Completed → Completion
  completed_of (of_none n s) e = let q = sym s.is ∙ e in cc
  completed_of (of_self n h s) e = inr (record { n = n; is = h; holds = self_written n s e })
  completed_of (of_synth set budget cert h s) e = inl (record { set = set; budget = budget; cert = cert; is = h; holds = s.completed e })
  completed_of (of_exec set job h s) e = by_exec.exec_not set job r f ending.Completed refl s.runs e
  completed_of (of_lower set h s) e = by_lower.lower_not set r f ending.Completed refl s.lowers e
  completed_of (of_prune set h s) e = by_prune.prune_not set r f ending.Completed refl s.prunes e
  completed_of (of_question set asked h s) e = by_asking.question_not set asked r f ending.Completed refl s.asks e
  completed_of (of_check set h s) e = by_check.check_not set r f ending.Completed refl s.checks e
  completed_of (of_help h s) e = absurd (shown_not help_text ending.HelpShown s ending.Completed (λ q. cc) (λ q. cc) (λ q. cc) e)
  completed_of (of_version h s) e = absurd (shown_not version_text ending.VersionShown s ending.Completed (λ q. cc) (λ q. cc) (λ q. cc) e)
  completed_of (of_memory s) e = let q = sym s.is ∙ e in cc

  abbrev is_check_alone : Ending → Bool
  is_check_alone ending.Accepted = true
  is_check_alone (ending.Rejected why) = true
  is_check_alone (ending.NotCertificate why) = true
  is_check_alone _ = false

  check_alone_not : (y x : Ending) → is_check_alone x ≡ true → is_check_alone y ≡ false → y ≡ x → ⊥
  check_alone_not y x a b e = false≢true (sym b ∙ ap is_check_alone e ∙ a)

  check_alone_not_prune : (x : Ending) → is_check_alone x ≡ true → by_prune.is_of_prune x ≡ false
  check_alone_not_prune ending.Completed a = absurd (false≢true a)
  check_alone_not_prune (ending.NoCompletion pairs) a = absurd (false≢true a)
  check_alone_not_prune (ending.SpentRounds pairs best) a = absurd (false≢true a)
  check_alone_not_prune (ending.SpentConflicts pairs q g log best) a = absurd (false≢true a)
  check_alone_not_prune ending.HelpShown a = absurd (false≢true a)
  check_alone_not_prune ending.VersionShown a = absurd (false≢true a)
  check_alone_not_prune ending.NotALine a = absurd (false≢true a)
  check_alone_not_prune ending.ExecDone a = absurd (false≢true a)
  check_alone_not_prune (ending.ExecFailed span) a = absurd (false≢true a)
  check_alone_not_prune (ending.ExecSkipped span) a = absurd (false≢true a)
  check_alone_not_prune (ending.NotText fault) a = absurd (false≢true a)
  check_alone_not_prune (ending.NotTyped fault) a = absurd (false≢true a)
  check_alone_not_prune (ending.TooLarge reason) a = absurd (false≢true a)
  check_alone_not_prune (ending.NotRun reason) a = absurd (false≢true a)
  check_alone_not_prune (ending.NotFilled reason) a = absurd (false≢true a)
  check_alone_not_prune ending.Lowered a = absurd (false≢true a)
  check_alone_not_prune ending.Pruned a = absurd (false≢true a)
  check_alone_not_prune ending.Listed a = absurd (false≢true a)
  check_alone_not_prune ending.Explained a = absurd (false≢true a)
  check_alone_not_prune ending.Met a = absurd (false≢true a)
  check_alone_not_prune (ending.NotLowered reason) a = absurd (false≢true a)
  check_alone_not_prune (ending.NotTagged span) a = absurd (false≢true a)
  check_alone_not_prune ending.Accepted a = refl
  check_alone_not_prune (ending.Rejected why) a = refl
  check_alone_not_prune (ending.NotCertificate why) a = refl
  check_alone_not_prune ending.ReadFault a = absurd (false≢true a)
  check_alone_not_prune ending.WriteFault a = absurd (false≢true a)
  check_alone_not_prune ending.TooLong a = absurd (false≢true a)
  check_alone_not_prune ending.Memory a = absurd (false≢true a)

  -- its endings come for no other line
  check_of : (x : Ending) → is_check_alone x ≡ true → is_of_synth x ≡ false → by_exec.is_of_exec x ≡ false → by_lower.is_of_lower x ≡ false → by_asking.is_of_question x ≡ false → Kind → r ≡ x → ForCheck words (λ set. Checks set r f)
  check_of x a b c d o (of_none n s) e = absurd (check_alone_not ending.NotALine x a refl (sym s.is ∙ e))
  check_of x a b c d o (of_self n h s) e = absurd (self_not n s x (check_alone_not ending.Completed x a refl) (check_alone_not ending.WriteFault x a refl) (check_alone_not ending.Memory x a refl) e)
  check_of x a b c d o (of_synth set budget cert h s) e = absurd (false≢true (sym b ∙ ap is_of_synth (sym e) ∙ s.ends))
  check_of x a b c d o (of_exec set job h s) e = by_exec.exec_not set job r f x c s.runs e
  check_of x a b c d o (of_lower set h s) e = by_lower.lower_not set r f x d s.lowers e
  check_of x a b c d o (of_prune set h s) e = by_prune.prune_not set r f x (check_alone_not_prune x a) s.prunes e
  check_of x a b c d o (of_question set asked h s) e = by_asking.question_not set asked r f x o s.asks e
  check_of x a b c d o (of_check set h s) e = record { set = set; is = h; holds = s }
  check_of x a b c d o (of_help h s) e = absurd (shown_not help_text ending.HelpShown s x (check_alone_not ending.HelpShown x a refl) (check_alone_not ending.WriteFault x a refl) (check_alone_not ending.Memory x a refl) e)
  check_of x a b c d o (of_version h s) e = absurd (shown_not version_text ending.VersionShown s x (check_alone_not ending.VersionShown x a refl) (check_alone_not ending.WriteFault x a refl) (check_alone_not ending.Memory x a refl) e)
  check_of x a b c d o (of_memory s) e = absurd (check_alone_not ending.Memory x a refl (sym s.is ∙ e))

-- The clauses of `run`

module _ {words : List (List ℕ)} {r : Ending} {f : Effect} (a : Answers words r f) where
  abbrev the : Kind words r f
  the = kind words r f a

  pub not_a_line : r ≡ ending.NotALine → IsNoLine words
  not_a_line = not_a_line_of words r f the

  pub completed : r ≡ ending.Completed → ForSearch words (λ set budget cert. IfSome f.left_old (λ text. Writes (IsCompletion set budget cert text) f.held_old f.held_new)) ⊎ ForSelf words (λ n. Writes (IsSummary n) f.held_old f.held_new)
  completed = completed_of words r f the

  pub ends_self : (n : ℕ) → IsLine words (line.Itself n) → EndsSelf r f.write_faults_old f.write_faults_new
  ends_self = for_self words r f (λ n. EndsSelf r f.write_faults_old f.write_faults_new) (λ n s. self_ends words r f n (λ x. EndsSelf x f.write_faults_old f.write_faults_new) s refl (λ rose. rose) tt) (λ n m. subst (λ x. EndsSelf x f.write_faults_old f.write_faults_new) (sym m) tt) the

  pub prefix_self : (n : ℕ) → IsLine words (line.Itself n) → r ≡ ending.WriteFault → WritesPart (IsSummary n) f.held_old f.held_new
  prefix_self = for_self words r f (λ n. r ≡ ending.WriteFault → WritesPart (IsSummary n) f.held_old f.held_new) (λ n s e. self_cut words r f n s e) (λ n m e. let q = sym m ∙ e in cc) the

  pub none : (pairs : List Pair) → r ≡ ending.NoCompletion pairs → ForSearch words (λ set budget cert. IfSome f.left_old (λ text. Writes (IsNone set budget cert text pairs) f.held_old f.held_new))
  none pairs e = let s = synth_of words r f (ending.NoCompletion pairs) refl refl refl (λ q. cc) the e in record { set = s.set; budget = s.budget; cert = s.cert; is = s.is; holds = (s.holds).none pairs e }

  pub spent_rounds : (pairs : List Pair) (best : Option Choice) → r ≡ ending.SpentRounds pairs best → ForSearch words (λ set budget cert. AreSpent budget.rounds pairs × IfSome f.left_old (λ text. Writes (IsSpentRounds set budget text pairs best) f.held_old f.held_new))
  spent_rounds pairs best e = let s = synth_of words r f (ending.SpentRounds pairs best) refl refl refl (λ q. cc) the e in record { set = s.set; budget = s.budget; cert = s.cert; is = s.is; holds = (s.holds).rounds pairs best e }

  pub spent_conflicts : (pairs : List Pair) (q : Query) (formula : Encoded) (log : List (List Lit)) (best : Option Choice) → r ≡ ending.SpentConflicts pairs q formula log best → ForSearch words (λ set budget cert. AreLearnt budget.conflicts log × IfSome f.left_old (λ text. Writes (IsSpentConflicts set budget cert text pairs q formula log best) f.held_old f.held_new))
  spent_conflicts pairs q formula log best e = let s = synth_of words r f (ending.SpentConflicts pairs q formula log best) refl refl refl (λ q. cc) the e in record { set = s.set; budget = s.budget; cert = s.cert; is = s.is; holds = (s.holds).conflicts pairs q formula log best e }

  pub help : r ≡ ending.HelpShown → IsLine words line.Help × Appends help_text f.held_old f.held_new
  help = help_of words r f the

  pub version : r ≡ ending.VersionShown → IsLine words line.Version × Appends version_text f.held_old f.held_new
  version = version_of words r f the

  -- what is written of a run with this ending
  run_written : (x : Ending) → is_exec_alone x ≡ true → is_of_synth x ≡ false → by_asking.is_of_question x ≡ false → by_check.is_of_check x ≡ false → by_exec.is_run x ≡ true → r ≡ x → ForJob words (λ set job. IfSome f.left_old (λ text. Writes (IsRunResult set job x text) f.held_old f.held_new))
  run_written x a b d o run e =
      let s = exec_of words r f x a b d o the e in
      record { set = s.set; job = s.job; is = s.is; holds = by_exec.told_by s.set s.job r f (λ text. Writes (IsRunResult s.set s.job x text) f.held_old f.held_new) (λ text w. by_exec.run_by s.set s.job r f x run e text w) (s.holds).runs }

  pub exec_done : r ≡ ending.ExecDone → ForJob words (λ set job. IfSome f.left_old (λ text. Writes (IsRunResult set job ending.ExecDone text) f.held_old f.held_new))
  exec_done = run_written ending.ExecDone refl refl refl refl refl

  pub exec_failed : (span : Span) → r ≡ ending.ExecFailed span → ForJob words (λ set job. IfSome f.left_old (λ text. Writes (IsRunResult set job (ending.ExecFailed span) text) f.held_old f.held_new))
  exec_failed span = run_written (ending.ExecFailed span) refl refl refl refl refl

  pub exec_skipped : (span : Span) → r ≡ ending.ExecSkipped span → ForJob words (λ set job. IfSome f.left_old (λ text. Writes (IsRunResult set job (ending.ExecSkipped span) text) f.held_old f.held_new))
  exec_skipped span = run_written (ending.ExecSkipped span) refl refl refl refl refl

  stopped_as : (told : ExecFault) → r ≡ ending.NotRun told → ForJob words (λ set job. Executes set job r f) ⊎ ForPrune words (λ set. Prunes set r f) → ForJob words (λ set job. IfSome f.left_old (λ text. IsStopped set job text (reason.NotRun told))) ⊎ ForPrune words (λ set. IfSome f.left_old (λ text. (told ≡ exec.Unfilled) × IsOpenText set text))
  stopped_as told e (inl s) = inl (record { set = s.set; job = s.job; is = s.is; holds = by_exec.told_by s.set s.job r f (λ text. IsStopped s.set s.job text (reason.NotRun told)) (λ text w. by_exec.not_run_by s.set s.job r f (reason.NotRun told) e text w) (s.holds).runs })
  stopped_as told e (inr s) = inr (record { set = s.set; is = s.is; holds = by_prune.told_as s.set r f (ending.NotRun told) (λ text. (told ≡ exec.Unfilled) × IsOpenText s.set text) (λ text h. h) e (s.holds).prunes })

  pub not_run : (told : ExecFault) → r ≡ ending.NotRun told → ForJob words (λ set job. IfSome f.left_old (λ text. IsStopped set job text (reason.NotRun told))) ⊎ ForPrune words (λ set. IfSome f.left_old (λ text. (told ≡ exec.Unfilled) × IsOpenText set text))
  not_run told e = stopped_as told e (stopped_of words r f told the e)

  pub pruned : r ≡ ending.Pruned → ForPrune words (λ set. IfSome f.left_old (λ text. Writes (IsPrunedText set text) f.held_old f.held_new))
  pruned e =
      let s = prune_of words r f the e in
      record { set = s.set; is = s.is; holds = by_prune.told_as s.set r f ending.Pruned (λ text. Writes (IsPrunedText s.set text) f.held_old f.held_new) (λ text h. h) e (s.holds).prunes }

  abbrev Unfilled : FillFault → Type 0
  Unfilled told = ForTrace words (λ set holes name values. IfSome f.left_old (λ text. IsNotTraced set holes name values text (reason.NotFilled told)))

  -- that numbers do not fill a sketch is told of a line `trace` alone
  filled_of : (told : FillFault) (set : Set) (w : Way) (name : List ℕ) (values : List (List ℕ)) → IsLine words (line_by w set name values) → r ≡ ending.NotFilled told → Executes set (record { name = name; values = values; way = w }) r f → Unfilled told
  filled_of told set way.Exec name values is e s = absurd ((by_exec.stopped_by set (record { name = name; values = values; way = way.Exec }) r f (reason.NotFilled told) e s.runs).1)
  filled_of told set (way.Trace holes) name values is e s =
      let job : Job = record { name = name; values = values; way = way.Trace holes } in
      record { set = set; holes = holes; name = name; values = values; is = is; holds = by_exec.told_by set job r f (λ text. IsNotTraced set holes name values text (reason.NotFilled told)) (λ text w. by_exec.not_run_by set job r f (reason.NotFilled told) e text w) s.runs }

  pub not_filled : (told : FillFault) → r ≡ ending.NotFilled told → ForTrace words (λ set holes name values. IfSome f.left_old (λ text. IsNotTraced set holes name values text (reason.NotFilled told)))
  not_filled told e =
      let s = exec_of words r f (ending.NotFilled told) refl refl refl refl the e in
      filled_of told s.set s.job.way s.job.name s.job.values s.is e s.holds

  -- what is told of the text by an ending of a line `lower` alone
  told_of_lower : (x : Ending) → is_lower_alone x ≡ true → is_of_synth x ≡ false → by_exec.is_of_exec x ≡ false → by_asking.is_of_question x ≡ false → by_check.is_of_check x ≡ false → (P : Set → List ℕ → Type 0) → ((set : Set) (text : List ℕ) → by_lower.Tells set r f text x → P set text) → r ≡ x → ForLower words (λ set. IfSome f.left_old (P set))
  told_of_lower x a b c d o P k e =
      let s = lower_of words r f x a b c d o the e in
      record { set = s.set; is = s.is; holds = by_lower.told_as s.set r f x (P s.set) (k s.set) e (s.holds).lowers }

  pub lowered : r ≡ ending.Lowered → ForLower words (λ set. IfSome f.left_old (λ text. Writes (IsLoweredText set text) f.held_old f.held_new))
  lowered = told_of_lower ending.Lowered refl refl refl refl refl (λ set text. Writes (IsLoweredText set text) f.held_old f.held_new) (λ set text h. h)

  pub not_lowered : (told : AdtFault) → r ≡ ending.NotLowered told → ForLower words (λ set. IfSome f.left_old (λ text. HasNoPlainForm text told))
  not_lowered told = told_of_lower (ending.NotLowered told) refl refl refl refl refl (λ set text. HasNoPlainForm text told) (λ set text h. h)

  pub not_tagged : (span : Span) → r ≡ ending.NotTagged span → ForLower words (λ set. IfSome f.left_old (λ text. IsNotTagged set text span))
  not_tagged span = told_of_lower (ending.NotTagged span) refl refl refl refl refl (λ set text. IsNotTagged set text span) (λ set text h. h)

  -- what is written with an ending of a line `all` or `why` alone
  reply_written : (reply : Reply) → r ≡ ending_with reply → (set : Set) (asked : Question) → Asks set asked r f → IfSome f.left_old (λ text. Writes (IsReply set asked text reply) f.held_old f.held_new)
  reply_written reply e set asked s = by_asking.told_by set asked r f (λ text. Writes (IsReply set asked text reply) f.held_old f.held_new) (by_asking.written_by set asked r f reply e) s.asks

  listed_of : (set : Set) (asked : Question) → IsLine words (line_asking set asked) → Asks set asked r f → r ≡ ending.Listed → ForAll words (λ set most. IfSome f.left_old (λ text. Writes (IsListing set most text) f.held_old f.held_new))
  listed_of set (question.Which most) h s e = record { set = set; most = most; is = h; holds = reply_written OfList e set (question.Which most) s }
  listed_of set question.Why h s e = absurd ((by_asking.reply_by set question.Why r f OfList e s.asks).is)

  explained_of : (set : Set) (asked : Question) → IsLine words (line_asking set asked) → Asks set asked r f → r ≡ ending.Explained → ForWhy words (λ set. IfSome f.left_old (λ text. Writes (IsExplained set text) f.held_old f.held_new))
  explained_of set (question.Which most) h s e = absurd ((by_asking.reply_by set (question.Which most) r f OfReasons e s.asks).is)
  explained_of set question.Why h s e = record { set = set; is = h; holds = reply_written OfReasons e set question.Why s }

  met_of : (set : Set) (asked : Question) → IsLine words (line_asking set asked) → Asks set asked r f → r ≡ ending.Met → ForWhy words (λ set. IfSome f.left_old (λ text. Writes (IsMet set text) f.held_old f.held_new))
  met_of set (question.Which most) h s e = absurd ((by_asking.reply_by set (question.Which most) r f OfCompletion e s.asks).is)
  met_of set question.Why h s e = record { set = set; is = h; holds = reply_written OfCompletion e set question.Why s }

  pub listed : r ≡ ending.Listed → ForAll words (λ set most. IfSome f.left_old (λ text. Writes (IsListing set most text) f.held_old f.held_new))
  listed e = let s = asking_of words r f ending.Listed refl refl refl refl refl the e in listed_of s.set s.asked s.is s.holds e

  pub explained : r ≡ ending.Explained → ForWhy words (λ set. IfSome f.left_old (λ text. Writes (IsExplained set text) f.held_old f.held_new))
  explained e = let s = asking_of words r f ending.Explained refl refl refl refl refl the e in explained_of s.set s.asked s.is s.holds e

  pub met : r ≡ ending.Met → ForWhy words (λ set. IfSome f.left_old (λ text. Writes (IsMet set text) f.held_old f.held_new))
  met e = let s = asking_of words r f ending.Met refl refl refl refl refl the e in met_of s.set s.asked s.is s.holds e

  -- what is told of the text by an ending of lines that read their source
  told_of : (x : Ending) → is_of_text x ≡ true → (P Q C : Set → List ℕ → Type 0) → ((set : Set) (budget : Budget) (cert : Bool) → Synthesises set budget cert r f → IfSome f.left_old (P set)) → ((set : Set) (job : Job) → Executes set job r f → IfSome f.left_old (P set)) → ((set : Set) → Lowers set r f → IfSome f.left_old (Q set)) → ((set : Set) (asked : Question) → Asks set asked r f → IfSome f.left_old (P set)) → ((set : Set) → Checks set r f → IfSome f.left_old (C set)) → ((set : Set) → Prunes set r f → IfSome f.left_old (P set)) → r ≡ x → ForText words (λ set. IfSome f.left_old (P set)) ⊎ ForLower words (λ set. IfSome f.left_old (Q set)) ⊎ ForCheck words (λ set. IfSome f.left_old (C set))
  told_of x a P Q C k l m n o p e = text_of words r f x a (λ set. IfSome f.left_old (P set)) (λ set. IfSome f.left_old (Q set)) (λ set. IfSome f.left_old (C set)) k l m n o p the e

  pub not_text : (fault : TextFault) → r ≡ ending.NotText fault → ForText words (λ set. IfSome f.left_old (IsTextFault fault)) ⊎ ForLower words (λ set. IfSome f.left_old (λ text. IsFaultOfLowering set text (sketch.NotText fault))) ⊎ ForCheck words (λ set. IfSome f.left_old (λ input. IsFaultOfCheck set input (check.Sketch (sketch.NotText fault))))
  not_text fault e =
      told_of (ending.NotText fault) refl (λ set text. IsTextFault fault text) (λ set text. IsFaultOfLowering set text (sketch.NotText fault)) (λ set input. IsFaultOfCheck set input (check.Sketch (sketch.NotText fault)))
      (λ set budget cert s. told_as words r f set budget cert s (ending.NotText fault) (IsTextFault fault) (λ text h. h.1) e)
      (λ set job s. by_exec.told_by set job r f (IsTextFault fault) (λ text w. by_exec.not_text_by set job r f fault e text w) s.runs)
      (λ set s. by_lower.told_as set r f (ending.NotText fault) (λ text. IsFaultOfLowering set text (sketch.NotText fault)) (λ text h. h.0) e s.lowers)
      (λ set asked s. by_asking.told_as set asked r f (ending.NotText fault) (IsTextFault fault) (λ text h. h.1) e s.asks)
      (λ set s. by_check.told_as set r f (ending.NotText fault) (λ input. IsFaultOfCheck set input (check.Sketch (sketch.NotText fault))) (λ input h. h.0) e s.checks)
      (λ set s. by_prune.told_as set r f (ending.NotText fault) (IsTextFault fault) (λ text h. h) e s.prunes) e

  pub not_typed : (fault : TypeFault) → r ≡ ending.NotTyped fault → ForText words (λ set. IfSome f.left_old (IsUntyped set)) ⊎ ForLower words (λ set. IfSome f.left_old (λ text. IsFaultOfLowering set text (sketch.NotTyped fault))) ⊎ ForCheck words (λ set. IfSome f.left_old (λ input. IsFaultOfCheck set input (check.Sketch (sketch.NotTyped fault))))
  not_typed fault e =
      told_of (ending.NotTyped fault) refl IsUntyped (λ set text. IsFaultOfLowering set text (sketch.NotTyped fault)) (λ set input. IsFaultOfCheck set input (check.Sketch (sketch.NotTyped fault)))
      (λ set budget cert s. told_as words r f set budget cert s (ending.NotTyped fault) (IsUntyped set) (λ text h. h.1) e)
      (λ set job s. by_exec.told_by set job r f (IsUntyped set) (λ text w. by_exec.not_typed_by set job r f fault e text w) s.runs)
      (λ set s. by_lower.told_as set r f (ending.NotTyped fault) (λ text. IsFaultOfLowering set text (sketch.NotTyped fault)) (λ text h. h.0) e s.lowers)
      (λ set asked s. by_asking.told_as set asked r f (ending.NotTyped fault) (IsUntyped set) (λ text h. h.1) e s.asks)
      (λ set s. by_check.told_as set r f (ending.NotTyped fault) (λ input. IsFaultOfCheck set input (check.Sketch (sketch.NotTyped fault))) (λ input h. h.0) e s.checks)
      (λ set s. by_prune.told_as set r f (ending.NotTyped fault) (IsUntyped set) (λ text h. h.0) e s.prunes) e

  -- a fault of the text is told within it
  byte_told : (fault : TextFault) → IfSome f.left_old (IsTextFault fault) → IfSome f.left_old (λ text. byte_of fault ≤ length text)
  byte_told fault = mapped f.left_old (IsTextFault fault) (λ text. byte_of fault ≤ length text) (λ text h. byte_within text fault h)

  pub text_place : (fault : TextFault) → r ≡ ending.NotText fault → IfSome f.left_old (λ text. byte_of fault ≤ length text)
  text_place fault e =
      for_each words r f (told_of (ending.NotText fault) refl (λ set text. byte_of fault ≤ length text) (λ set text. byte_of fault ≤ length text) (λ set text. byte_of fault ≤ length text)
      (λ set budget cert s. byte_told fault (told_as words r f set budget cert s (ending.NotText fault) (IsTextFault fault) (λ text h. h.1) e))
      (λ set job s. byte_told fault (by_exec.told_by set job r f (IsTextFault fault) (λ text w. by_exec.not_text_by set job r f fault e text w) s.runs))
      (λ set s. by_lower.told_as set r f (ending.NotText fault) (λ text. byte_of fault ≤ length text) (λ text h. h.1) e s.lowers)
      (λ set asked s. byte_told fault (by_asking.told_as set asked r f (ending.NotText fault) (IsTextFault fault) (λ text h. h.1) e s.asks))
      (λ set s. by_check.told_as set r f (ending.NotText fault) (λ input. byte_of fault ≤ length input) (λ input h. by_check.byte_within_input input fault h.1) e s.checks)
      (λ set s. byte_told fault (by_prune.told_as set r f (ending.NotText fault) (IsTextFault fault) (λ text h. h) e s.prunes)) e)

  pub type_place : (fault : TypeFault) → r ≡ ending.NotTyped fault → ForText words (λ set. IfSome f.left_old (λ text. HasSpan text fault.span)) ⊎ ForLower words (λ set. IfSome f.left_old (λ text. IsPlacedFault text (sketch.NotTyped fault))) ⊎ ForCheck words (λ set. IfSome f.left_old (λ input. checking.IsPlacedFault input (check.Sketch (sketch.NotTyped fault))))
  type_place fault e =
      told_of (ending.NotTyped fault) refl (λ set text. HasSpan text fault.span) (λ set text. IsPlacedFault text (sketch.NotTyped fault)) (λ set input. checking.IsPlacedFault input (check.Sketch (sketch.NotTyped fault)))
      (λ set budget cert s. s.place fault e)
      (λ set job s. s.place fault e)
      (λ set s. by_lower.told_as set r f (ending.NotTyped fault) (λ text. IsPlacedFault text (sketch.NotTyped fault)) (λ text h. h.1) e s.lowers)
      (λ set asked s. by_asking.told_by set asked r f (λ text. HasSpan text fault.span) (by_asking.place_by set asked r f fault e) s.asks)
      (λ set s. by_check.told_as set r f (ending.NotTyped fault) (λ input. checking.IsPlacedFault input (check.Sketch (sketch.NotTyped fault))) (λ input h. h.1) e s.checks)
      (λ set s. by_prune.told_as set r f (ending.NotTyped fault) (λ text. HasSpan text fault.span) (λ text h. h.1) e s.prunes) e

  -- this does not come for a line `lower`
  not_lower : (P C : Set → Type 0) → ForText words P ⊎ ForLower words (λ set. ⊥) ⊎ ForCheck words C → ForText words P ⊎ ForCheck words C
  not_lower P C (inl h) = inl h
  not_lower P C (inr (inl h)) = absurd h.holds
  not_lower P C (inr (inr h)) = inr h

  pub too_large : (reason : SizeFault) → r ≡ ending.TooLarge reason → ForText words (λ set. IfSome f.left_old (λ text. IsTooLarge set text reason)) ⊎ ForCheck words (λ set. IfSome f.left_old (λ input. IsFaultOfCheck set input (check.Sketch (sketch.TooLarge reason))))
  too_large reason e =
      not_lower (λ set. IfSome f.left_old (λ text. IsTooLarge set text reason)) (λ set. IfSome f.left_old (λ input. IsFaultOfCheck set input (check.Sketch (sketch.TooLarge reason))))
      (text_of words r f (ending.TooLarge reason) refl (λ set. IfSome f.left_old (λ text. IsTooLarge set text reason)) (λ set. ⊥) (λ set. IfSome f.left_old (λ input. IsFaultOfCheck set input (check.Sketch (sketch.TooLarge reason))))
      (λ set budget cert s. told_as words r f set budget cert s (ending.TooLarge reason) (λ text. IsTooLarge set text reason) (λ text h. h) e)
      (λ set job s. by_exec.told_by set job r f (λ text. IsTooLarge set text reason) (λ text w. by_exec.too_large_by set job r f reason e text w) s.runs)
      (λ set s. by_lower.lower_not set r f (ending.TooLarge reason) refl s.lowers e)
      (λ set asked s. by_asking.told_as set asked r f (ending.TooLarge reason) (λ text. IsTooLarge set text reason) (λ text h. h) e s.asks)
      (λ set s. by_check.told_as set r f (ending.TooLarge reason) (λ input. IsFaultOfCheck set input (check.Sketch (sketch.TooLarge reason))) (λ input h. h) e s.checks)
      (λ set s. by_prune.told_as set r f (ending.TooLarge reason) (λ text. IsTooLarge set text reason) (λ text h. h) e s.prunes) the e)

  pub too_long : r ≡ ending.TooLong → IfSome f.left_old (λ text. most_bytes < length text)
  too_long e =
      for_each words r f (told_of ending.TooLong refl (λ set text. most_bytes < length text) (λ set text. most_bytes < length text) (λ set text. most_bytes < length text)
      (λ set budget cert s. told_as words r f set budget cert s ending.TooLong (λ text. most_bytes < length text) (λ text h. h) e)
      (λ set job s. by_exec.told_by set job r f (λ text. most_bytes < length text) (λ text w. by_exec.too_long_by set job r f e text w) s.runs)
      (λ set s. by_lower.told_as set r f ending.TooLong (λ text. most_bytes < length text) (λ text h. h) e s.lowers)
      (λ set asked s. by_asking.told_as set asked r f ending.TooLong (λ text. most_bytes < length text) (λ text h. h) e s.asks)
      (λ set s. by_check.told_as set r f ending.TooLong (λ input. most_bytes < length input) (λ input h. by_check.long_within input h) e s.checks)
      (λ set s. by_prune.told_as set r f ending.TooLong (λ text. most_bytes < length text) (λ text h. h) e s.prunes) e)

  pub read_fault : r ≡ ending.ReadFault → Rose f.read_faults_old f.read_faults_new
  read_fault e =
      for_each words r f (text_of words r f ending.ReadFault refl (λ set. Rose f.read_faults_old f.read_faults_new) (λ set. Rose f.read_faults_old f.read_faults_new) (λ set. Rose f.read_faults_old f.read_faults_new)
      (λ set budget cert s. s.read_fault e)
      (λ set job s. by_exec.read_fault_by set job r f s.runs e)
      (λ set s. by_lower.read_fault_by set r f s.lowers e)
      (λ set asked s. by_asking.read_fault_by set asked r f s.asks e)
      (λ set s. by_check.read_fault_by set r f s.checks e)
      (λ set s. by_prune.read_fault_by set r f s.prunes e) the e)

  pub write_fault : r ≡ ending.WriteFault → Rose f.write_faults_old f.write_faults_new
  write_fault = write_fault_of words r f the

  pub prefix : r ≡ ending.WriteFault → IfSome f.left_old (λ text. WritesPart (IsOutput words text) f.held_old f.held_new)
  prefix = prefix_of words r f the

  pub prefix_help : IsLine words line.Help → r ≡ ending.WriteFault → AppendsPrefix help_text f.held_old f.held_new
  prefix_help = prefix_help_of words r f the

  pub prefix_version : IsLine words line.Version → r ≡ ending.WriteFault → AppendsPrefix version_text f.held_old f.held_new
  prefix_version = prefix_version_of words r f the

  pub kept : IsTrue (writes_nothing r) → f.held_new ≡ f.held_old
  kept = kept_of words r f the

  pub few : TakesFew most_input f.left_old f.left_new × (((set : Set) → IsLine words (line.Check set) → ⊥) → TakesFew most_bytes f.left_old f.left_new)
  few = few_of words r f the

  pub unread : ((set : Set) → ReadsSource words set → ⊥) → f.left_new ≡ f.left_old
  unread = unread_of words r f the

  pub ends_no_line : IsNoLine words → EndsNoLine r
  ends_no_line = ends_no_line_of words r f the

  pub ends_help : IsLine words line.Help → EndsHelp r f.write_faults_old f.write_faults_new
  ends_help = ends_help_of words r f the

  pub ends_version : IsLine words line.Version → EndsVersion r f.write_faults_old f.write_faults_new
  ends_version = ends_version_of words r f the

  -- what follows for a line `synth` from what is told of its text; of want of memory that is nothing
  for_search : (P : Set → Budget → Bool → List ℕ → Type 0) → ((set : Set) (budget : Budget) (cert : Bool) → Synthesises set budget cert r f → (text : List ℕ) → IsToldOf set text r f.read_faults_old f.read_faults_new f.write_faults_old f.write_faults_new → P set budget cert text) → ((set : Set) (budget : Budget) (cert : Bool) (text : List ℕ) → r ≡ ending.Memory → P set budget cert text) → (set : Set) (budget : Budget) (cert : Bool) → IsSearch words set budget cert → IfSome f.left_old (P set budget cert)
  for_search P k m = for_synth words r f (λ set budget cert. IfSome f.left_old (P set budget cert)) (λ set budget cert s. mapped f.left_old (λ text. IsToldOf set text r f.read_faults_old f.read_faults_new f.write_faults_old f.write_faults_new) (P set budget cert) (k set budget cert s) s.told) (λ set budget cert e. every f.left_old (P set budget cert) (λ text. m set budget cert text e)) the

  -- what a line `synth` does, or that memory was wanting
  pub of_search : (set : Set) (budget : Budget) (cert : Bool) → IsSearch words set budget cert → Synthesises set budget cert r f ⊎ (r ≡ ending.Memory)
  of_search = for_synth words r f (λ set budget cert. Synthesises set budget cert r f ⊎ (r ≡ ending.Memory)) (λ set budget cert s. inl s) (λ set budget cert m. inr m) the

  -- whatever its budgets are
  for_text : (P : Set → List ℕ → Type 0) → ((set : Set) (text : List ℕ) → IsToldOf set text r f.read_faults_old f.read_faults_new f.write_faults_old f.write_faults_new → P set text) → (set : Set) → IsSynth words set → IfSome f.left_old (P set)
  for_text P k set h = for_search (λ s budget cert text. P s text) (λ s budget cert called text told. k s text told) (λ s budget cert text m. k s text (subst (λ x. IsToldOf s text x f.read_faults_old f.read_faults_new f.write_faults_old f.write_faults_new) (sym m) tt)) set h.budget h.cert h.is

  -- the same for a line that runs a function
  for_exec_text : (P : Set → Job → List ℕ → Type 0) → ((set : Set) (job : Job) (text : List ℕ) → by_exec.Came set job r f text → P set job text) → (set : Set) (job : Job) → IsJob words set job → IfSome f.left_old (P set job)
  for_exec_text P k = for_exec words r f (λ set job. IfSome f.left_old (P set job)) (λ set job s. by_exec.told_by set job r f (P set job) (k set job) s.runs) (λ set job m. every f.left_old (P set job) (λ text. k set job text (came_wanting m))) the

  -- and for a line `all` or `why`
  for_asking_text : (P : Set → Question → List ℕ → Type 0) → ((set : Set) (asked : Question) (text : List ℕ) → by_asking.Came set asked r f text → P set asked text) → (set : Set) (asked : Question) → IsLine words (line_asking set asked) → IfSome f.left_old (P set asked)
  for_asking_text P k = for_asking words r f (λ set asked. IfSome f.left_old (P set asked)) (λ set asked s. by_asking.told_by set asked r f (P set asked) (k set asked) s.asks) (λ set asked m. every f.left_old (P set asked) (λ text. k set asked text (came_wanting m))) the

  -- from what is told of its text
  for_asking_told : (P : Set → List ℕ → Type 0) → ((set : Set) (text : List ℕ) → IsToldOf set text r f.read_faults_old f.read_faults_new f.write_faults_old f.write_faults_new → P set text) → (set : Set) (asked : Question) → IsLine words (line_asking set asked) → IfSome f.left_old (P set)
  for_asking_told P k = for_asking_text (λ set asked. P set) (λ set asked text came. k set text (by_asking.told set asked r f text came))

  -- so for each line that takes a text whose runs, too, are within their limits
  for_sizes : (P : Set → List ℕ → Type 0) → ((set : Set) (text : List ℕ) → IsToldOf set text r f.read_faults_old f.read_faults_new f.write_faults_old f.write_faults_new → P set text) → (set : Set) → SizesText words set → IfSome f.left_old (P set)
  for_sizes P k set (sizes_synth h) = for_text P k set h
  for_sizes P k set (sizes_all most h) = for_asking_told P k set (question.Which most) h
  for_sizes P k set (sizes_why h) = for_asking_told P k set question.Why h

  -- and for each line that takes a text as it is
  for_taking : (P : Set → List ℕ → Type 0) → ((set : Set) (text : List ℕ) → IsToldOf set text r f.read_faults_old f.read_faults_new f.write_faults_old f.write_faults_new → P set text) → ((set : Set) (job : Job) → IsJob words set job → IfSome f.left_old (P set)) → ((set : Set) → IsLine words (line.Prune set) → IfSome f.left_old (P set)) → (set : Set) → TakesText words set → IfSome f.left_old (P set)
  for_taking P k l n set (takes_synth h) = for_text P k set h
  for_taking P k l n set (takes_job job h) = l set job h
  for_taking P k l n set (takes_prune h) = n set h
  for_taking P k l n set (takes_all most h) = for_asking_told P k set (question.Which most) h
  for_taking P k l n set (takes_why h) = for_asking_told P k set question.Why h

  -- and for a line `lower`
  for_lowering : (P : Set → List ℕ → Type 0) → ((set : Set) (text : List ℕ) → by_lower.Came set r f text → P set text) → (set : Set) → IsLine words (line.Lower set) → IfSome f.left_old (P set)
  for_lowering P k = for_lower words r f (λ set. IfSome f.left_old (P set)) (λ set s. by_lower.told_by set r f (P set) (k set) s.lowers) (λ set m. every f.left_old (P set) (λ text. k set text (came_wanting m))) the

  -- and for a line `prune`
  for_pruning : (P : Set → List ℕ → Type 0) → ((set : Set) (text : List ℕ) → by_prune.Came set r f text → P set text) → (set : Set) → IsLine words (line.Prune set) → IfSome f.left_old (P set)
  for_pruning P k = for_prune words r f (λ set. IfSome f.left_old (P set)) (λ set s. by_prune.told_by set r f (P set) (k set) s.prunes) (λ set m. every f.left_old (P set) (λ text. k set text (came_wanting m))) the

  -- a budget that is spent is not 0
  allowed : (set : Set) (budget : Budget) (cert : Bool) → Synthesises set budget cert r f → (x : Ending) → r ≡ x → by.IsAllowed budget x
  allowed set budget cert s (ending.SpentRounds pairs best) e = (s.rounds pairs best e).0.some
  allowed set budget cert s (ending.SpentConflicts pairs q formula log best) e = (s.conflicts pairs q formula log best e).0.some
  allowed set budget cert s ending.Completed e = tt
  allowed set budget cert s (ending.NoCompletion pairs) e = tt
  allowed set budget cert s ending.HelpShown e = tt
  allowed set budget cert s ending.Accepted e = tt
  allowed set budget cert s (ending.Rejected why) e = tt
  allowed set budget cert s (ending.NotCertificate why) e = tt
  allowed set budget cert s ending.VersionShown e = tt
  allowed set budget cert s ending.NotALine e = tt
  allowed set budget cert s ending.ExecDone e = tt
  allowed set budget cert s (ending.ExecFailed span) e = tt
  allowed set budget cert s (ending.ExecSkipped span) e = tt
  allowed set budget cert s (ending.NotText fault) e = tt
  allowed set budget cert s (ending.NotTyped fault) e = tt
  allowed set budget cert s (ending.TooLarge reason) e = tt
  allowed set budget cert s (ending.NotRun reason) e = tt
  allowed set budget cert s (ending.NotFilled reason) e = tt
  allowed set budget cert s ending.Lowered e = tt
  allowed set budget cert s ending.Pruned e = tt
  allowed set budget cert s ending.Listed e = absurd (synth_not words r f set budget cert ending.Listed s refl e)
  allowed set budget cert s ending.Explained e = absurd (synth_not words r f set budget cert ending.Explained s refl e)
  allowed set budget cert s ending.Met e = absurd (synth_not words r f set budget cert ending.Met s refl e)
  allowed set budget cert s (ending.NotLowered reason) e = tt
  allowed set budget cert s (ending.NotTagged span) e = tt
  allowed set budget cert s ending.ReadFault e = tt
  allowed set budget cert s ending.WriteFault e = tt
  allowed set budget cert s ending.TooLong e = tt
  allowed set budget cert s ending.Memory e = tt

  abbrev Built : Set → Budget → List ℕ → Type 0
  Built set budget text = (bounds : Bounds) (e : Expanded) → IsBuilt set text bounds e → EndsBuilt budget r f.read_faults_old f.read_faults_new f.write_faults_old f.write_faults_new

  pub ends_built : (set : Set) (budget : Budget) (cert : Bool) → IsSearch words set budget cert → IfSome f.left_old (λ text. (bounds : Bounds) (e : Expanded) → IsBuilt set text bounds e → EndsBuilt budget r f.read_faults_old f.read_faults_new f.write_faults_old f.write_faults_new)
  ends_built =
      for_search (λ set budget cert. Built set budget)
      (λ set budget cert s text told. by.ends_built set text f.read_faults_old f.read_faults_new f.write_faults_old f.write_faults_new budget r (allowed set budget cert s r refl) told)
      (λ set budget cert text m bounds e is. subst (λ x. EndsBuilt budget x f.read_faults_old f.read_faults_new f.write_faults_old f.write_faults_new) (sym m) tt)

  pub ends_faulty : (set : Set) → TakesText words set → IfSome f.left_old (λ text. length text ≤ most_bytes → (fault : TextFault) → IsTextFault fault text → EndsFaulty fault r f.read_faults_old f.read_faults_new)
  ends_faulty =
      for_taking (λ set text. length text ≤ most_bytes → (fault : TextFault) → IsTextFault fault text → EndsFaulty fault r f.read_faults_old f.read_faults_new)
      (λ set text. by.ends_faulty set text f.read_faults_old f.read_faults_new f.write_faults_old f.write_faults_new r)
      (for_exec_text (λ set job text. length text ≤ most_bytes → (fault : TextFault) → IsTextFault fault text → EndsFaulty fault r f.read_faults_old f.read_faults_new) (λ set job text w. by_exec.ends_faulty_by set job r f text w))
      (for_pruning (λ set text. length text ≤ most_bytes → (fault : TextFault) → IsTextFault fault text → EndsFaulty fault r f.read_faults_old f.read_faults_new) (λ set text w. by_prune.ends_faulty_by set r f text w))

  pub ends_untyped : (set : Set) → TakesText words set → IfSome f.left_old (λ text. length text ≤ most_bytes → IsUntyped set text → EndsUntyped r f.read_faults_old f.read_faults_new)
  ends_untyped =
      for_taking (λ set text. length text ≤ most_bytes → IsUntyped set text → EndsUntyped r f.read_faults_old f.read_faults_new)
      (λ set text. by.ends_untyped set text f.read_faults_old f.read_faults_new f.write_faults_old f.write_faults_new r)
      (for_exec_text (λ set job text. length text ≤ most_bytes → IsUntyped set text → EndsUntyped r f.read_faults_old f.read_faults_new) (λ set job text w. by_exec.ends_untyped_by set job r f by.some_fault text w))
      (for_pruning (λ set text. length text ≤ most_bytes → IsUntyped set text → EndsUntyped r f.read_faults_old f.read_faults_new) (λ set text w. by_prune.ends_untyped_by set r f by.some_fault text w))

  pub ends_large : (set : Set) → SizesText words set → IfSome f.left_old (λ text. (reason : SizeFault) → IsTooLarge set text reason → EndsLarge reason r f.read_faults_old f.read_faults_new)
  ends_large = for_sizes (λ set text. (reason : SizeFault) → IsTooLarge set text reason → EndsLarge reason r f.read_faults_old f.read_faults_new) (λ set text. by.ends_large set text f.read_faults_old f.read_faults_new f.write_faults_old f.write_faults_new r)

  pub ends_copies : (set : Set) → TakesText words set → IfSome f.left_old (λ text. (reason : SizeFault) → IsTrue (is_of_expansion reason) → IsTooLarge set text reason → EndsLarge reason r f.read_faults_old f.read_faults_new)
  ends_copies =
      for_taking (λ set text. (reason : SizeFault) → IsTrue (is_of_expansion reason) → IsTooLarge set text reason → EndsLarge reason r f.read_faults_old f.read_faults_new)
      (λ set text told reason b is. by.ends_large set text f.read_faults_old f.read_faults_new f.write_faults_old f.write_faults_new r told reason is)
      (for_exec_text (λ set job text. (reason : SizeFault) → IsTrue (is_of_expansion reason) → IsTooLarge set text reason → EndsLarge reason r f.read_faults_old f.read_faults_new) (λ set job text w. by_exec.ends_copies_by set job r f text w))
      (for_pruning (λ set text. (reason : SizeFault) → IsTrue (is_of_expansion reason) → IsTooLarge set text reason → EndsLarge reason r f.read_faults_old f.read_faults_new) (λ set text w. by_prune.ends_copies_by set r f text w))

  pub ends_run : (set : Set) (job : Job) → IsJob words set job → IfSome f.left_old (λ text. (outcome : Outcome) (out : List ℕ) → IsRunOfJob set job text outcome out → EndsRun outcome r f.read_faults_old f.read_faults_new f.write_faults_old f.write_faults_new)
  ends_run = for_exec_text (λ set job text. (outcome : Outcome) (out : List ℕ) → IsRunOfJob set job text outcome out → EndsRun outcome r f.read_faults_old f.read_faults_new f.write_faults_old f.write_faults_new) (λ set job text w. by_exec.ends_run_by set job r f text w)

  pub ends_not_run : (set : Set) (job : Job) → IsJob words set job → IfSome f.left_old (λ text. (told : TraceFault) → IsStopped set job text told → EndsStopped told r f.read_faults_old f.read_faults_new)
  ends_not_run = for_exec_text (λ set job text. (told : TraceFault) → IsStopped set job text told → EndsStopped told r f.read_faults_old f.read_faults_new) (λ set job text w. by_exec.ends_not_run_by set job r f text w)

  pub ends_lowered : (set : Set) → IsLine words (line.Lower set) → IfSome f.left_old (λ text. (out : List ℕ) → IsLoweredText set text out → EndsLowered r f.read_faults_old f.read_faults_new f.write_faults_old f.write_faults_new)
  ends_lowered = for_lowering (λ set text. (out : List ℕ) → IsLoweredText set text out → EndsLowered r f.read_faults_old f.read_faults_new f.write_faults_old f.write_faults_new) (λ set text w. by_lower.ends_lowered_by set r f text w)

  pub ends_not_lowered : (set : Set) → IsLine words (line.Lower set) → IfSome f.left_old (λ text. (told : AdtFault) → HasNoPlainForm text told → EndsNotLowered told r f.read_faults_old f.read_faults_new)
  ends_not_lowered = for_lowering (λ set text. (told : AdtFault) → HasNoPlainForm text told → EndsNotLowered told r f.read_faults_old f.read_faults_new) (λ set text w. by_lower.ends_not_lowered_by set r f text w)

  pub ends_not_tagged : (set : Set) → IsLine words (line.Lower set) → IfSome f.left_old (λ text. (span : Span) → IsNotTagged set text span → EndsNotTagged span r f.read_faults_old f.read_faults_new)
  ends_not_tagged = for_lowering (λ set text. (span : Span) → IsNotTagged set text span → EndsNotTagged span r f.read_faults_old f.read_faults_new) (λ set text w. by_lower.ends_not_tagged_by set r f text w)

  pub ends_refused : (set : Set) → IsLine words (line.Lower set) → IfSome f.left_old (λ text. length text ≤ most_bytes → (told : SketchFault) → IsCause (IsFaultOfLowering set text) told → EndsRefused told r f.read_faults_old f.read_faults_new)
  ends_refused = for_lowering (λ set text. length text ≤ most_bytes → (told : SketchFault) → IsCause (IsFaultOfLowering set text) told → EndsRefused told r f.read_faults_old f.read_faults_new) (λ set text w. by_lower.ends_refused_by set r f text w)

  pub ends_pruned : (set : Set) → IsLine words (line.Prune set) → IfSome f.left_old (λ text. (out : List ℕ) → IsPrunedText set text out → EndsPruned r f.read_faults_old f.read_faults_new f.write_faults_old f.write_faults_new)
  ends_pruned = for_pruning (λ set text. (out : List ℕ) → IsPrunedText set text out → EndsPruned r f.read_faults_old f.read_faults_new f.write_faults_old f.write_faults_new) (λ set text w. by_prune.ends_pruned_by set r f text w)

  pub ends_open : (set : Set) → IsLine words (line.Prune set) → IfSome f.left_old (λ text. IsOpenText set text → EndsOpen r f.read_faults_old f.read_faults_new)
  ends_open = for_pruning (λ set text. IsOpenText set text → EndsOpen r f.read_faults_old f.read_faults_new) (λ set text w. by_prune.ends_open_by set r f text w)

  -- a text that is taken, and whose question has this reply alone, ends with it
  abbrev EndsOnly : Reply → Set → Question → List ℕ → Type 0
  EndsOnly wanted set asked text = (bounds : Bounds) (e : Expanded) → IsBuilt set text bounds e → ((reply : Reply) (out : List ℕ) → IsReply set asked text reply out → reply ≡ wanted) → EndsReply wanted r f.read_faults_old f.read_faults_new f.write_faults_old f.write_faults_new

  ends_only : (wanted : Reply) (set : Set) (asked : Question) → IsLine words (line_asking set asked) → IfSome f.left_old (EndsOnly wanted set asked)
  ends_only wanted = for_asking_text (EndsOnly wanted) (λ set asked text came bounds e is only. by_asking.ends_with set asked r f wanted text came bounds e is only)

  pub ends_listed : (set : Set) (most : ℕ) → IsLine words (line.All set most) → IfSome f.left_old (λ text. (bounds : Bounds) (e : Expanded) → IsBuilt set text bounds e → EndsListed r f.read_faults_old f.read_faults_new f.write_faults_old f.write_faults_new)
  ends_listed set most h =
      mapped f.left_old (EndsOnly OfList set (question.Which most)) (λ text. (bounds : Bounds) (e : Expanded) → IsBuilt set text bounds e → EndsListed r f.read_faults_old f.read_faults_new f.write_faults_old f.write_faults_new)
      (λ text k bounds e is. k bounds e is (by_asking.only_list set most text))
      (ends_only OfList set (question.Which most) h)

  pub ends_explained : (set : Set) → IsLine words (line.Why set) → IfSome f.left_old (λ text. (bounds : Bounds) (e : Expanded) → IsBuilt set text bounds e → ((a : Choice) → Meeting e bounds a → ⊥) → EndsExplained r f.read_faults_old f.read_faults_new f.write_faults_old f.write_faults_new)
  ends_explained set h =
      mapped f.left_old (EndsOnly OfReasons set question.Why) (λ text. (bounds : Bounds) (e : Expanded) → IsBuilt set text bounds e → ((a : Choice) → Meeting e bounds a → ⊥) → EndsExplained r f.read_faults_old f.read_faults_new f.write_faults_old f.write_faults_new)
      (λ text k bounds e is none. k bounds e is (by_asking.only_reasons set text bounds e is none))
      (ends_only OfReasons set question.Why h)

  pub ends_met : (set : Set) → IsLine words (line.Why set) → IfSome f.left_old (λ text. (bounds : Bounds) (e : Expanded) → IsBuilt set text bounds e → (a : Choice) → Meeting e bounds a → EndsMet r f.read_faults_old f.read_faults_new f.write_faults_old f.write_faults_new)
  ends_met set h =
      mapped f.left_old (EndsOnly OfCompletion set question.Why) (λ text. (bounds : Bounds) (e : Expanded) → IsBuilt set text bounds e → (a : Choice) → Meeting e bounds a → EndsMet r f.read_faults_old f.read_faults_new f.write_faults_old f.write_faults_new)
      (λ text k bounds e is a meeting. k bounds e is (by_asking.only_completion set text bounds e is a meeting))
      (ends_only OfCompletion set question.Why h)

  -- what a line `all` or `why` does, or that memory was wanting
  pub of_asking : (set : Set) (asked : Question) → IsLine words (line_asking set asked) → Asks set asked r f ⊎ (r ≡ ending.Memory)
  of_asking = for_asking words r f (λ set asked. Asks set asked r f ⊎ (r ≡ ending.Memory)) (λ set asked s. inl s) (λ set asked m. inr m) the

  abbrev Long : Set → List ℕ → Type 0
  Long set text = most_bytes < length text → EndsLong r f.read_faults_old f.read_faults_new

  -- of a line that takes the text as it is
  ends_long_taken : (set : Set) → TakesText words set → IfSome f.left_old (Long set)
  ends_long_taken =
      for_taking Long
      (λ set text. by.ends_long set text f.read_faults_old f.read_faults_new f.write_faults_old f.write_faults_new r)
      (for_exec_text (λ set job. Long set) (λ set job text w. by_exec.ends_long_by set job r f text w))
      (for_pruning Long (λ set text w. by_prune.ends_long_by set r f text w))

  pub ends_long : (set : Set) → ReadsText words set → IfSome f.left_old (λ text. most_bytes < length text → EndsLong r f.read_faults_old f.read_faults_new)
  ends_long set (inl h) = ends_long_taken set h
  ends_long set (inr h) = for_lowering Long (λ s text w. by_lower.ends_long_by s r f text w) set h

  -- A line `check`

  for_checked : (P : Set → List ℕ → Type 0) → ((set : Set) (input : List ℕ) → by_check.Came set r f input → P set input) → (set : Set) → IsLine words (line.Check set) → IfSome f.left_old (P set)
  for_checked P k = for_check words r f (λ set. IfSome f.left_old (P set)) (λ set s. by_check.told_by set r f (P set) (k set) s.checks) (λ set m. every f.left_old (P set) (λ input. k set input (came_wanting m))) the

  -- what is told of the input by an ending of its own
  told_of_check : (x : Ending) → is_check_alone words r f x ≡ true → is_of_synth x ≡ false → by_exec.is_of_exec x ≡ false → by_lower.is_of_lower x ≡ false → by_asking.is_of_question x ≡ false → (P : Set → List ℕ → Type 0) → ((set : Set) (input : List ℕ) → by_check.Tells set r f input x → P set input) → r ≡ x → ForCheck words (λ set. IfSome f.left_old (P set))
  told_of_check x a b c d o P k e =
      let s = check_of words r f x a b c d o the e in
      record { set = s.set; is = s.is; holds = by_check.told_as s.set r f x (P s.set) (k s.set) e (s.holds).checks }

  pub accepted : r ≡ ending.Accepted → ForCheck words (λ set. IfSome f.left_old (λ input. TakesSketch set input IsAccepted × Appends accepted_text f.held_old f.held_new))
  accepted = told_of_check ending.Accepted refl refl refl refl refl (λ set input. TakesSketch set input IsAccepted × Appends accepted_text f.held_old f.held_new) (λ set input h. h)

  pub rejected : (why : Reason) → r ≡ ending.Rejected why → ForCheck words (λ set. IfSome f.left_old (λ input. TakesSketch set input (IsRejectedFor why) × Appends (rejected_text (told_reason why)) f.held_old f.held_new))
  rejected why = told_of_check (ending.Rejected why) refl refl refl refl refl (λ set input. TakesSketch set input (IsRejectedFor why) × Appends (rejected_text (told_reason why)) f.held_old f.held_new) (λ set input h. h)

  pub not_certificate : (why : CertFault) → r ≡ ending.NotCertificate why → ForCheck words (λ set. IfSome f.left_old (λ input. TakesSketch set input (checking.IsNone why)))
  not_certificate why = told_of_check (ending.NotCertificate why) refl refl refl refl refl (λ set input. TakesSketch set input (checking.IsNone why)) (λ set input h. h)

  pub long_input : (set : Set) → IsLine words (line.Check set) → r ≡ ending.TooLong → IfSome f.left_old IsTooLongInput
  long_input set h e =
      mapped f.left_old (λ input. r ≡ ending.TooLong → IsTooLongInput input) IsTooLongInput (λ input k. k e)
      (for_checked (λ s input. r ≡ ending.TooLong → IsTooLongInput input) (λ s input came. by_check.long_by s r f input came) set h)

  pub ends_checked : (set : Set) → IsLine words (line.Check set) → IfSome f.left_old (λ input. length input ≤ most_input → TakesSketch set input IsSomeCertificate → EndsChecked r f.read_faults_old f.read_faults_new f.write_faults_old f.write_faults_new)
  ends_checked = for_checked (λ set input. length input ≤ most_input → TakesSketch set input IsSomeCertificate → EndsChecked r f.read_faults_old f.read_faults_new f.write_faults_old f.write_faults_new) (λ set input came. by_check.ends_checked_by set r f input came)

  pub ends_accepted : (set : Set) → IsLine words (line.Check set) → IfSome f.left_old (λ input. length input ≤ most_input → TakesSketch set input IsAccepted → EndsAccepted r f.read_faults_old f.read_faults_new f.write_faults_old f.write_faults_new)
  ends_accepted = for_checked (λ set input. length input ≤ most_input → TakesSketch set input IsAccepted → EndsAccepted r f.read_faults_old f.read_faults_new f.write_faults_old f.write_faults_new) (λ set input came. by_check.ends_accepted_by set r f input came)

  pub ends_rejected : (set : Set) → IsLine words (line.Check set) → IfSome f.left_old (λ input. length input ≤ most_input → (why : Reason) → part_number why < 6 → TakesSketch set input (IsRejectedFor why) → EndsRejected why r f.read_faults_old f.read_faults_new f.write_faults_old f.write_faults_new)
  ends_rejected = for_checked (λ set input. length input ≤ most_input → (why : Reason) → part_number why < 6 → TakesSketch set input (IsRejectedFor why) → EndsRejected why r f.read_faults_old f.read_faults_new f.write_faults_old f.write_faults_new) (λ set input came. by_check.ends_rejected_by set r f input came)

  pub ends_not_certificate : (set : Set) → IsLine words (line.Check set) → IfSome f.left_old (λ input. length input ≤ most_input → (why : CertFault) → TakesSketch set input (checking.IsNone why) → EndsNotCertificate why r f.read_faults_old f.read_faults_new)
  ends_not_certificate = for_checked (λ set input. length input ≤ most_input → (why : CertFault) → TakesSketch set input (checking.IsNone why) → EndsNotCertificate why r f.read_faults_old f.read_faults_new) (λ set input came. by_check.ends_not_certificate_by set r f input came)

  pub ends_long_input : (set : Set) → IsLine words (line.Check set) → IfSome f.left_old (λ input. IsTooLongInput input → EndsLong r f.read_faults_old f.read_faults_new)
  ends_long_input = for_checked (λ set input. IsTooLongInput input → EndsLong r f.read_faults_old f.read_faults_new) (λ set input came. by_check.ends_long_by set r f input came)

  pub ends_refused_input : (set : Set) → IsLine words (line.Check set) → IfSome f.left_old (λ input. length input ≤ most_input → (told : CheckFault) → checking.IsCause set input told → EndsRefusedInput told r f.read_faults_old f.read_faults_new)
  ends_refused_input = for_checked (λ set input. length input ≤ most_input → (told : CheckFault) → checking.IsCause set input told → EndsRefusedInput told r f.read_faults_old f.read_faults_new) (λ set input came. by_check.ends_refused_by set r f input came)
