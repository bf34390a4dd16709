-- Of each job and text one thing holds: a function is run, or one reason why none is, or one cause why the text has no
-- expansion; and which lines ask for jobs.
use Rattle.std.proofs.Common.{◌≡◌, ℕ, ◌≤◌, length, Bool, true, false, List, Option, refl, sym, ap, ◌∙◌}
use Rattle.std.proofs.lemmas.Bool.{false≢true}
use Rattle.sk_model.specs.declared.outcome.Outcome.{Outcome}
use Rattle.sk_opts.specs.declared.line.Set.{Set}
use Rattle.sk_opts.specs.declared.line.Line.{Line}
use Rattle.sk_opts.specs.declared.line.Line.TheVariants as line
use Rattle.sk_front.specs.declared.fault.SketchFault.{SketchFault}
use Rattle.sk_front.specs.Texts.{most_bytes}
use Rattle.sk_front.specs.Front.{IsFaultOfExpansion, IsCause}
use Rattle.sk_exec.proofs.TextLaws.{one_fault_of_text, no_fault_of_text_run, one_text_run, no_cause_of_run, no_cause_of_fault}
use Rattle.sk_exec.specs.declared.executing.Executed.{Executed}
use Rattle.sk_exec.specs.declared.executing.Executed.TheVariants as executed
use Rattle.sk_exec.specs.Direct.{IsExecuted}
use Rattle.sk_trace_text.specs.declared.fault.TraceFault.{TraceFault}
use Rattle.sk_trace_text.specs.declared.fault.TraceFault.TheVariants as fault
use Rattle.sk_trace_text.specs.declared.tracing.Traced.{Traced}
use Rattle.sk_trace_text.specs.declared.tracing.Traced.TheVariants as traced
use Rattle.sk_trace_text.specs.Traced.{IsTraced}
use Rattle.sk_trace_text.proofs.TextLaws as trace
use Rattle.sk_app.specs.declared.direct.Way.{Way}
use Rattle.sk_app.specs.declared.direct.Way.TheVariants as way
use Rattle.sk_app.specs.declared.direct.Job.{Job}
use Rattle.sk_app.specs.Jobs.{IsStoppedBy, IsStopped, IsRunBy, IsRunOfJob, IsDone, as_traced}
use Rattle.sk_app.specs.declared.listing.Question.{Question}
use Rattle.sk_app.specs.declared.listing.Question.TheVariants as question
use Rattle.sk_app.specs.Lines.{line_by, line_of, line_asking}

-- Answers

module _ (w : Way) (set : Set) (name : List ℕ) (values : List (List ℕ)) (text : List ℕ) where
  abbrev Stopped : TraceFault → Type 0
  Stopped = IsStoppedBy w set name values text

  abbrev Ran : Outcome → List ℕ → Type 0
  Ran = IsRunBy w set name values text

-- one reason at most
one_stop_by : (w : Way) (set : Set) (name : List ℕ) (values : List (List ℕ)) (text : List ℕ) (a b : TraceFault) → Stopped w set name values text a → Stopped w set name values text b → a ≡ b
one_stop_by way.Exec set name values text (fault.NotRun a) (fault.NotRun b) x y = ap fault.NotRun (one_fault_of_text set name values text a b x y)
one_stop_by way.Exec set name values text (fault.NotFilled a) b x y = absurd x
one_stop_by way.Exec set name values text a (fault.NotFilled b) x y = absurd y
one_stop_by (way.Trace holes) set name values text a b x y = trace.one_fault_of_text set holes name values text a b x y

no_stop_by : (w : Way) (set : Set) (name : List ℕ) (values : List (List ℕ)) (text : List ℕ) (a : TraceFault) (o : Outcome) (out : List ℕ) → Stopped w set name values text a → Ran w set name values text o out → ⊥
no_stop_by way.Exec set name values text (fault.NotRun a) o out x y = no_fault_of_text_run set name values text a o out x y
no_stop_by way.Exec set name values text (fault.NotFilled a) o out x y = x
no_stop_by (way.Trace holes) set name values text a o out x y = trace.no_fault_of_text_trace set holes name values text a o out x y

one_run_by : (w : Way) (set : Set) (name : List ℕ) (values : List (List ℕ)) (text : List ℕ) (o p : Outcome) (out other : List ℕ) → Ran w set name values text o out → Ran w set name values text p other → (o ≡ p) × (out ≡ other)
one_run_by way.Exec set name values text = one_text_run set name values text
one_run_by (way.Trace holes) set name values text = trace.one_text_trace set holes name values text

no_cause_of_run_by : (w : Way) (set : Set) (name : List ℕ) (values : List (List ℕ)) (text : List ℕ) (o : Outcome) (out : List ℕ) (told : SketchFault) → Ran w set name values text o out → IsCause (IsFaultOfExpansion set text) told → ⊥
no_cause_of_run_by way.Exec set name values text = no_cause_of_run set name values text
no_cause_of_run_by (way.Trace holes) set name values text = trace.no_cause_of_trace set holes name values text

no_cause_of_stop_by : (w : Way) (set : Set) (name : List ℕ) (values : List (List ℕ)) (text : List ℕ) (a : TraceFault) (told : SketchFault) → Stopped w set name values text a → IsCause (IsFaultOfExpansion set text) told → ⊥
no_cause_of_stop_by way.Exec set name values text (fault.NotRun a) told x y = no_cause_of_fault set name values text a told x y
no_cause_of_stop_by way.Exec set name values text (fault.NotFilled a) told x y = x
no_cause_of_stop_by (way.Trace holes) set name values text a told x y = trace.no_cause_of_fault set holes name values text a told x y

-- a text of which this holds is short enough

run_is_short_by : (w : Way) (set : Set) (name : List ℕ) (values : List (List ℕ)) (text : List ℕ) (o : Outcome) (out : List ℕ) → Ran w set name values text o out → length text ≤ most_bytes
run_is_short_by way.Exec set name values text o out is = is.expanded.typed.short
run_is_short_by (way.Trace holes) set name values text o out is = is.expanded.typed.short

stop_is_short_by : (w : Way) (set : Set) (name : List ℕ) (values : List (List ℕ)) (text : List ℕ) (a : TraceFault) → Stopped w set name values text a → length text ≤ most_bytes
stop_is_short_by way.Exec set name values text (fault.NotRun a) is = is.expanded.typed.short
stop_is_short_by way.Exec set name values text (fault.NotFilled a) is = absurd is
stop_is_short_by (way.Trace holes) set name values text a is = is.expanded.typed.short

module _ (set : Set) (job : Job) (text : List ℕ) where
  pub run_is_short : (o : Outcome) (out : List ℕ) → IsRunOfJob set job text o out → length text ≤ most_bytes
  run_is_short = run_is_short_by job.way set job.name job.values text

  pub stop_is_short : (a : TraceFault) → IsStopped set job text a → length text ≤ most_bytes
  stop_is_short = stop_is_short_by job.way set job.name job.values text

  pub one_stop : (a b : TraceFault) → IsStopped set job text a → IsStopped set job text b → a ≡ b
  one_stop = one_stop_by job.way set job.name job.values text

  pub no_stop_of_run : (a : TraceFault) (o : Outcome) (out : List ℕ) → IsStopped set job text a → IsRunOfJob set job text o out → ⊥
  no_stop_of_run = no_stop_by job.way set job.name job.values text

  pub one_run : (o p : Outcome) (out other : List ℕ) → IsRunOfJob set job text o out → IsRunOfJob set job text p other → (o ≡ p) × (out ≡ other)
  one_run = one_run_by job.way set job.name job.values text

  pub no_cause_of_job : (o : Outcome) (out : List ℕ) (told : SketchFault) → IsRunOfJob set job text o out → IsCause (IsFaultOfExpansion set text) told → ⊥
  no_cause_of_job = no_cause_of_run_by job.way set job.name job.values text

  pub no_cause_of_stop : (a : TraceFault) (told : SketchFault) → IsStopped set job text a → IsCause (IsFaultOfExpansion set text) told → ⊥
  no_cause_of_stop = no_cause_of_stop_by job.way set job.name job.values text

  -- what a line comes to is what its job comes to

  pub executed_done : (x : Executed) → job.way ≡ way.Exec → IsExecuted set job.name job.values text x → IsDone set job text (as_traced x)
  executed_done (executed.NotRun reason) is h = rw is h
  executed_done (executed.Run outcome out) is h = rw is h

  pub traced_done : (holes : Option (List ℕ)) (x : Traced) → job.way ≡ way.Trace holes → IsTraced set holes job.name job.values text x → IsDone set job text x
  traced_done holes (traced.NotTraced reason) is h = rw is h
  traced_done holes (traced.Run outcome out) is h = rw is h

-- Lines

-- whether a line asks for a job
abbrev pub runs_function : Line → Bool
runs_function (line.Exec set name values) = true
runs_function (line.Trace set name values holes) = true
runs_function _ = false

runs_by : (w : Way) (set : Set) (name : List ℕ) (values : List (List ℕ)) → runs_function (line_by w set name values) ≡ true
runs_by way.Exec set name values = refl
runs_by (way.Trace holes) set name values = refl

-- a line that asks for none is not that of a job
pub not_of_job : {A : Type 0} (l : Line) (set : Set) (job : Job) → runs_function l ≡ false → l ≡ line_of set job → A
not_of_job l set job none is = absurd (false≢true (sym none ∙ ap runs_function is ∙ runs_by job.way set job.name job.values))

pub record Same (s t : Set) (a b : Job) : Type 0 where
  pub sets : s ≡ t
  pub jobs : a ≡ b

same_jobs : (v w : Way) (s t : Set) (n m : List ℕ) (vs us : List (List ℕ)) → line_by v s n vs ≡ line_by w t m us → Same s t (record { name = n; values = vs; way = v }) (record { name = m; values = us; way = w })
same_jobs way.Exec way.Exec s t n m vs us is =
    let sets : s ≡ t = cc in
    let names : n ≡ m = cc in
    let words : vs ≡ us = cc in
    record { sets = sets; jobs = λ i. record { name = names i; values = words i; way = way.Exec } }
same_jobs way.Exec (way.Trace ws) s t n m vs us is = cc
same_jobs (way.Trace hs) way.Exec s t n m vs us is = cc
same_jobs (way.Trace hs) (way.Trace ws) s t n m vs us is =
    let sets : s ≡ t = cc in
    let names : n ≡ m = cc in
    let words : vs ≡ us = cc in
    let holes : hs ≡ ws = cc in
    record { sets = sets; jobs = λ i. record { name = names i; values = words i; way = way.Trace (holes i) } }

-- lines of jobs are of one job
pub one_job : (s t : Set) (a b : Job) → line_of s a ≡ line_of t b → Same s t a b
one_job s t a b is = same_jobs a.way b.way s t a.name b.name a.values b.values is

-- whether a line asks about completions
abbrev pub asks_question : Line → Bool
asks_question (line.All set most) = true
asks_question (line.Why set) = true
asks_question _ = false

asks_by : (set : Set) (q : Question) → asks_question (line_asking set q) ≡ true
asks_by set (question.Which most) = refl
asks_by set question.Why = refl

-- a line that does not is not one that asks this
pub not_asking : {A : Type 0} (l : Line) (set : Set) (q : Question) → asks_question l ≡ false → l ≡ line_asking set q → A
not_asking l set q none is = absurd (false≢true (sym none ∙ ap asks_question is ∙ asks_by set q))

runs_none : (set : Set) (q : Question) → runs_function (line_asking set q) ≡ false
runs_none set (question.Which most) = refl
runs_none set question.Why = refl

-- a line of a job does not
pub job_or_question : {A : Type 0} (set : Set) (job : Job) (t : Set) (q : Question) → line_of set job ≡ line_asking t q → A
job_or_question set job t q is = not_of_job (line_asking t q) set job (runs_none t q) (sym is)

-- lines that ask about completions ask one question
pub one_question : (s t : Set) (p q : Question) → line_asking s p ≡ line_asking t q → (s ≡ t) × (p ≡ q)
one_question s t (question.Which n) (question.Which m) is =
    let sets : s ≡ t = cc in
    let numbers : n ≡ m = cc in
    (sets, ap question.Which numbers)
one_question s t (question.Which n) question.Why is = cc
one_question s t question.Why (question.Which m) is = cc
one_question s t question.Why question.Why is =
    let sets : s ≡ t = cc in
    (sets, refl)
