-- What a job comes to for a text: a line `exec` runs a function of it, and a line `trace` one of its filling, step by step.
use Rattle.std.specs.Prelude.{ℕ, List}
use Rattle.sk_model.specs.declared.outcome.Outcome.{Outcome}
use Rattle.sk_opts.specs.declared.line.Set.{Set}
use Rattle.sk_exec.specs.declared.executing.Executed.{Executed}
use Rattle.sk_exec.specs.declared.executing.Executed.TheVariants as executed
use Rattle.sk_exec.specs.Direct.{IsNotRun, IsRunText}
use Rattle.sk_trace_text.specs.declared.fault.TraceFault.{TraceFault}
use Rattle.sk_trace_text.specs.declared.fault.TraceFault.TheVariants as fault
use Rattle.sk_trace_text.specs.declared.tracing.Traced.{Traced}
use Rattle.sk_trace_text.specs.declared.tracing.Traced.TheVariants as traced
use Rattle.sk_trace_text.specs.Traced.{IsNotTraced, IsTraceText}
use Rattle.sk_app.specs.declared.direct.Way.{Way}
use Rattle.sk_app.specs.declared.direct.Way.TheVariants as way
use Rattle.sk_app.specs.declared.direct.Job.{Job}

abbrev pub IsStoppedBy : Way → Set → List ℕ → List (List ℕ) → List ℕ → TraceFault → Type 0
IsStoppedBy way.Exec set name values text (fault.NotRun reason) = IsNotRun set name values text reason
IsStoppedBy way.Exec set name values text (fault.NotFilled reason) = ⊥
IsStoppedBy (way.Trace holes) set name values text reason = IsNotTraced set holes name values text reason

-- no function of the text is run, for this reason
abbrev pub IsStopped : Set → Job → List ℕ → TraceFault → Type 0
IsStopped set job text reason = IsStoppedBy job.way set job.name job.values text reason

abbrev pub IsRunBy : Way → Set → List ℕ → List (List ℕ) → List ℕ → Outcome → List ℕ → Type 0
IsRunBy way.Exec set name values text outcome out = IsRunText set name values text outcome out
IsRunBy (way.Trace holes) set name values text outcome out = IsTraceText set holes name values text outcome out

-- a function of the text is run, which ends so, and this is written of it
abbrev pub IsRunOfJob : Set → Job → List ℕ → Outcome → List ℕ → Type 0
IsRunOfJob set job text outcome out = IsRunBy job.way set job.name job.values text outcome out

-- what a job comes to
abbrev pub IsDone : Set → Job → List ℕ → Traced → Type 0
IsDone set job text (traced.NotTraced reason) = IsStopped set job text reason
IsDone set job text (traced.Run outcome out) = IsRunOfJob set job text outcome out.items

-- what a line `exec` comes to, as a line `trace` tells it
abbrev pub as_traced : Executed → Traced
as_traced (executed.NotRun reason) = traced.NotTraced (fault.NotRun reason)
as_traced (executed.Run outcome out) = traced.Run outcome out
