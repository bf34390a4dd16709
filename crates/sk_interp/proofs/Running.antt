-- A run with its log is the first call.
use Rattle.std.proofs.Common.{◌≡◌, ℕ, List, [], sym, ap, ◌∙◌}
use Rattle.sk_base.specs.declared.span.Span.{Span}
use Rattle.sk_base.specs.declared.bounds.Bounds.{Bounds}
use Rattle.sk_prog.specs.declared.ids.FunId.{FunId}
use Rattle.sk_prog.specs.declared.value.Value.{Value}
use Rattle.sk_prog.specs.declared.prog.Prog.{Prog}
use Rattle.sk_model.specs.declared.outcome.Outcome.TheVariants as outcome
use Rattle.sk_model.specs.Eval.{Called}
use Rattle.sk_model.specs.Run.{nowhere, start, run}
use Rattle.sk_interp_laws.specs.declared.log.Log.{Log}
use Rattle.sk_interp_laws.specs.Recording.{Recorded, Going, Goes, Fails, Skips}
use Rattle.sk_interp_laws.specs.Run.{calls, log_of, outcome_of}
use Rattle.sk_interp_laws.specs.Path.{path}
use Rattle.sk_interp_laws.specs.Kept.{empty_log, kept, log_of_steps}
use Rattle.sk_interp_laws.proofs.Runs.{logged_is_run, log_keeps_first}

module _ (most : ℕ) (prog : Prog) (f : FunId) (args : List Value) (b : Bounds) where
  abbrev pub first : Going Log Called
  first = calls kept prog b 128 [] nowhere f.index args (record { memory = start; log = empty_log most })

  pub run_done : (c : Called) (r : Recorded Log) → first ≡ Goes c r → outcome.Done c.result c.refs r.memory.cost ≡ run prog f args b
  run_done c r e = sym (ap outcome_of e) ∙ logged_is_run most prog f args b

  pub run_failed : (span : Span) (log : Log) → first ≡ Fails span log → outcome.Failed span ≡ run prog f args b
  run_failed span log e = sym (ap outcome_of e) ∙ logged_is_run most prog f args b

  pub run_skipped : (span : Span) (log : Log) → first ≡ Skips span log → outcome.Skipped span ≡ run prog f args b
  run_skipped span log e = sym (ap outcome_of e) ∙ logged_is_run most prog f args b

  pub log_done : (c : Called) (r : Recorded Log) → first ≡ Goes c r → r.log ≡ log_of_steps most (path prog f args b)
  log_done c r e = sym (ap log_of e) ∙ log_keeps_first most prog f args b

  pub log_failed : (span : Span) (log : Log) → first ≡ Fails span log → log ≡ log_of_steps most (path prog f args b)
  log_failed span log e = sym (ap log_of e) ∙ log_keeps_first most prog f args b

  pub log_skipped : (span : Span) (log : Log) → first ≡ Skips span log → log ≡ log_of_steps most (path prog f args b)
  log_skipped span log e = sym (ap log_of e) ∙ log_keeps_first most prog f args b

pub ruleset runs = (run_done, run_failed, run_skipped, log_done, log_failed, log_skipped)
