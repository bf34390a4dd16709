use Rattle.sk_interp_laws.proofs.Runs.{log_keeps_first, logged_is_run}
use Rattle.sk_interp_laws.proofs.laws.logs_keep_the_first_steps.Goals as goal

pub returns-clause-first : goal.returns-clause-first
returns-clause-first c = log_keeps_first

pub returns-clause-run : goal.returns-clause-run
returns-clause-run c = logged_is_run
