use Rattle.sk_model.proofs.NoSites.{no_sites_closes}
use Rattle.sk_model.proofs.OpenRuns.{closed_runs}
use Rattle.sk_model.proofs.running_laws.programs_without_sites_are_closed.Goals as goal

pub returns-clause-closed : goal.returns-clause-closed
returns-clause-closed c = no_sites_closes

pub returns-clause-runs : goal.returns-clause-runs
returns-clause-runs c = λ e a f args bounds none. closed_runs e a f args bounds (no_sites_closes bounds e.prog none)
