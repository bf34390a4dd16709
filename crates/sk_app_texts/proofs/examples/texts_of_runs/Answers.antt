use Rattle.sk_app_texts.proofs.Computed.{result_of_int, result_of_grid, result_by_ref, failed_run, skipped_run}
use Rattle.sk_app_texts.proofs.examples.texts_of_runs.Goals as goal

pub returns : goal.returns
returns c = record { negative = result_of_int; grid = result_of_grid; refs = result_by_ref; failed = failed_run; skipped = skipped_run }
