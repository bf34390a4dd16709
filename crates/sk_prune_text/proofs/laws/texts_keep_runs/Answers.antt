use Rattle.sk_prune_text.proofs.Keeping.{texts_keep_runs}
use Rattle.sk_prune_text.proofs.laws.texts_keep_runs.Goals as goal

pub returns : goal.returns
returns c = texts_keep_runs
