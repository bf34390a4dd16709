use Rattle.sk_adt_text_laws.proofs.Composed.{runs}
use Rattle.sk_adt_text_laws.proofs.laws.lowered_runs_keep_variants.Goals as goal

pub returns : goal.returns
returns c = runs
