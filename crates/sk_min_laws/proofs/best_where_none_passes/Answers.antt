use Rattle.sk_min_laws.proofs.Bests.{best_of}
use Rattle.sk_min_laws.proofs.best_where_none_passes.Goals as goal

pub returns : goal.returns
returns c = best_of
