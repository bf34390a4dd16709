use Rattle.sk_oblig_queries.proofs.Nothing.{nothing_bad_at}
use Rattle.sk_oblig_queries.proofs.laws.nothing_is_bad_at.Goals as goal

pub returns : goal.returns
returns c = nothing_bad_at
