use Rattle.sk_oblig_queries.proofs.Nothing.{nothing_bad}
use Rattle.sk_oblig_queries.proofs.laws.nothing_is_bad.Goals as goal

pub returns : goal.returns
returns c = nothing_bad
