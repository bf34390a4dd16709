use Rattle.sk_oblig_queries.proofs.Nothing.{nothing_wanted}
use Rattle.sk_oblig_queries.proofs.laws.nothing_is_wanted.Goals as goal

pub returns : goal.returns
returns c = nothing_wanted
