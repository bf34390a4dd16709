use Rattle.sk_loop_laws.proofs.Pairs.{grown_is_honest}
use Rattle.sk_loop_laws.proofs.pairs_stay_honest.Goals as goal

pub returns : goal.returns
returns c = grown_is_honest
