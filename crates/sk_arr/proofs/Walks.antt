-- What the walk over two lists of targets cites.
use Rattle.sk_dag.proofs.EvalLemmas.{Keeps-trans}
use Rattle.sk_arr.proofs.Makers.{Keeps-refl}
use Rattle.sk_arr.proofs.Targets.{merged_done, merged_on, guard_first, guard_second, more_in, others_in, added_in}

pub ruleset walking = (Keeps-refl, Keeps-trans, merged_done, merged_on)
