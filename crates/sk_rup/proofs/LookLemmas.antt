-- The lemmas that a look at a clause needs.
use Rattle.sk_rup.proofs.StepLemmas.{steps_same, steps_forced, fewer_forced, var_forced, conflict_seen}

pub ruleset looks = (steps_same, steps_forced, fewer_forced, var_forced, conflict_seen)
