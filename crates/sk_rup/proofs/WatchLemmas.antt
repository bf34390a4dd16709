-- The lemmas that following the watches needs.
use Rattle.sk_rup.proofs.StepLemmas.{steps_same, steps_more, within_after}

pub ruleset visits = (steps_same)

pub ruleset spreads = (steps_same, steps_more, within_after)
