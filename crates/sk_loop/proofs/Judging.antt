-- One round.
use Rattle.sk_loop.proofs.Growing.{keeps_same, kept_room, is_round}
use Rattle.sk_loop.proofs.Standing.{steps_same}
use Rattle.sk_loop.proofs.Beginning.{kept_asking, kept_from, kept_same}
use Rattle.sk_loop.proofs.Proposing.{spent_bad}

pub ruleset judging = (keeps_same, kept_room, is_round, steps_same, spent_bad, kept_same)

pub ruleset turning = (keeps_same, steps_same, kept_asking, kept_from)
