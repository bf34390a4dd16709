-- A further pair.
use Rattle.sk_loop.proofs.Growing.{keeps_same, keeps_push}
use Rattle.sk_loop.proofs.Beginning.{kept_same}
use Rattle.sk_loop.proofs.Standing.{note_asks, note_within, note_long, note_steps}

pub ruleset noting = (note_asks, note_within, note_long, note_steps, keeps_same, keeps_push, kept_same)
