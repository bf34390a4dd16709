use Rattle.sk_clause.proofs.MeaningLemmas.{follows_sound, refuted}
use Rattle.sk_clause.proofs.law.refutation_is_sound.Goals as goal

pub returns : goal.returns
returns c = record { follows = follows_sound; refuted = refuted }
