use Rattle.sk_rup.proofs.TrailLemmas.{covers_force}
use Rattle.sk_rup.proofs.trail.Trail.force.Goals as goal

pub returns-clause-covers : goal.returns-clause-covers
returns-clause-covers c = rw c.in_ok-push.ensures.items (covers_force _ _ c.args.l c.requires.covers c.requires.open c.requires.within)
