use Rattle.sk_rup.proofs.TrailLemmas.{covers_none}
use Rattle.sk_rup.proofs.trail.Trail.new.Goals as goal

pub returns-clause-covers : goal.returns-clause-covers
returns-clause-covers c = covers_none _ _ c.args.vars c.in_ok-values.ensures c.in_ok-lits.ensures.items
