use Rattle.sk_sat.proofs.restarts.to_start.Goals as goal

pub returns-then-level-len-clause-long : goal.returns-then-level-len-clause-long
returns-then-level-len-clause-long c = (c.cancel.ensures.back c.requires.0 c.requires.1).long
