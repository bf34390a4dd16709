use Rattle.sk_cnf.proofs.StandingLaws.{Stands-begun}
use Rattle.sk_cnf.proofs.GrowingLaws.{Tight-named}
use Rattle.sk_cnf.proofs.growing.Growing.new.Goals as goal

pub returns-clause-stands : goal.returns-clause-stands
returns-clause-stands c = λ w. Stands-begun _ c.args.leaves.now w c.in_ok-encoded.ensures.named c.in_ok-encoded.ensures.keys c.new.ensures c.new-2.ensures

pub returns-clause-tight : goal.returns-clause-tight
returns-clause-tight c = Tight-named _ c.args.leaves.now c.in_ok-encoded.ensures.named
