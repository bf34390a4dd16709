use Rattle.sk_rup.proofs.log.each_follows.Goals as goal

pub returns : goal.returns
returns c = rw (c.in_ok-checker.ensures.known, c.list-list.ensures.list) at c.in_ok-each.ensures
