use Rattle.sk_holes_standing.proofs.StandLaws.{Progress}
use Rattle.sk_holes_standing.proofs.functions.what_stands.Given as goal

-- what is known so far
abbrev pub invariant-loop-n : goal.invariant-loop-n
invariant-loop-n l = Progress l.walker.values.now l.ordinary l.funs l.table.items l.all.items l.counts.items l.met.called l.met.payments l.n l.at
