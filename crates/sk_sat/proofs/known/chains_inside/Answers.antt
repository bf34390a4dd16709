use Rattle.std.proofs.Common.{arith}
use Rattle.sk_sat.proofs.KnownLemmas.{are_apart_ends}
use Rattle.sk_sat.proofs.known.chains_inside.Goals as goal

pub returns-clause-none : goal.returns-clause-none
returns-clause-none c = are_apart_ends c.args.list.now c.args.heads.now c.args.links.now c.args.clause.now c.loop-l.l-index c.requires (omega arith) c.loop-l.invariant
