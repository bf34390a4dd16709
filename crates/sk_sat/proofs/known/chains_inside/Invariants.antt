use Rattle.std.proofs.Common.{take}
use Rattle.sk_sat.proofs.KnownLemmas.{AreApart}
use Rattle.sk_sat.proofs.known.chains_inside.Given as goal

abbrev pub invariant-loop-l : goal.invariant-loop-l
invariant-loop-l l = AreApart l.list l.clause (take l.l-index l.clause)
