use Rattle.std.proofs.Common.{take}
use Rattle.sk_sat.proofs.InsideLemmas.{IsPart}
use Rattle.sk_sat.proofs.known.includes.Given as goal

abbrev pub invariant-loop-packed : goal.invariant-loop-packed
invariant-loop-packed l = IsPart l.clause (take l.packed-index l.other)
