use Rattle.std.proofs.Common.{take}
use Rattle.sk_sat.proofs.InsideLemmas.{IsNotIn}
use Rattle.sk_sat.proofs.known.has_packed.Given as goal

abbrev pub invariant-loop-packed : goal.invariant-loop-packed
invariant-loop-packed l = IsNotIn (take l.packed-index l.clause) l.l
