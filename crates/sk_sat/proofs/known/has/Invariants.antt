use Rattle.std.proofs.Common.{take}
use Rattle.sk_sat.proofs.InsideLemmas.{IsNotIn}
use Rattle.sk_sat.proofs.known.has.Given as goal

abbrev pub invariant-loop-m : goal.invariant-loop-m
invariant-loop-m l = IsNotIn (take l.m-index l.clause) l.l
