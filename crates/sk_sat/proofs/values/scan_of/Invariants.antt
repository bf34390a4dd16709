use Rattle.std.proofs.Common.{take}
use Rattle.sk_clause.proofs.ScanLemmas.{SoFar}
use Rattle.sk_sat.proofs.values.scan_of.Given as goal

abbrev pub invariant-loop-packed : goal.invariant-loop-packed
invariant-loop-packed l = SoFar l.values (take l.packed-index l.clause) l.open
