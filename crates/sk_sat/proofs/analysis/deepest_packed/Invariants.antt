use Rattle.std.proofs.Common.{take}
use Rattle.sk_sat.proofs.LessonLemmas.{IsDeepest}
use Rattle.sk_sat.proofs.analysis.deepest_packed.Given as goal

abbrev pub invariant-loop-packed : goal.invariant-loop-packed
invariant-loop-packed l = IsDeepest l.level (take l.packed-index l.clause) l.deepest
