use Rattle.std.proofs.Common.{◌≡◌, drop}
use Rattle.sk_holes_standing.specs.Marks.{marked}
use Rattle.sk_holes_standing.proofs.functions.mark.Given as goal

abbrev pub invariant-loop-f : goal.invariant-loop-f
invariant-loop-f l = marked l.table (drop l.f-index l.called) ≡ marked l.fn.table l.called
