use Rattle.sk_all.specs.Reasons.{Thinned}
use Rattle.sk_all.proofs.reasons.thin.Given as goal

-- those kept explain it so far
abbrev pub invariant-loop-i : goal.invariant-loop-i
invariant-loop-i g l = Thinned l.expanded l.bounds l.all l.kept l.i
