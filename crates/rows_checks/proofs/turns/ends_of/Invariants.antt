use Rattle.std.proofs.Common.{length}
use Rattle.rows_checks.proofs.turns.ends_of.Given as goal

abbrev pub decreases-loop-first : goal.decreases-loop-first
decreases-loop-first l = length l.rest
