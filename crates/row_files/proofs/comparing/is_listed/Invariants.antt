use Rattle.std.proofs.Common.{length}
use Rattle.row_files.proofs.comparing.is_listed.Given as goal

abbrev pub decreases-loop-first : goal.decreases-loop-first
decreases-loop-first l = length l.rest
