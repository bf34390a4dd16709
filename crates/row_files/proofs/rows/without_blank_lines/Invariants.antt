use Rattle.std.proofs.Common.{length}
use Rattle.row_files.proofs.rows.without_blank_lines.Given as goal

abbrev pub decreases-loop-bytes : goal.decreases-loop-bytes
decreases-loop-bytes l = length l.bytes
