use Rattle.std.proofs.Common.{length, ◌+◌, ◌*◌}
use Rattle.row_files.proofs.escapes.+escapes.Given as goal

abbrev pub decreases-push_text-loop-rest : goal.decreases-push_text-loop-rest
decreases-push_text-loop-rest l = length l.rest

abbrev pub decreases-push_text : goal.decreases-push_text
decreases-push_text l = 3 * l.depth + 2

abbrev pub decreases-push_escape : goal.decreases-push_escape
decreases-push_escape l = 3 * l.depth + 1

abbrev pub decreases-push_times : goal.decreases-push_times
decreases-push_times l = 3 * l.depth
