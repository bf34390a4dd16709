use Rattle.std.proofs.Common.{length, ◌+◌, ◌*◌}
use Rattle.sk_interp.proofs.value.+replaced.Given as goal

abbrev pub decreases-replaced : goal.decreases-replaced
decreases-replaced l = 2 * length l.indexes.now

abbrev pub decreases-replaced_within : goal.decreases-replaced_within
decreases-replaced_within l = 2 * length l.indexes.now + 1
