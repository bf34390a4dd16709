use Rattle.std.proofs.Common.{length}
use Rattle.sk_interp.proofs.value.+part.Given as goal

abbrev pub decreases-part : goal.decreases-part
decreases-part l = length l.indexes.now
