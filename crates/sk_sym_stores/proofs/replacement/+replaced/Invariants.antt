use Rattle.std.proofs.Common.{length}
use Rattle.sk_sym_stores.proofs.replacement.+replaced.Given as goal

-- each step takes one
abbrev pub decreases-replaced : goal.decreases-replaced
decreases-replaced l = length l.indexes.now
