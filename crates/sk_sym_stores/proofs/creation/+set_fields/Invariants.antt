use Rattle.std.proofs.Common.{length}
use Rattle.sk_sym_stores.proofs.creation.+set_fields.Given as goal

-- each step takes one
abbrev pub decreases-set_fields : goal.decreases-set_fields
decreases-set_fields l = length l.inits.now
