use Rattle.std.proofs.Common.{◌≡◌, length}
use Rattle.sk_parser_laws.specs.Readers.{repeated}
use Rattle.sk_adt.specs.Forms.{at_close, next_variant}
use Rattle.sk_adt.proofs.types.more_variants.Given as goal

abbrev pub invariant-loop-alloc : goal.invariant-loop-alloc
invariant-loop-alloc l = repeated at_close next_variant l.fn.variants l.fn.tokens ≡ repeated at_close next_variant l.so_far l.rest

abbrev pub decreases-loop-alloc : goal.decreases-loop-alloc
decreases-loop-alloc l = length l.rest
