use Rattle.std.proofs.Common.{◌≡◌, [], length}
use Rattle.sk_parser_laws.specs.Readers.{repeated}
use Rattle.sk_adt.specs.Forms.{at_close, next_field}
use Rattle.sk_adt.proofs.types.fields_at.Given as goal

abbrev pub invariant-loop-alloc : goal.invariant-loop-alloc
invariant-loop-alloc l = repeated at_close next_field [] l.fn.tokens ≡ repeated at_close next_field l.so_far l.rest

abbrev pub decreases-loop-alloc : goal.decreases-loop-alloc
decreases-loop-alloc l = length l.rest
