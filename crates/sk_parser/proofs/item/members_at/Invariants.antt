use Rattle.std.proofs.Common.{◌≡◌, length}
use Rattle.sk_parser_laws.specs.Readers.{repeated}
use Rattle.sk_parser_laws.specs.StmtReader.{ends_block}
use Rattle.sk_parser_laws.specs.ItemReader.{next_member}
use Rattle.sk_parser.proofs.item.members_at.Given as goal

abbrev pub invariant-loop-alloc : goal.invariant-loop-alloc
invariant-loop-alloc l = repeated ends_block next_member l.fn.fields l.tokens ≡ repeated ends_block next_member l.so_far l.rest

abbrev pub decreases-loop-alloc : goal.decreases-loop-alloc
decreases-loop-alloc l = length l.rest
