use Rattle.std.proofs.Common.{◌≡◌, length}
use Rattle.sk_parser_laws.specs.Readers.{repeated}
use Rattle.sk_parser_laws.specs.ItemReader.{ends_text, next_item}
use Rattle.sk_parser.proofs.item.items_at.Given as goal

abbrev pub invariant-loop-alloc : goal.invariant-loop-alloc
invariant-loop-alloc l = repeated ends_text next_item l.fn.items l.tokens ≡ repeated ends_text next_item l.so_far l.rest

abbrev pub decreases-loop-alloc : goal.decreases-loop-alloc
decreases-loop-alloc l = length l.rest
