use Rattle.std.proofs.Common.{◌≡◌, ◌+◌, ◌*◌, length}
use Rattle.sk_parser_laws.specs.Readers.{repeated}
use Rattle.sk_parser_laws.specs.PatternReader.{next_sequence, ends_choice, ends_sequence, next_part, pattern_at}
use Rattle.sk_parser_exprs.proofs.pattern.+patterns.Given as goal

abbrev pub decreases-pattern_at : goal.decreases-pattern_at
decreases-pattern_at l = 4 * l.budget + 3

abbrev pub decreases-group_at : goal.decreases-group_at
decreases-group_at l = 4 * l.budget

abbrev pub decreases-more_parts : goal.decreases-more_parts
decreases-more_parts l = 4 * l.inner + 4

abbrev pub decreases-more_sequences : goal.decreases-more_sequences
decreases-more_sequences l = 4 * l.inner + 3

abbrev pub decreases-next_part : goal.decreases-next_part
decreases-next_part l = 4 * l.inner + 3

abbrev pub decreases-next_sequence : goal.decreases-next_sequence
decreases-next_sequence l = 4 * l.inner + 2

abbrev pub decreases-part_at : goal.decreases-part_at
decreases-part_at l = 4 * l.budget + 2

abbrev pub decreases-plain_at : goal.decreases-plain_at
decreases-plain_at l = 4 * l.budget + 1

abbrev pub decreases-sequence_at : goal.decreases-sequence_at
decreases-sequence_at l = 4 * l.budget + 1

abbrev pub invariant-more_parts-loop-alloc : goal.invariant-more_parts-loop-alloc
invariant-more_parts-loop-alloc l =
    repeated ends_sequence (next_part (pattern_at l.inner)) l.fn.parts l.tokens
    ≡ repeated ends_sequence (next_part (pattern_at l.inner)) l.so_far l.rest

abbrev pub decreases-more_parts-loop-alloc : goal.decreases-more_parts-loop-alloc
decreases-more_parts-loop-alloc l = length l.rest

abbrev pub invariant-more_sequences-loop-alloc : goal.invariant-more_sequences-loop-alloc
invariant-more_sequences-loop-alloc l =
    repeated ends_choice (next_sequence (pattern_at l.inner)) l.fn.parts l.tokens
    ≡ repeated ends_choice (next_sequence (pattern_at l.inner)) l.so_far l.rest

abbrev pub decreases-more_sequences-loop-alloc : goal.decreases-more_sequences-loop-alloc
decreases-more_sequences-loop-alloc l = length l.rest
