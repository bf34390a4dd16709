use Rattle.std.proofs.Common.{◌≡◌, ◌+◌, ◌*◌, ◌≤◌, [], length}
use Rattle.sk_parser_laws.specs.Readers.{repeated}
use Rattle.sk_adt.specs.Forms.{at_close, next_case, pieces_from}
use Rattle.sk_adt.proofs.piece.+pieces.Given as goal

abbrev pub decreases-pieces_from : goal.decreases-pieces_from
decreases-pieces_from l = 7 * l.left

abbrev pub decreases-piece_at : goal.decreases-piece_at
decreases-piece_at l = 7 * l.left + 6

abbrev pub decreases-switch_piece : goal.decreases-switch_piece
decreases-switch_piece l = 7 * l.left + 5

abbrev pub decreases-switch_at : goal.decreases-switch_at
decreases-switch_at l = 7 * l.left + 4

abbrev pub decreases-cases_at : goal.decreases-cases_at
decreases-cases_at l = 7 * l.left + 3

abbrev pub decreases-more_cases : goal.decreases-more_cases
decreases-more_cases l = 7 * l.left + 2

abbrev pub decreases-next_case : goal.decreases-next_case
decreases-next_case l = 7 * l.left + 1

abbrev pub invariant-more_cases-loop-alloc : goal.invariant-more_cases-loop-alloc
invariant-more_cases-loop-alloc l =
    repeated at_close (next_case (pieces_from l.left [])) l.fn.cases l.fn.tokens
    ≡ repeated at_close (next_case (pieces_from l.left [])) l.so_far l.rest

abbrev pub decreases-more_cases-loop-alloc : goal.decreases-more_cases-loop-alloc
decreases-more_cases-loop-alloc l = length l.rest

abbrev pub invariant-pieces_from-loop-token : goal.invariant-pieces_from-loop-token
invariant-pieces_from-loop-token l = record { same : pieces_from l.more l.so_far l.rest ≡ pieces_from l.fn.left [] l.tokens; few : l.more ≤ l.fn.left }

abbrev pub decreases-pieces_from-loop-token : goal.decreases-pieces_from-loop-token
decreases-pieces_from-loop-token l = l.more
