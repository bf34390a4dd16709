use Rattle.std.proofs.Common.{◌≡◌, ◌+◌, ◌*◌, length}
use Rattle.sk_parser_laws.specs.Readers.{repeated}
use Rattle.sk_parser_laws.specs.StmtReader.{next_stmt, ends_block, stmt_at}
use Rattle.sk_parser_stmts.proofs.stmt.+stmts.Given as goal

abbrev pub decreases-stmt_at : goal.decreases-stmt_at
decreases-stmt_at l = 12 * l.budget

abbrev pub decreases-next_stmt : goal.decreases-next_stmt
decreases-next_stmt l = 12 * l.inner + 1

abbrev pub decreases-more_stmts : goal.decreases-more_stmts
decreases-more_stmts l = 12 * l.inner + 2

abbrev pub decreases-stmts_at : goal.decreases-stmts_at
decreases-stmts_at l = 12 * l.inner + 3

abbrev pub decreases-block_at : goal.decreases-block_at
decreases-block_at l = 12 * l.inner + 4

abbrev pub decreases-reorder_at : goal.decreases-reorder_at
decreases-reorder_at l = 12 * l.inner + 4

abbrev pub decreases-behind_if : goal.decreases-behind_if
decreases-behind_if l = 12 * l.inner + 1

abbrev pub decreases-if_at : goal.decreases-if_at
decreases-if_at l = 12 * l.inner + 2

abbrev pub decreases-while_at : goal.decreases-while_at
decreases-while_at l = 12 * l.inner + 1

abbrev pub decreases-repeat_at : goal.decreases-repeat_at
decreases-repeat_at l = 12 * l.inner + 1

abbrev pub decreases-minrepeat_at : goal.decreases-minrepeat_at
decreases-minrepeat_at l = 12 * l.inner + 1

abbrev pub decreases-for_body_at : goal.decreases-for_body_at
decreases-for_body_at l = 12 * l.inner + 1

abbrev pub decreases-for_at : goal.decreases-for_at
decreases-for_at l = 12 * l.inner + 2

abbrev pub decreases-whole_at : goal.decreases-whole_at
decreases-whole_at l = 12 * l.inner + 5

abbrev pub invariant-more_stmts-loop-alloc : goal.invariant-more_stmts-loop-alloc
invariant-more_stmts-loop-alloc l =
    repeated ends_block (next_stmt (stmt_at l.inner)) l.fn.stmts l.tokens ≡ repeated ends_block (next_stmt (stmt_at l.inner)) l.so_far l.rest

abbrev pub decreases-more_stmts-loop-alloc : goal.decreases-more_stmts-loop-alloc
decreases-more_stmts-loop-alloc l = length l.rest
