use Rattle.std.proofs.Common.{◌≡◌, length}
use Rattle.sk_parser_laws.specs.Readers.{repeated}
use Rattle.sk_parser_laws.specs.ExprReader.{ends_row}
use Rattle.sk_parser_laws.specs.StmtReader.{next_declared}
use Rattle.sk_parser_stmts.proofs.declare.more_names.Given as goal

abbrev pub invariant-loop-alloc : goal.invariant-loop-alloc
invariant-loop-alloc l = repeated ends_row (next_declared l.budget) l.fn.names l.tokens ≡ repeated ends_row (next_declared l.budget) l.so_far l.rest

abbrev pub decreases-loop-alloc : goal.decreases-loop-alloc
decreases-loop-alloc l = length l.rest
