use Rattle.std.proofs.Common.{arith}
use Rattle.sk_sym_walk.proofs.Sequences.{ok_more}
use Rattle.sk_sym.proofs.Whole.{says_no_calls, says_no_function}
use Rattle.sk_sym.proofs.entry.execute.Goals as goal

pub returns-then-bounds-eq0-clause-outcome : goal.returns-then-bounds-eq0-clause-outcome
returns-then-bounds-eq0-clause-outcome c = ok_more c.failed_outcome.result (λ made. says_no_calls (omega arith)) c.failed_outcome.ensures.fails

pub returns-in_default-clause-outcome : goal.returns-in_default-clause-outcome
returns-in_default-clause-outcome c = ok_more c.failed_outcome-in_default.result (λ made. says_no_function c.in_default.ensures) c.failed_outcome-in_default.ensures.fails
