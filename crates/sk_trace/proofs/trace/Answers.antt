use Rattle.std.proofs.Common.{ap}
use Rattle.sk_trace.proofs.trace.Goals as goal

pub returns-clause-more : goal.returns-clause-more
returns-clause-more t = ap (λ log. log.more) t.in_ok-outcome.ensures.log
