use Rattle.std.proofs.Common.{subst}
use Rattle.sk_front.specs.Reading.{IsFaultOfTokens}
use Rattle.sk_front.proofs.TextLaws.{faulty}
use Rattle.sk_front.proofs.tree.tree_of.Goals as goal

pub returns-in-Ok-clause-fault : goal.returns-in-Ok-clause-fault
returns-in-Ok-clause-fault c = faulty c.args.text.now c.in-Ok.tokens c.in-Err.fault c.in-Ok.ensures.found (subst (λ ts. IsFaultOfTokens ts c.in-Err.fault) c.as_slice.ensures c.in-Err.ensures.fault)
