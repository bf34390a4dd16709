use Rattle.std.proofs.Common.{sym, subst}
use Rattle.sk_front.specs.Front.{IsFaultOfExpansion}
use Rattle.sk_front.proofs.FrontLaws.{not_expanded}
use Rattle.sk_front.proofs.expansion.expanded.Goals as goal

pub returns-in-Err-expand-clause-fault : goal.returns-in-Err-expand-clause-fault
returns-in-Err-expand-clause-fault c = subst (IsFaultOfExpansion c.args.set.now c.args.text.now) (sym c.too_large.ensures) (not_expanded c.args.set.now c.args.text.now c.in-Ok.typed c.in-Err-expand.fault c.in-Ok.ensures.found c.in-Err-expand.ensures.cause)
