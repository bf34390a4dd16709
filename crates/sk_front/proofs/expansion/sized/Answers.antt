use Rattle.std.proofs.Common.{sym, subst}
use Rattle.sk_front.specs.Front.{IsFaultOfSizes}
use Rattle.sk_front.proofs.FrontLaws.{not_sized}
use Rattle.sk_front.proofs.expansion.sized.Goals as goal

pub returns-in-Err-sizes-clause-fault : goal.returns-in-Err-sizes-clause-fault
returns-in-Err-sizes-clause-fault c =
    let m = c.in-Err-sizes in
    subst (IsFaultOfSizes c.args.set.now c.args.text.now) (sym c.too_large.ensures) (not_sized c.args.set.now c.args.text.now c.in-Ok.expansion m.fault c.in-Ok.ensures.found m.ensures.steps.by_cause m.ensures.news.by_cause m.ensures.others)
