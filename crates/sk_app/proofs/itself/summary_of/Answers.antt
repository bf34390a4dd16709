use Rattle.std.proofs.Common.{subst}
use Rattle.sk_min_certificate.specs.Least.{IsAnswer}
use Rattle.sk_app.proofs.CompleteLaws.{summary_found}
use Rattle.sk_app.proofs.itself.summary_of.Goals as goal

pub returns-in-Best : goal.returns-in-Best
returns-in-Best g c =
    let answer = subst (IsAnswer c.args.expanded.now c.args.bounds.now _) c.in-Best.is c.in_ok-value.ensures.answer in
    summary_found c.args.bounds.now c.args.expanded.now c.args.n c.in-Best.choice c.in-Best.value c.in_ok-out-in-Best.out.items answer.1 c.in_ok-out-in-Best.ensures
