use Rattle.std.proofs.Common.{subst}
use Rattle.sk_app.specs.Prepared.{IsBuilding}
use Rattle.sk_all_text.proofs.Taken.{askable}
use Rattle.sk_app.proofs.CompleteLaws.{fillings_fit}
use Rattle.sk_app.proofs.complete.complete.Goals as goal

pub search-requires-clause-askable : goal.search-requires-clause-askable
search-requires-clause-askable g c = askable c.args.set.now c.args.text.now c.in-Whole.bounds c.in-Whole.expanded (subst (λ b. IsBuilding c.args.set.now b c.args.text.now) c.in-Whole.is c.in_ok-fault.ensures)

pub search-requires-clause-fits : goal.search-requires-clause-fits
search-requires-clause-fits g c = fillings_fit c.args.set.now c.args.text.now c.in-Whole.bounds c.in-Whole.expanded (subst (λ b. IsBuilding c.args.set.now b c.args.text.now) c.in-Whole.is c.in_ok-fault.ensures)
