use Rattle.std.proofs.Common.{subst}
use Rattle.sk_all_text.specs.Built.{IsOnly}
use Rattle.sk_all_text.proofs.Taken.{ready_of, askable}
use Rattle.sk_app.specs.Summary.{no_set}
use Rattle.sk_app.proofs.itself.summary_of_text.Goals as goal

pub summary_of-requires : goal.summary_of-requires
summary_of-requires g c = record { askable = askable c.no_set.result c.args.text.now c.in-Ok.found.bounds c.in-Ok.found.expanded (ready_of c.no_set.result c.args.text.now c.in-Ok.found c.in-Ok.ensures.found) }

pub returns-in_ok-out-in-Ok : goal.returns-in_ok-out-in-Ok
returns-in_ok-out-in-Ok g c =
    let x = c.in-Ok.found in
    let ready = ready_of c.no_set.result c.args.text.now x c.in-Ok.ensures.found in
    record {
      bounds = x.bounds;
      e = x.expanded;
      only = subst (λ t. IsOnly no_set t x.bounds x.expanded) c.requires.is (subst (λ s. IsOnly s c.args.text.now x.bounds x.expanded) c.no_set.ensures ready.only);
      of = c.in_ok-out-in-Ok.ensures;
    }
