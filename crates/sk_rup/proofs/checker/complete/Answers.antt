use Rattle.std.proofs.Common.{subst, sym}
use Rattle.std.specs.Prelude.{All}
use Rattle.sk_clause.specs.Values.{IsSettled}
use Rattle.sk_rup.specs.declared.trail.Trail.{Trail}
use Rattle.sk_rup.proofs.StepLemmas.{steps_more}
use Rattle.sk_rup.proofs.checker.complete.Goals as goal

pub returns-in-Done-clause-complete : goal.returns-in-Done-clause-complete
returns-in-Done-clause-complete c =
    let done = rw c.in-Done.is at c.in_ok-look_at_all.ensures.pass in
    subst (λ (t : Trail). All (IsSettled t.values.items) c.args.known.now) (sym done.0) done.1

pub passes-preserved : goal.passes-preserved
passes-preserved c = steps_more _ _ _ _ c.passes.invariant (steps_more _ _ _ _ c.in_ok-propagate.ensures.steps c.in_ok-look_at_all.ensures.steps)
