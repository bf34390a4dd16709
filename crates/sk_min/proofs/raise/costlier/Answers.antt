use Rattle.std.proofs.Common.{Some, refl, subst}
use Rattle.sk_loop.specs.declared.countered.Countered.{Countered}
use Rattle.sk_loop.specs.Countered.{IsCountered}
use Rattle.sk_min.proofs.Raises.{learnt_of, limited_of, of_search}
use Rattle.sk_min.proofs.raise.costlier.Goals as goal

pub returns-in-Conflicts : goal.returns-in-Conflicts
returns-in-Conflicts g c =
    let spent = subst (λ (x : Countered). IsCountered c.args.expanded.now c.args.bounds.now c.args.best.now (Some c.args.value) c.args.budget.now.conflicts x) c.in-Conflicts.is c.in_ok-input.ensures in (
      refl,
      learnt_of c.args.expanded.now c.args.bounds.now c.args.pairs.now c.args.best.now c.args.value c.args.budget.now.conflicts c.in-Conflicts.query c.in-Conflicts.formula c.in-Conflicts.log c.requires.askable c.requires.honest c.requires.meeting c.requires.is spent,
      limited_of c.args.expanded.now c.args.bounds.now c.args.pairs.now c.args.best.now c.args.value c.in-Conflicts.query spent.query c.requires.is,
      of_search c.args.expanded.now c.args.bounds.now c.in-Conflicts.query c.args.best.now (Some c.args.value) spent.query,
    )
