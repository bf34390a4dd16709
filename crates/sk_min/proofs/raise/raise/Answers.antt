use Rattle.std.proofs.Common.{◌≡◌, All, List, Some, refl, subst, sym}
use Rattle.sk_model.specs.declared.expanded.Pair.{Pair}
use Rattle.sk_model.specs.Inputs.{IsInput}
use Rattle.sk_loop_laws.specs.Honest.{inputs_of}
use Rattle.sk_min.specs.declared.search.Costlier.{Costlier}
use Rattle.sk_min.specs.Search.{IsBehind, IsCostlier, IsTop}
use Rattle.sk_loop_laws.specs.Shown.{HasRoom}
use Rattle.sk_min.specs.declared.answer.Least.TheVariants as answer
use Rattle.sk_min.specs.Least.{IsAnswer}
use Rattle.sk_min.proofs.Bests.{top_of}
use Rattle.sk_min.proofs.Cheapest.{cheapest_raised, costs_least}
use Rattle.sk_min.proofs.Raises.{one_behind, short_of_raised}
use Rattle.sk_loop_laws.proofs.Pairs.{honest_are_inputs}
use Rattle.sk_min.proofs.raise.raise.Goals as goal

pub greatest_on-requires-clause-inputs : goal.greatest_on-requires-clause-inputs
greatest_on-requires-clause-inputs g c =
    let same : c.as_slice.result.now ≡ c.args.pairs = cc in
    subst (λ (ps : List Pair). All (IsInput c.args.expanded.now.prog c.args.bounds.now) (inputs_of ps)) (sym same) (honest_are_inputs c.args.expanded.now c.args.bounds.now c.args.pairs c.requires.honest)

pub loop-turn-preserved : goal.loop-turn-preserved
loop-turn-preserved g c =
    let r = subst (λ (x : Costlier). IsCostlier c.args.expanded.now c.args.bounds.now c.args.budget.now c.args.best c.loop-turn.value c.loop-turn.pairs c.costlier.new.pairs x) c.in-Cost.is c.in_ok-cost.ensures in
    record {
      honest = r.0.honest;
      is = r.0.is;
      behind = one_behind c.args.pairs c.loop-turn.pairs c.costlier.new.pairs r.0.pair c.loop-turn.invariant.behind r.0.behind;
      cheapest = cheapest_raised c.args.expanded.now c.args.bounds.now c.loop-turn.pairs c.costlier.new.pairs c.args.best c.in-Cost.cost c.loop-turn.invariant.cheapest r.0;
      room = r.1;
    }

pub returns-in-None : goal.returns-in-None
returns-in-None g c =
    let none = subst (λ (x : Costlier). IsCostlier c.args.expanded.now c.args.bounds.now c.args.budget.now c.args.best c.loop-turn.value c.loop-turn.pairs c.costlier.new.pairs x) c.in-None.is c.in_ok-cost.ensures in
    let top = top_of c.args.expanded.now c.args.bounds.now c.loop-turn.pairs c.args.best c.loop-turn.value c.requires.askable c.loop-turn.invariant.honest c.loop-turn.invariant.is none.1 c.loop-turn.invariant.cheapest in (
      refl,
      subst (λ (ps : List Pair). IsTop c.args.expanded.now c.args.bounds.now ps c.args.best c.loop-turn.value) (sym none.0) top,
      subst (λ (ps : List Pair). IsBehind c.args.pairs ps) (sym none.0) c.loop-turn.invariant.behind,
      subst (λ (ps : List Pair). HasRoom c.args.budget.now ps) (sym none.0) c.loop-turn.invariant.room,
    )

pub returns-in-Rounds : goal.returns-in-Rounds
returns-in-Rounds g c =
    let r = subst (λ (x : Costlier). IsCostlier c.args.expanded.now c.args.bounds.now c.args.budget.now c.args.best c.loop-turn.value c.loop-turn.pairs c.costlier.new.pairs x) c.in-Rounds.is c.in_ok-cost.ensures in
    let cheapest = cheapest_raised c.args.expanded.now c.args.bounds.now c.loop-turn.pairs c.costlier.new.pairs c.args.best r.0 c.loop-turn.invariant.cheapest r.1 in
    let least = costs_least c.args.expanded.now c.args.bounds.now c.costlier.new.pairs c.args.best r.1.honest cheapest in (
      (r.1.honest, r.2, short_of_raised c.args.expanded.now c.args.bounds.now c.args.best c.loop-turn.pairs c.costlier.new.pairs r.0 c.requires.meeting least r.1),
      one_behind c.args.pairs c.loop-turn.pairs c.costlier.new.pairs r.1.pair c.loop-turn.invariant.behind r.1.behind,
    )

pub returns-in-Conflicts : goal.returns-in-Conflicts
returns-in-Conflicts g c =
    let r = subst (λ (x : Costlier). IsCostlier c.args.expanded.now c.args.bounds.now c.args.budget.now c.args.best c.loop-turn.value c.loop-turn.pairs c.costlier.new.pairs x) c.in-Conflicts.is c.in_ok-cost.ensures in
    let least = costs_least c.args.expanded.now c.args.bounds.now c.loop-turn.pairs c.args.best c.loop-turn.invariant.honest c.loop-turn.invariant.cheapest in
    subst (λ (ps : List Pair). IsAnswer c.args.expanded.now c.args.bounds.now c.args.budget.now (answer.Conflicts ps c.in-Conflicts.query c.in-Conflicts.formula c.in-Conflicts.log (Some c.args.best)) × IsBehind c.args.pairs ps) (sym r.0)
    ((r.1, (c.requires.meeting, r.2, least), λ free. absurd (c.requires.costly free), r.3, c.loop-turn.invariant.room), c.loop-turn.invariant.behind)
