use Rattle.std.proofs.Common.{◌≡◌, ◌-◌, ◌<◌, Some, subst, sym, arith}
use Rattle.sk_model.specs.Fill.{fill}
use Rattle.sk_model.specs.Meets.{IsGreatestCost}
use Rattle.sk_loop.specs.declared.found.Found.{Found}
use Rattle.sk_loop.specs.Found.{IsFound}
use Rattle.sk_loop_laws.specs.Honest.{inputs_of}
use Rattle.sk_min_laws.specs.Best.{IsBest, NoneBelow}
use Rattle.sk_min_laws.proofs.Bests.{best_of}
use Rattle.sk_min.proofs.Bests.{best_at_zero, none_below}
use Rattle.sk_min.proofs.Cheapest.{cheapest_grown, cheapest_lower, costs_least, lowers}
use Rattle.sk_min.proofs.Raises.{behind_grown, nothing_behind}
use Rattle.sk_min.proofs.Lowers.{limited_below, short_of_grown, state_lower, still}
use Rattle.sk_min.proofs.descent.lower.Goals as goal

pub returns-then-value-eq0 : goal.returns-then-value-eq0
returns-then-value-eq0 g c =
    let zero : c.args.value ≡ 0 = c.if-value-eq0.true in (
      (
        c.requires.top.honest,
        subst (IsBest c.args.expanded.now c.args.bounds.now c.args.best) (sym zero) (best_at_zero c.args.expanded.now c.args.bounds.now c.args.best c.requires.top.meeting (subst (IsGreatestCost (fill c.args.expanded.now c.args.best) c.args.bounds.now) zero c.requires.top.greatest)),
        subst (NoneBelow c.args.expanded.now c.args.bounds.now (inputs_of c.args.pairs)) (sym zero) tt,
        λ free. zero,
        c.requires.room,
      ),
      nothing_behind c.args.pairs,
    )

pub returns-in-Choice : goal.returns-in-Choice
returns-in-Choice g c =
    let found = subst (λ (x : Found). IsFound c.args.expanded.now c.args.bounds.now (Some (c.args.value - 1)) c.args.budget.now c.synthesise.new.pairs x) c.in-Choice.is c.in_ok-choice.ensures.found in
    let some : 0 < c.args.value = omega (arith, c.if-value-eq0.false) in
    let same = still c.args.expanded.now c.args.bounds.now c.args.pairs c.synthesise.new.pairs c.args.best c.args.value (Some (c.args.value - 1)) c.requires.askable c.requires.top c.in_ok-choice.ensures.grown c.in_ok-choice.ensures.honest in
    let cheapest = cheapest_grown c.args.expanded.now c.args.bounds.now c.args.pairs c.synthesise.new.pairs c.args.best c.args.value c.requires.askable c.requires.top.meeting c.requires.top.greatest c.requires.top.cheapest c.in_ok-choice.ensures.grown in
    let least = costs_least c.args.expanded.now c.args.bounds.now c.synthesise.new.pairs c.args.best c.in_ok-choice.ensures.honest cheapest in (
      state_lower c.args.expanded.now c.args.bounds.now c.synthesise.new.self c.synthesise.new.pairs c.in-Choice.choice (c.args.value - 1) c.in_ok-choice.ensures.honest c.in_ok-choice.ensures.stands found.0
          (cheapest_lower c.args.expanded.now c.args.bounds.now c.synthesise.new.pairs c.args.best c.in-Choice.choice c.args.value c.requires.askable some same least found.0),
      lowers c.args.expanded.now c.args.bounds.now c.args.best c.in-Choice.choice c.args.value some c.requires.top.greatest found.0,
      behind_grown c.args.expanded.now c.args.bounds.now (Some (c.args.value - 1)) c.args.pairs c.synthesise.new.pairs c.in_ok-choice.ensures.grown,
      found.1,
    )

pub returns-in-Nothing : goal.returns-in-Nothing
returns-in-Nothing g c =
    let found = subst (λ (x : Found). IsFound c.args.expanded.now c.args.bounds.now (Some (c.args.value - 1)) c.args.budget.now c.synthesise.new.pairs x) c.in-Nothing.is c.in_ok-choice.ensures.found in
    let some : 0 < c.args.value = omega (arith, c.if-value-eq0.false) in (
      (
        c.in_ok-choice.ensures.honest,
        best_of c.args.expanded.now c.args.bounds.now c.args.best c.args.value (inputs_of c.synthesise.new.pairs) c.requires.top.meeting c.requires.top.greatest some found.0,
        none_below c.args.expanded.now c.args.bounds.now c.args.value (inputs_of c.synthesise.new.pairs) some found.0,
        λ free. absurd (c.requires.costly free),
        found.1,
      ),
      behind_grown c.args.expanded.now c.args.bounds.now (Some (c.args.value - 1)) c.args.pairs c.synthesise.new.pairs c.in_ok-choice.ensures.grown,
    )

pub returns-in-Rounds : goal.returns-in-Rounds
returns-in-Rounds g c =
    let found = subst (λ (x : Found). IsFound c.args.expanded.now c.args.bounds.now (Some (c.args.value - 1)) c.args.budget.now c.synthesise.new.pairs x) c.in-Rounds.is c.in_ok-choice.ensures.found in
    let some : 0 < c.args.value = omega (arith, c.if-value-eq0.false) in
    let same = still c.args.expanded.now c.args.bounds.now c.args.pairs c.synthesise.new.pairs c.args.best c.args.value (Some (c.args.value - 1)) c.requires.askable c.requires.top c.in_ok-choice.ensures.grown c.in_ok-choice.ensures.honest in
    let cheapest = cheapest_grown c.args.expanded.now c.args.bounds.now c.args.pairs c.synthesise.new.pairs c.args.best c.args.value c.requires.askable c.requires.top.meeting c.requires.top.greatest c.requires.top.cheapest c.in_ok-choice.ensures.grown in
    let least = costs_least c.args.expanded.now c.args.bounds.now c.synthesise.new.pairs c.args.best c.in_ok-choice.ensures.honest cheapest in (
      (
        c.in_ok-choice.ensures.honest,
        found,
        short_of_grown c.args.expanded.now c.args.bounds.now c.args.budget.now c.args.pairs c.synthesise.new.pairs c.args.best c.args.value c.requires.askable c.requires.top some c.in_ok-choice.ensures.grown c.in_ok-choice.ensures.honest c.requires.room found least,
      ),
      behind_grown c.args.expanded.now c.args.bounds.now (Some (c.args.value - 1)) c.args.pairs c.synthesise.new.pairs c.in_ok-choice.ensures.grown,
    )

pub returns-in-Conflicts : goal.returns-in-Conflicts
returns-in-Conflicts g c =
    let found = subst (λ (x : Found). IsFound c.args.expanded.now c.args.bounds.now (Some (c.args.value - 1)) c.args.budget.now c.synthesise.new.pairs x) c.in-Conflicts.is c.in_ok-choice.ensures.found in
    let some : 0 < c.args.value = omega (arith, c.if-value-eq0.false) in
    let same = still c.args.expanded.now c.args.bounds.now c.args.pairs c.synthesise.new.pairs c.args.best c.args.value (Some (c.args.value - 1)) c.requires.askable c.requires.top c.in_ok-choice.ensures.grown c.in_ok-choice.ensures.honest in
    let cheapest = cheapest_grown c.args.expanded.now c.args.bounds.now c.args.pairs c.synthesise.new.pairs c.args.best c.args.value c.requires.askable c.requires.top.meeting c.requires.top.greatest c.requires.top.cheapest c.in_ok-choice.ensures.grown in
    let least = costs_least c.args.expanded.now c.args.bounds.now c.synthesise.new.pairs c.args.best c.in_ok-choice.ensures.honest cheapest in (
      (
        found.0,
        (c.requires.top.meeting, limited_below c.args.expanded.now c.args.bounds.now c.synthesise.new.pairs c.args.best c.args.value c.in-Conflicts.query some same found.1 found.0.query, least),
        λ free. absurd (c.requires.costly free),
        found.2,
        found.3,
      ),
      behind_grown c.args.expanded.now c.args.bounds.now (Some (c.args.value - 1)) c.args.pairs c.synthesise.new.pairs c.in_ok-choice.ensures.grown,
    )
