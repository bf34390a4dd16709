use Rattle.std.proofs.Common.{IsTrue, refl, sym}
use Rattle.sk_min_costs.specs.Free.{is_free}
use Rattle.sk_min.proofs.Bests.{best_at_zero}
use Rattle.sk_min.proofs.Lowers.{state_first}
use Rattle.sk_min.proofs.Raises.{nothing_behind}
use Rattle.sk_min_costs.proofs.Runs.{free_is_best}
use Rattle.sk_min.proofs.descent.from_first.Goals as goal

pub returns-then-is_free-clause-answer : goal.returns-then-is_free-clause-answer
returns-then-is_free-clause-answer g c =
    let free : IsTrue (is_free c.args.expanded.now.prog) = sym c.if-is_free.ensures in
    let met = c.requires.askable.met c.args.best c.requires.meeting.range in (
      c.requires.honest,
      best_at_zero c.args.expanded.now c.args.bounds.now c.args.best c.requires.meeting (free_is_best c.args.expanded.now c.args.best c.args.bounds.now met free),
      tt,
      λ _. refl,
      c.requires.room,
    )

pub returns-then-is_free-clause-behind : goal.returns-then-is_free-clause-behind
returns-then-is_free-clause-behind g c = nothing_behind c.args.pairs

pub descend-requires-clause-state : goal.descend-requires-clause-state
descend-requires-clause-state g c = state_first c.args.expanded.now c.args.bounds.now c.args.session c.args.pairs c.args.best c.requires.honest c.requires.meeting c.requires.cheapest c.requires.stands
