use Rattle.std.proofs.Common.{refl, subst}
use Rattle.sk_loop.specs.Rounds.{IsTurn}
use Rattle.sk_loop.proofs.Growing.{keeps_same, keeps_on}
use Rattle.sk_loop.proofs.Beginning.{kept_same, kept_on}
use Rattle.sk_loop.proofs.Standing.{steps_same, steps_on}
use Rattle.sk_loop.proofs.Turns.{honest_steps}
use Rattle.sk_loop.proofs.session.Session.rounds.Goals as goal

pub loop-turn-init : goal.loop-turn-init
loop-turn-init g c = (
  steps_same c.args.self.now c.args.expanded.now c.args.bounds.now c.args.limit c.args.pairs.now c.requires.stands,
  c.requires.honest,
  c.requires.room,
  keeps_same c.args.pairs.now c.args.pairs.now refl,
  kept_same c.args.self.now.asking.growing.encoded c.args.self.now.asking.growing.encoded refl,
)

pub returns-in-Ended-clause-steps : goal.returns-in-Ended-clause-steps
returns-in-Ended-clause-steps g c =
    steps_on c.loop-turn.self c.round.new.self c.args.expanded.now c.args.bounds.now c.args.limit c.args.pairs.now c.loop-turn.pairs c.round.new.pairs c.loop-turn.invariant.0 c.in_ok-found.ensures.steps

pub loop-turn-preserved : goal.loop-turn-preserved
loop-turn-preserved g c = (
  steps_on c.loop-turn.self c.round.new.self c.args.expanded.now c.args.bounds.now c.args.limit c.args.pairs.now c.loop-turn.pairs c.round.new.pairs c.loop-turn.invariant.0 c.in_ok-found.ensures.steps,
  honest_steps c.round.new.self c.args.expanded.now c.args.bounds.now c.args.limit c.loop-turn.pairs c.round.new.pairs c.loop-turn.invariant.1 c.in_ok-found.ensures.steps,
  subst (IsTurn c.args.expanded.now c.args.bounds.now c.args.limit c.args.budget.now c.round.new.pairs) c.in-Again.is c.in_ok-found.ensures.turn,
  keeps_on c.args.pairs.now c.loop-turn.pairs c.round.new.pairs c.loop-turn.invariant.3 c.in_ok-found.ensures.keeps,
  kept_on c.args.self.now.asking.growing.encoded c.loop-turn.self.asking.growing.encoded c.round.new.self.asking.growing.encoded c.loop-turn.invariant.4 c.in_ok-found.ensures.formula,
)
