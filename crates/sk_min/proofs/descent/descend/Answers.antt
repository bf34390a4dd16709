use Rattle.std.proofs.Common.{subst}
use Rattle.sk_min.specs.Search.{IsTurn}
use Rattle.sk_min.proofs.Raises.{behind_on, nothing_behind}
use Rattle.sk_min.proofs.descent.descend.Goals as goal

pub loop-turn-init : goal.loop-turn-init
loop-turn-init g c = (c.requires.state, c.requires.room, nothing_behind c.args.first.pairs)

pub loop-turn-preserved : goal.loop-turn-preserved
loop-turn-preserved g c =
    let t = subst (IsTurn c.args.expanded.now c.args.bounds.now c.args.budget.now c.loop-turn.state.pairs c.loop-turn.state.best) c.in-Lower.is c.in_ok-next.ensures in
    (t.0, t.3, behind_on c.args.first.pairs c.loop-turn.state.pairs c.in-Lower.next.pairs c.loop-turn.invariant.2 t.2)

pub returns-in-Ended-clause-behind : goal.returns-in-Ended-clause-behind
returns-in-Ended-clause-behind g c =
    let t = subst (IsTurn c.args.expanded.now c.args.bounds.now c.args.budget.now c.loop-turn.state.pairs c.loop-turn.state.best) c.in-Ended.is c.in_ok-next.ensures in
    behind_on c.args.first.pairs c.loop-turn.state.pairs _ c.loop-turn.invariant.2 t.1
