use Rattle.std.proofs.Common.{subst}
use Rattle.sk_min.specs.declared.search.Raised.{Raised}
use Rattle.sk_min.specs.Search.{IsRaisedTo}
use Rattle.sk_min.proofs.Lowers.{ready_turn}
use Rattle.sk_min.proofs.Turns.{turn_from}
use Rattle.sk_min.proofs.descent.turn.Goals as goal

pub lower-requires-clause-ready : goal.lower-requires-clause-ready
lower-requires-clause-ready g c =
    let top = subst (λ (x : Raised). IsRaisedTo c.args.expanded.now c.args.bounds.now c.args.budget.now c.args.state.best c.args.state.pairs x) c.in-Top.is c.in_ok-pairs.ensures in
    ready_turn c.args.expanded.now c.args.bounds.now c.args.state.session c.args.state.pairs c.in-Top.pairs c.args.state.best c.in-Top.best c.in-Top.value c.requires.state.ready top.0 top.1 top.2

pub returns-in_ok-turn-in-Top : goal.returns-in_ok-turn-in-Top
returns-in_ok-turn-in-Top g c =
    let top = subst (λ (x : Raised). IsRaisedTo c.args.expanded.now c.args.bounds.now c.args.budget.now c.args.state.best c.args.state.pairs x) c.in-Top.is c.in_ok-pairs.ensures in
    turn_from c.args.expanded.now c.args.bounds.now c.args.budget.now c.args.state.pairs c.in-Top.pairs c.args.state.best c.in-Top.best c.in_ok-turn-in-Top.turn top.2 top.0 c.in_ok-turn-in-Top.ensures
