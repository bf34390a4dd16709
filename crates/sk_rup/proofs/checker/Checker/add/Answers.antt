use Rattle.std.proofs.Common.{refl}
use Rattle.sk_rup.proofs.CheckerLemmas.{ready_over, ready_add}
use Rattle.sk_rup.proofs.checker.Checker.add.Goals as goal

pub returns-then-self-clause-ready : goal.returns-then-self-clause-ready
returns-then-self-clause-ready c = ready_over c.args.self.now (record { known = c.push.new.self; trail = c.args.self.now.trail; watches = c.args.self.now.watches; refuted = c.args.self.now.refuted }) c.args.clause.now c.requires.ready c.if-self.true c.requires.within c.in_ok-push.ensures.ok refl refl

pub returns-clause-ready : goal.returns-clause-ready
returns-clause-ready c = ready_add c.args.self.now (record { known = c.push.new.self; trail = c.settle.new.trail; watches = c.settle.new.watches; refuted = c.in_ok-self.field-0 }) c.push.new.self c.args.clause.now c.requires.ready c.in_ok-push.ensures.ok refl c.in_ok-self.ensures.steps c.in_ok-self.ensures.conflict c.requires.within
