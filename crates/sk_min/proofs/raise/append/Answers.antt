use Rattle.std.proofs.Common.{refl, sym, true≢false}
use Rattle.sk_min.proofs.Raises.{raised, room_left}
use Rattle.sk_min.proofs.raise.append.Goals as goal

pub returns-then-are_spent : goal.returns-then-are_spent
returns-then-are_spent g c =
    let r = raised c.args.expanded.now c.args.bounds.now c.args.pairs.now c.push.new.self c.args.best.now (record { choice = c.in_ok-choice.choice; input = c.args.input }) c.args.value c.in_ok-cost.cost c.requires.askable c.requires.honest c.requires.meeting c.requires.is c.requires.bad c.in_ok-cost.ensures c.in_ok-choice.ensures c.in_ok-push.ensures.ok in
    (c.in_ok-cost.cost, r, c.if-are_spent.ensures.0 refl)

pub returns : goal.returns
returns g c =
    let r = raised c.args.expanded.now c.args.bounds.now c.args.pairs.now c.push.new.self c.args.best.now (record { choice = c.in_ok-choice.choice; input = c.args.input }) c.args.value c.in_ok-cost.cost c.requires.askable c.requires.honest c.requires.meeting c.requires.is c.requires.bad c.in_ok-cost.ensures c.in_ok-choice.ensures c.in_ok-push.ensures.ok in
    (r, room_left c.args.budget.now c.args.pairs.now c.push.new.self r.pair c.requires.room r.behind (λ spent. true≢false (sym (c.if-are_spent.ensures.1 spent))))
