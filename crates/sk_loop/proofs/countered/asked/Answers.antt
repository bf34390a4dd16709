use Rattle.std.proofs.Common.{subst}
use Rattle.sk_loop.specs.Answered.{IsAnswered}
use Rattle.sk_loop.proofs.Countering.{completes_then, spent_on}
use Rattle.sk_loop.proofs.countered.asked.Goals as goal

pub returns-in-Never : goal.returns-in-Never
returns-in-Never g c =
    completes_then c.args.expanded.now c.args.bounds.now c.in_ok-copy.copy c.args.choice.now c.args.limit c.in_ok-encoded.encoded c.requires.askable c.requires.range c.in_ok-copy.ensures c.in_ok-encoded.ensures.asks
    (subst (IsAnswered c.in_ok-encoded.encoded c.args.budget) c.in-Never.is c.in_ok-values.ensures)

pub returns-in-Spent : goal.returns-in-Spent
returns-in-Spent g c =
    spent_on c.args.expanded.now c.args.bounds.now c.in_ok-copy.copy c.args.choice.now c.args.limit c.args.budget c.in_ok-encoded.encoded c.in-Spent.formula c.in-Spent.log c.in_ok-copy.ensures c.in_ok-encoded.ensures.asks c.in_ok-encoded.ensures.tight
    (subst (IsAnswered c.in_ok-encoded.encoded c.args.budget) c.in-Spent.is c.in_ok-values.ensures)
