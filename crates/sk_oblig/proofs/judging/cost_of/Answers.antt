use Rattle.sk_oblig.proofs.Judged.{filling_costs}
use Rattle.sk_oblig.proofs.judging.cost_of.Goals as goal

pub returns : goal.returns
returns c = filling_costs c.args.input.now c.in_ok-obligation.obligation c.as_slice-args.result.now c.in_ok-cost.cost c.requires.askable c.requires.range c.in_ok-obligation.ensures c.as_slice-args.ensures c.in_ok-cost.ensures
