use Rattle.sk_oblig.proofs.Judged.{run_costs}
use Rattle.sk_oblig.proofs.judging.cost_of_run.Goals as goal

pub returns : goal.returns
returns c = run_costs c.args.f c.args.args.now c.in_ok-shapes.shapes c.as_slice.result.now c.in_ok-made.made _ c.in_ok-cost.cost c.as_slice.ensures c.requires.range c.in_ok-made.ensures.keeps c.in_ok-shapes.ensures.constants c.in_ok-made.ensures.outcome c.in_ok-cost.ensures
