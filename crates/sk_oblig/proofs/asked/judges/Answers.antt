use Rattle.sk_oblig.proofs.Speaking.{with_inputs}
use Rattle.sk_oblig.proofs.asked.judges.Goals as goal

pub returns-clause-bad : goal.returns-clause-bad
returns-clause-bad c = with_inputs c.args.obligation c.args.first c.params_of.result.now c.in_ok-args.args c.as_slice.result.now c.in_ok-r.r c.requires.width c.requires.inbits c.requires.range c.requires.any c.params_of.ensures c.as_slice.ensures c.in_ok-args.ensures.keeps c.in_ok-r.ensures.keeps c.in_ok-args.ensures.arguments c.in_ok-r.ensures.check
