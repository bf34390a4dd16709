use Rattle.sk_oblig.proofs.Judged.{judged}
use Rattle.sk_oblig.proofs.judging.speaks.Goals as goal

pub returns : goal.returns
returns c = judged c.args.obligation c.args.args.now c.in_ok-shapes.shapes c.as_slice.result.now c.in_ok-root.root _ c.in_ok-yes.yes c.as_slice.ensures c.requires.range c.in_ok-root.ensures.keeps c.in_ok-shapes.ensures.constants c.in_ok-root.ensures.check c.in_ok-yes.ensures
