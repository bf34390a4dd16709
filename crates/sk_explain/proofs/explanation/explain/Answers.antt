use Rattle.std.proofs.Common.{arith}
use Rattle.sk_explain.proofs.AsciiLaws.{explained}
use Rattle.sk_explain.proofs.explanation.explain.Goals as goal

pub returns : goal.returns
returns c = explained c.args.text.now c.args.ending.now c.in_ok-explanation.explanation c.in_ok-out.out (omega arith) c.in_ok-explanation.ensures c.in_ok-out.ensures
