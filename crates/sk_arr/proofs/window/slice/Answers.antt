use Rattle.std.proofs.Common.{◌-◌, subst, arith}
use Rattle.sk_arr.specs.Steps.{AreReadFrom}
use Rattle.sk_arr.proofs.SliceLaws.{sliced}
use Rattle.sk_arr.proofs.window.slice.Goals as goal

pub returns-clause-sliced : goal.returns-clause-sliced
returns-clause-sliced c = sliced
    (subst (λ l. AreReadFrom c.elements_from.new.dag l c.args.from (c.len.result - (c.args.count - 1)) c.args.count c.in_ok-made.made) c.as_slice.ensures c.in_ok-made.ensures.read)
    (omega (arith, c.len.ensures, c.requires.some, c.requires.count))
    c.in_ok-outside.ensures.keeps c.in_ok-outside.ensures.there c.in_ok-outside.ensures.value
