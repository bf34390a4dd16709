use Rattle.std.proofs.Common.{◌≡◌, ◌+◌, suc, arith, codes}
use Rattle.std.proofs.lemmas.Grind.{common_steps}
use Rattle.sk_print.proofs.Mapped.{repeat_more}
use Rattle.sk_print.proofs.stmt.push_indentation.Goals as goal

pub loop-preserved : goal.loop-preserved
loop-preserved c =
    let one : c.loop.counter + 1 ≡ suc c.loop.counter = omega arith in
    let more = repeat_more c.loop.counter (c.loop.counter + 1) (codes "    ") one in
    grind (arith, common_steps, more)
