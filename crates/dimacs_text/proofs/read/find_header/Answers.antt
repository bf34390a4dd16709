use Rattle.std.proofs.Common.{◌≡◌}
use Rattle.dimacs_text.proofs.ReadLemmas.{silent_step, other_line, all_silent}
use Rattle.dimacs_text.proofs.read.find_header.Goals as goal

pub loop-i-preserved : goal.loop-i-preserved
loop-i-preserved c =
    let e = rw c.in-Ok-Silent.field-0-is at c.in-Ok-Silent.ensures in
    silent_step c.args.lines.now c.loop-i.i _ c.loop-i-test.true c.loop-i.invariant e

pub returns-in-Ok-Other-clause-err : goal.returns-in-Ok-Other-clause-err
returns-in-Ok-Other-clause-err c =
    let e = rw c.in-Ok-Other.field-0-is at c.in-Ok-Other.ensures in
    λ m q f. other_line c.args.lines.now c.loop-i.i _ c.loop-i-test.true c.loop-i.invariant e q f

pub returns-clause-err : goal.returns-clause-err
returns-clause-err c = λ m q f. all_silent c.args.lines.now c.loop-i.i c.loop-i-test.false c.loop-i.invariant q f
