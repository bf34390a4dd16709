use Rattle.std.proofs.Common.{◌≡◌, ◌∙◌, ◌++◌, arith, ap, false}
use Rattle.std.specs.Prelude.{codes}
use Rattle.dimacs_text.proofs.TextLemmas.{line_more}
use Rattle.dimacs_text.proofs.show.value_text.Goals as goal

pub loop-v-preserved : goal.loop-v-preserved
loop-v-preserved c =
    let e = line_more (codes "v ") c.args.values.now c.loop-v.v false (omega arith) in
    cc (c.in_ok-put.ensures, c.loop-v.invariant, e)
