use Rattle.std.proofs.Common.{◌≡◌}
use Rattle.sk_prog.specs.declared.stmt.PForm.TheVariants as form
use Rattle.sk_adt_tags.proofs.Ifs.{if_first}
use Rattle.sk_adt_tags.proofs.stmt.+breaks.Goals as goal

pub broken-returns-in_ok-second-in-If : goal.broken-returns-in_ok-second-in-If
broken-returns-in_ok-second-in-If t c =
    let is : c.args.stmt.now.form ≡ form.If c.in-If.cond c.get.result.now c.in-If.other = cc (c.in-If.is, c.get.ensures) in
    if_first c.args.ground.now.types.now c.args.ground.now.prog.now c.args.stmt.now c.in-If.cond c.get.result.now c.in-If.other c.args.tests.now c.in_ok-first-in-If.first c.in_ok-second-in-If.second c.or-in-If.result is c.or-in-If.ensures c.in_ok-first-in-If.ensures c.in_ok-second-in-If.ensures
