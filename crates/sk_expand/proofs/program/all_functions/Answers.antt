use Rattle.sk_expand.proofs.Whole.{funs_are}
use Rattle.sk_expand.proofs.program.all_functions.Goals as goal

pub returns : goal.returns
returns c =
    let took = rw (c.new-made.ensures, c.as_slice-2.ensures) at c.in_ok-take_consts.ensures in
    let goes = rw c.as_slice.ensures at c.in_ok-funs.ensures in
    funs_are c.args.prog.now c.args.bounds.now c.take_consts.new.made took c.functions.new.made c.in_ok-funs.funs.items c.in_ok-funs-2.funs goes c.in_ok-funs-2.ensures
