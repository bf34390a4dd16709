use Rattle.std.proofs.Common.{◌≡◌, drop, map}
use Rattle.sk_adt.specs.Words.{each}
use Rattle.sk_adt_tags.specs.Tags.{first, fun_breaks}
use Rattle.sk_adt_tags.proofs.test.funs_broken.Given as goal

abbrev pub invariant-loop-fun : goal.invariant-loop-fun
invariant-loop-fun l =
    first (each (map (fun_breaks l.ground.types.now l.ground.prog.now) (drop l.fun-index l.funs)))
    ≡ first (each (map (fun_breaks l.ground.types.now l.ground.prog.now) l.funs))
