use Rattle.std.proofs.Common.{◌≡◌, drop, map}
use Rattle.sk_adt_tags.specs.Tags.{first, work, all_of}
use Rattle.sk_adt_tags.proofs.stmt.+breaks.Given as goal

abbrev pub invariant-all_broken-loop-stmt : goal.invariant-all_broken-loop-stmt
invariant-all_broken-loop-stmt l =
    first ((all_of (map (work l.ground.types.now l.ground.prog.now) (drop l.stmt-index l.stmts))).breaks l.tests)
    ≡ first ((all_of (map (work l.ground.types.now l.ground.prog.now) l.stmts)).breaks l.tests)
