use Rattle.std.proofs.Common.{◌≡◌, drop, map}
use Rattle.std.specs.List.{list_any}
use Rattle.sk_adt_tags.specs.Tags.{work}
use Rattle.sk_adt_tags.proofs.stmt.+touches.Given as goal

abbrev pub invariant-any_touches-loop-stmt : goal.invariant-any_touches-loop-stmt
invariant-any_touches-loop-stmt l =
    list_any (λ w. w.touches l.x) (map (work l.ground.types.now l.ground.prog.now) (drop l.stmt-index l.stmts))
    ≡ list_any (λ w. w.touches l.x) (map (work l.ground.types.now l.ground.prog.now) l.stmts)
