use Rattle.std.proofs.Common.{◌≡◌, length, map}
use Rattle.sk_adt_tags.specs.Tags.{part, passes_to}
use Rattle.sk_adt_tags.proofs.expr.passes_to.Given as goal

abbrev pub invariant-loop-param : goal.invariant-loop-param
invariant-loop-param l =
    passes_to l.asked (map (part l.ground.types.now l.ground.prog.now) l.given) l.x
    ≡ passes_to l.params (map (part l.ground.types.now l.ground.prog.now) l.args) l.x

abbrev pub decreases-loop-param : goal.decreases-loop-param
decreases-loop-param l = length l.asked
