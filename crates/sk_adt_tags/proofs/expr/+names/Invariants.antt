use Rattle.std.proofs.Common.{◌≡◌, drop, map}
use Rattle.std.specs.List.{list_any}
use Rattle.sk_adt_tags.specs.Tags.{part}
use Rattle.sk_adt_tags.proofs.expr.+names.Given as goal

abbrev pub invariant-any_may_be-loop-e : goal.invariant-any_may_be-loop-e
invariant-any_may_be-loop-e l =
    list_any (λ p. p.may_be l.x) (map (part l.ground.types.now l.ground.prog.now) (drop l.e-index l.es))
    ≡ list_any (λ p. p.may_be l.x) (map (part l.ground.types.now l.ground.prog.now) l.es)
