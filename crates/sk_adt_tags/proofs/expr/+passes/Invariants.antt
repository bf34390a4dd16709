use Rattle.std.proofs.Common.{◌≡◌, drop, map}
use Rattle.std.specs.List.{list_any}
use Rattle.sk_adt_tags.specs.Tags.{part}
use Rattle.sk_adt_tags.specs.Fields.{field_part}
use Rattle.sk_adt_tags.proofs.expr.+passes.Given as goal

abbrev pub invariant-any_passes-loop-e : goal.invariant-any_passes-loop-e
invariant-any_passes-loop-e l =
    list_any (λ p. p.passes l.x) (map (part l.ground.types.now l.ground.prog.now) (drop l.e-index l.es))
    ≡ list_any (λ p. p.passes l.x) (map (part l.ground.types.now l.ground.prog.now) l.es)

abbrev pub invariant-any_field_passes-loop-field : goal.invariant-any_field_passes-loop-field
invariant-any_field_passes-loop-field l =
    list_any (λ p. p.passes l.x) (map (λ f. f.1) (map (field_part l.ground.types.now l.ground.prog.now) (drop l.field-index l.fields)))
    ≡ list_any (λ p. p.passes l.x) (map (λ f. f.1) (map (field_part l.ground.types.now l.ground.prog.now) l.fields))
