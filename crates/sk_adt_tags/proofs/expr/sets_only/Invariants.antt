use Rattle.std.proofs.Common.{◌≡◌, drop, map}
use Rattle.std.specs.Prelude.{Some}
use Rattle.std.specs.List.{list_all}
use Rattle.sk_adt_tags.specs.Tags.{is_of, role_in}
use Rattle.sk_adt_tags.specs.Fields.{field_part}
use Rattle.sk_adt_tags.proofs.expr.sets_only.Given as goal

abbrev pub invariant-loop-field : goal.invariant-loop-field
invariant-loop-field l =
    list_all (λ f. is_of l.variant (role_in (Some l.ty) f.0)) (map (field_part l.ground.types.now l.ground.prog.now) (drop l.field-index l.fields))
    ≡ list_all (λ f. is_of l.variant (role_in (Some l.ty) f.0)) (map (field_part l.ground.types.now l.ground.prog.now) l.fields)
