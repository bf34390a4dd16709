use Rattle.std.proofs.Common.{◌≡◌, drop}
use Rattle.std.specs.List.{list_any}
use Rattle.sk_types.specs.Places.{struct_field_has}
use Rattle.sk_types.proofs.place.struct_fields_have.Given as goal

-- what is to come decides
abbrev pub invariant-loop-field : goal.invariant-loop-field
invariant-loop-field l = list_any (struct_field_has l.span) l.fields ≡ list_any (struct_field_has l.span) (drop l.field-index l.fields)
