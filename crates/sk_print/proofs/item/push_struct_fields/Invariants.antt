use Rattle.std.proofs.Common.{◌≡◌, ◌++◌, drop}
use Rattle.std.specs.List.{flat_map}
use Rattle.sk_print.specs.Layout.{struct_field_layout}
use Rattle.sk_print.proofs.item.push_struct_fields.Given as goal

abbrev pub invariant-loop-field : goal.invariant-loop-field
invariant-loop-field l =
    l.out.items ++ flat_map (struct_field_layout l.fn.prog) (drop l.field-index l.fields)
    ≡ l.fn.out.items ++ flat_map (struct_field_layout l.fn.prog) l.fields
