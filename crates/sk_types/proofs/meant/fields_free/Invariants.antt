use Rattle.std.proofs.Common.{◌≡◌, drop}
use Rattle.std.specs.List.{list_all}
use Rattle.sk_prog.specs.declared.prog.FieldDef.{FieldDef}
use Rattle.sk_types_rules.specs.Types.{is_free}
use Rattle.sk_types.proofs.meant.fields_free.Given as goal

-- the fields to come decide
abbrev pub invariant-loop-field : goal.invariant-loop-field
invariant-loop-field l = list_all (λ (y : FieldDef). is_free y.name) l.fields ≡ list_all (λ (y : FieldDef). is_free y.name) (drop l.field-index l.fields)
