use Rattle.std.proofs.Common.{◌≡◌, drop}
use Rattle.std.specs.Prelude.{map}
use Rattle.std.specs.List.{list_all}
use Rattle.sk_types_rules.specs.Plain.{is_yes, is_steady}
use Rattle.sk_types_plain.specs.Steady.{field_is_steady}
use Rattle.sk_types_plain.proofs.steady.+steady.Given as goal

-- what is to come decides
abbrev pub invariant-all_steady-loop-e : goal.invariant-all_steady-loop-e
invariant-all_steady-loop-e l = list_all is_yes (map is_steady l.es) ≡ list_all is_yes (map is_steady (drop l.e-index l.es))

abbrev pub invariant-fields_steady-loop-field : goal.invariant-fields_steady-loop-field
invariant-fields_steady-loop-field l = list_all is_yes (map field_is_steady l.fields) ≡ list_all is_yes (map field_is_steady (drop l.field-index l.fields))
