use Rattle.std.proofs.Common.{◌≡◌, drop}
use Rattle.std.specs.Prelude.{map}
use Rattle.sk_types.specs.Places.{some_yes, expr_has, field_has}
use Rattle.sk_types.proofs.place.+expr.Given as goal

-- what is to come decides
abbrev pub invariant-exprs_have-loop-e : goal.invariant-exprs_have-loop-e
invariant-exprs_have-loop-e l = some_yes (map (expr_has l.span) l.es) ≡ some_yes (map (expr_has l.span) (drop l.e-index l.es))

abbrev pub invariant-fields_have-loop-field : goal.invariant-fields_have-loop-field
invariant-fields_have-loop-field l = some_yes (map (field_has l.span) l.fields) ≡ some_yes (map (field_has l.span) (drop l.field-index l.fields))
