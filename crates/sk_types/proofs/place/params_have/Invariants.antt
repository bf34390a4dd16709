use Rattle.std.proofs.Common.{◌≡◌, drop}
use Rattle.std.specs.List.{list_any}
use Rattle.sk_types.specs.Places.{param_has}
use Rattle.sk_types.proofs.place.params_have.Given as goal

-- what is to come decides
abbrev pub invariant-loop-param : goal.invariant-loop-param
invariant-loop-param l = list_any (param_has l.span) l.params ≡ list_any (param_has l.span) (drop l.param-index l.params)
