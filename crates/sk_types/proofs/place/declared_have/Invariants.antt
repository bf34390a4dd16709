use Rattle.std.proofs.Common.{◌≡◌, drop}
use Rattle.std.specs.List.{list_any}
use Rattle.sk_types.specs.Places.{declared_has}
use Rattle.sk_types.proofs.place.declared_have.Given as goal

-- what is to come decides
abbrev pub invariant-loop-declared : goal.invariant-loop-declared
invariant-loop-declared l = list_any (declared_has l.span) l.names ≡ list_any (declared_has l.span) (drop l.declared-index l.names)
