use Rattle.std.proofs.Common.{◌≡◌, drop}
use Rattle.sk_types_rules.specs.Scope.{lookup, latest}
use Rattle.sk_types_rules.proofs.scope.lookup.Given as goal

-- what is found among all is what is found in those to come, after what was found so far
abbrev pub invariant-loop-slot : goal.invariant-loop-slot
invariant-loop-slot l = lookup l.scope l.name ≡ latest l.slot l.found (drop l.slot l.scope) l.name
