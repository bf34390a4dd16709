use Rattle.std.proofs.Common.{◌≡◌, drop, ◌++◌}
use Rattle.sk_types_rules.specs.Types.{parameters}
use Rattle.sk_types.proofs.bodies.parameters.Given as goal

-- the parameters so far and those to come
abbrev pub invariant-loop-param : goal.invariant-loop-param
invariant-loop-param l = parameters l.params ≡ l.scope ++ parameters (drop l.param-index l.params)
