use Rattle.std.proofs.Common.{◌≡◌, length, take}
use Rattle.sk_types_names.proofs.scope.Scope.leave.Given as goal

-- the oldest ones are left
abbrev pub invariant-loop-self : goal.invariant-loop-self
invariant-loop-self l = take l.count l.self ≡ take l.count l.initial.self

abbrev pub decreases-loop-self : goal.decreases-loop-self
decreases-loop-self l = length l.self
