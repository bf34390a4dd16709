use Rattle.std.proofs.Common.{◌≡◌, drop}
use Rattle.sk_types_rules.specs.Scope.{place_of}
use Rattle.sk_types_names.proofs.Places.{past}
use Rattle.sk_adt.proofs.branch.place_of.Given as goal

abbrev pub invariant-loop-i : goal.invariant-loop-i
invariant-loop-i l = past l.i (place_of (drop l.i l.names) l.x) ≡ place_of l.names l.x
