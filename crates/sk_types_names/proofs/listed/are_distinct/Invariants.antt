use Rattle.std.proofs.Common.{◌≡◌, true, map, take}
use Rattle.sk_types_rules.specs.Scope.{all_distinct}
use Rattle.sk_types_names.specs.Tables.{ArePlaces}
use Rattle.sk_types_names.proofs.listed.are_distinct.Given as goal

-- the names so far are distinct, and the table has their places
abbrev pub invariant-loop-i : goal.invariant-loop-i
invariant-loop-i g l = record { places : ArePlaces l.places (map g.T.Named.name_of (take l.i l.items)); apart : all_distinct (map g.T.Named.name_of (take l.i l.items)) ≡ true }
