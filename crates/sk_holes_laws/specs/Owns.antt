-- What filling makes of an own type. A number of 2 or more in place of a hole is an integer by itself, and a
-- string in place of a pattern may have its type by itself, where the hole and the pattern were loose; and
-- `c ? a : b` of a firm and a loose part takes the type of its place with them. Nothing else changes.
use Rattle.std.specs.Prelude.{◌≡◌, ◌⊎◌, IsTrue}
use Rattle.sk_prog.specs.declared.ty.Ty.{Ty}
use Rattle.sk_types_rules.specs.declared.rules.Own.{Own}
use Rattle.sk_types_rules.specs.declared.rules.Own.TheVariants.{Wrong, Loose, Firm}
use Rattle.sk_types_rules.specs.Rules.{fits}

-- what has this own type may stand where this type is wanted
abbrev pub MayStand : Own → Ty → Type 0
MayStand Wrong t = ⊥
MayStand Loose t = Unit {0}
MayStand (Firm u) t = IsTrue (fits u t)

-- an expression has the second own type where it had the first, or has the type at which it stands
abbrev pub Stays : Own → Own → Ty → Type 0
Stays x y t = (y ≡ x) ⊎ (y ≡ Firm t)
