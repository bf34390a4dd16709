-- What a visit of a clause, and following up a literal, say.
use Rattle.std.specs.Prelude.{◌≡◌, Bool, true, List}
use Rattle.sk_clause.specs.declared.lit.Lit.{Lit}
use Rattle.sk_rup.specs.Steps.{Conflicts}
use Rattle.sk_rup.specs.declared.trail.Trail.{Trail}
use Rattle.sk_rup.specs.declared.watches.Visit.{Visit}
use Rattle.sk_rup.specs.declared.watches.Visit.TheVariants.{Falsified}

abbrev pub IsVisit : List (List Lit) → Trail → Visit → Type 0
IsVisit known t v = v ≡ Falsified → Conflicts known t.lits.items

abbrev pub IsSpread : List (List Lit) → Trail → Bool → Type 0
IsSpread known t found = found ≡ true → Conflicts known t.lits.items
