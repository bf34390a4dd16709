-- What a scan of a clause says.
use Rattle.std.specs.Prelude.{Bool, Option, List, All}
use Rattle.sk_clause.specs.declared.lit.Lit.{Lit}
use Rattle.sk_clause.specs.Values.{Fails, IsSettled, LeavesOne}
use Rattle.sk_sat.specs.declared.values.Scan.{Scan}
use Rattle.sk_sat.specs.declared.values.Scan.TheVariants.{Falsified, Unit as Forces, Settled}

abbrev pub IsScan : List (Option Bool) → List Lit → Scan → Type 0
IsScan values c Falsified = All (Fails values) c
IsScan values c (Forces l) = LeavesOne values c l
IsScan values c (Settled a b) = IsSettled values c
