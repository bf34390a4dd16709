-- What a look at one clause, and at all clauses, says.
use Rattle.std.specs.Prelude.{◌≡◌, ℕ, ◌<◌, List, [], All}
use Rattle.std.specs.List.{slice_index_or}
use Rattle.sk_clause.specs.declared.lit.Lit.{Lit}
use Rattle.sk_clause.specs.Values.{IsSettled, open_count}
use Rattle.sk_rup.specs.Steps.{Conflicts}
use Rattle.sk_rup.specs.declared.trail.Trail.{Trail}
use Rattle.sk_rup.specs.declared.look.Look.{Look}
use Rattle.sk_rup.specs.declared.look.Look.TheVariants.{Falsified, Forced, Settled}
use Rattle.sk_rup.specs.declared.look.Pass.{Pass}
use Rattle.sk_rup.specs.declared.look.Pass.TheVariants.{Falsified as Fails, More, Done}

abbrev pub IsLook : List (List Lit) → ℕ → Trail → Trail → Look → Type 0
IsLook known i old new Falsified = Conflicts known new.lits.items
IsLook known i old new Forced = open_count new.values.items < open_count old.values.items
IsLook known i old new (Settled a b) = (new ≡ old) × IsSettled old.values.items (slice_index_or known i [])

abbrev pub IsPass : List (List Lit) → Trail → Trail → Pass → Type 0
IsPass known old new Fails = Conflicts known new.lits.items
IsPass known old new More = open_count new.values.items < open_count old.values.items
IsPass known old new Done = (new ≡ old) × All (IsSettled old.values.items) known
