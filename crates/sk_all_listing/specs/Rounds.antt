-- What the rounds leave behind.
use Rattle.std.specs.Prelude.{ℕ, ◌≡◌, List, length, All, Contains, Option, Some, None}
use Rattle.sk_base.specs.declared.bounds.Bounds.{Bounds}
use Rattle.sk_model.specs.declared.expanded.Choice.{Choice}
use Rattle.sk_model.specs.declared.expanded.Expanded.{Expanded}
use Rattle.sk_model.specs.declared.expanded.Input.{Input}
use Rattle.sk_model.specs.Stands.{AgreeWhereStands}
use Rattle.sk_min_laws.specs.Best.{Meeting}
use Rattle.sk_oblig_queries.specs.Queries.{IsWanted}
use Rattle.sk_all_exclusions.specs.declared.listed.Listed.{Listed}
use Rattle.sk_all_exclusions.specs.Exclusions.{IsListed}
use Rattle.sk_all_listing.specs.declared.rounds.Turn.{Turn}
use Rattle.sk_all_listing.specs.declared.rounds.Turn.TheVariants as turn
use Rattle.sk_all_listing.specs.Completions.{AreListedChoices, IsAmong, choices_of}

-- What is listed so far may be answered, and is marked.
pub record AreListed (e : Expanded) (bounds : Bounds) (ls : List Listed) : Type 0 where
  pub marked : All (IsListed e) ls
  pub choices : AreListedChoices e bounds (choices_of ls)

-- None that is listed agrees with the choice where its sites stand.
pub record IsUnlisted (e : Expanded) (ls : List Listed) (d : Choice) : Type 0 where
  pub none : All (λ (l : Listed). AgreeWhereStands e l.choice.values d.values → ⊥) ls

-- a choice that passes the inputs and agrees with none that is listed; or none, and each that passes them agrees with one
abbrev pub IsProposed : Expanded → Bounds → List Input → List Listed → Option Choice → Type 0
IsProposed e bounds inputs ls (Some d) = IsWanted e bounds inputs None d × IsUnlisted e ls d
IsProposed e bounds inputs ls None = (b : Choice) → IsWanted e bounds inputs None b → (l : Listed) × Contains ls l × AgreeWhereStands e l.choice.values b.values

-- a further round; or each completion agrees with one that is listed; or there are so many, and some completion agrees with none
abbrev pub IsTurn : Expanded → Bounds → ℕ → List Listed → Turn → Type 0
IsTurn e bounds most ls turn.Again = Unit {0}
IsTurn e bounds most ls turn.Ended = (b : Choice) → Meeting e bounds b → IsAmong e (choices_of ls) b
IsTurn e bounds most ls turn.Full = (length ls ≡ most) × ((d : Choice) × Meeting e bounds d × (IsAmong e (choices_of ls) d → ⊥))
