-- What follows where the clauses of a formula cannot be met: nothing is what its query asks for.
use Rattle.std.specs.Prelude.{ℕ, ◌≡◌, ◌≤◌, ◌^◌, Bool, List, All, Option, Some}
use Rattle.sk_base.specs.declared.bounds.Bounds.{Bounds}
use Rattle.sk_clause.specs.Meaning.{Meets}
use Rattle.sk_model.specs.declared.expanded.Choice.{Choice}
use Rattle.sk_model.specs.declared.expanded.Expanded.{Expanded}
use Rattle.sk_model.specs.declared.expanded.Input.{Input}
use Rattle.sk_model.specs.declared.expanded.Site.{Site}
use Rattle.sk_cnf.specs.declared.growing.Encoded.{Encoded}
use Rattle.sk_oblig_queries.specs.declared.query.Query.TheVariants as query
use Rattle.sk_oblig_queries.specs.Queries.{AsksFor, IsBad, IsWanted}

-- no values of the variables make each clause true
abbrev pub CannotBeMet : Encoded → Type 0
CannotBeMet f = (v : ℕ → Bool) → Meets v f.clauses.clauses → ⊥

-- no site has more values than 64 bits say
abbrev pub AreSmall : List Site → Type 0
AreSmall sites = All (λ (s : Site). s.size ≤ 2 ^ 64) sites

-- no choice in range passes
abbrev pub NothingIsWanted : Type 0
NothingIsWanted = (f : Encoded) (e : Expanded) (bounds : Bounds) (inputs : List Input) (limit : Option ℕ) → AreSmall e.sites → AsksFor f e bounds (query.Wanted inputs limit) → CannotBeMet f → (choice : Choice) → IsWanted e bounds inputs limit choice → ⊥

-- no input speaks against the choice
abbrev pub NothingIsBad : Type 0
NothingIsBad = (f : Encoded) (e : Expanded) (bounds : Bounds) (choice : Choice) (limit : Option ℕ) → AsksFor f e bounds (query.Bad choice limit) → CannotBeMet f → (input : Input) → IsBad e bounds choice limit input → ⊥

-- no input of the obligation with this number does
abbrev pub NothingIsBadAt : Type 0
NothingIsBadAt = (f : Encoded) (e : Expanded) (bounds : Bounds) (choice : Choice) (limit : ℕ) (o : ℕ) → AsksFor f e bounds (query.BadAt choice o limit) → CannotBeMet f → (input : Input) → input.obligation ≡ o → IsBad e bounds choice (Some limit) input → ⊥
