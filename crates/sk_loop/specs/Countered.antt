-- What a search for an input answers that speaks against one choice.
use Rattle.std.specs.Prelude.{ℕ, ◌≡◌, ◌<◌, List, length, All, Option}
use Rattle.sk_base.specs.declared.bounds.Bounds.{Bounds}
use Rattle.sk_clause.specs.declared.lit.Lit.{Lit}
use Rattle.sk_clause.specs.Meaning.{EachFollows, IsConsistent, NoneIncludes}
use Rattle.sk_cnf.specs.declared.growing.Encoded.{Encoded}
use Rattle.sk_cnf.specs.Formula.{Tight}
use Rattle.sk_model.specs.declared.expanded.Choice.{Choice}
use Rattle.sk_model.specs.declared.expanded.Expanded.{Expanded}
use Rattle.sk_oblig_queries.specs.declared.query.Query.{Query}
use Rattle.sk_oblig_queries.specs.declared.query.Query.TheVariants as query
use Rattle.sk_oblig_queries.specs.Queries.{AsksFor, IsBad}
use Rattle.sk_loop_laws.specs.Shown.{Completes}
use Rattle.sk_loop.specs.declared.countered.Countered.{Countered}
use Rattle.sk_loop.specs.declared.countered.Countered.TheVariants as countered

-- the query asks for an input of any obligation that speaks against the choice within the limit
abbrev pub IsBadQuery : Query → Choice → Option ℕ → Type 0
IsBadQuery (query.Bad c l) choice limit = (c ≡ choice) × (l ≡ limit)
IsBadQuery (query.BadAt c o l) choice limit = ⊥
IsBadQuery (query.Wanted inputs l) choice limit = ⊥

-- So many clauses were learnt from the formula of such a query.
pub record IsSpentOn (e : Expanded) (bounds : Bounds) (choice : Choice) (limit : Option ℕ) (count : ℕ) (q : Query) (f : Encoded) (log : List (List Lit)) : Type 0 where
  pub query : IsBadQuery q choice limit
  pub some : 0 < count
  pub long : length log ≡ count
  pub consistent : All IsConsistent log
  pub asks : AsksFor f e bounds q
  pub tight : Tight f
  pub follows : EachFollows f.clauses.clauses log
  pub fresh : NoneIncludes f.clauses.clauses log

abbrev pub IsCountered : Expanded → Bounds → Choice → Option ℕ → ℕ → Countered → Type 0
IsCountered e bounds choice limit count (countered.Input input) = IsBad e bounds choice limit input
IsCountered e bounds choice limit count countered.None = Completes e bounds limit choice
IsCountered e bounds choice limit count (countered.Conflicts q f log) = IsSpentOn e bounds choice limit count q f log
