-- What the solver answers of a formula.
use Rattle.std.specs.Prelude.{ℕ, ◌≡◌, ◌<◌, List, length, All}
use Rattle.sk_clause.specs.declared.lit.Lit.{Lit}
use Rattle.sk_clause.specs.Meaning.{EachFollows, IsConsistent, Meets, NoneIncludes, valuation}
use Rattle.sk_cnf.specs.declared.growing.Encoded.{Encoded}
use Rattle.sk_oblig_queries.specs.Laws.{CannotBeMet}
use Rattle.sk_sat.specs.Search.{IsUnspent}
use Rattle.sk_loop_laws.specs.Laws.{with_learnt}
use Rattle.sk_loop.specs.declared.solving.Answered.{Answered}
use Rattle.sk_loop.specs.declared.solving.Answered.TheVariants as answered

-- So many clauses were learnt from g, which is the formula f and behind it what was learnt before.
pub record IsSpentFrom (f : Encoded) (count : ℕ) (g : Encoded) (log : List (List Lit)) : Type 0 where
  pub learnt : List (List Lit)
  pub known : EachFollows f.clauses.clauses learnt
  pub is : g ≡ with_learnt f learnt
  pub some : 0 < count
  pub long : length log ≡ count
  pub consistent : All IsConsistent log
  pub follows : EachFollows g.clauses.clauses log
  pub fresh : NoneIncludes g.clauses.clauses log

-- no values meet the clauses
pub record IsNever (f : Encoded) : Type 0 where
  pub none : CannotBeMet f

abbrev pub IsAnswered : Encoded → ℕ → Answered → Type 0
IsAnswered f count (answered.Met values) = Meets (valuation values) f.clauses.clauses
IsAnswered f count answered.Never = IsNever f
IsAnswered f count (answered.Spent g log) = IsSpentFrom f count g log

-- What a call that has learnt these clauses answers: with a budget, `Met` and `Never` come only where they are fewer than it says, and
-- `Spent` tells them.
abbrev pub IsOfCall : ℕ → List (List Lit) → Answered → Type 0
IsOfCall budget gained (answered.Met values) = IsUnspent budget gained
IsOfCall budget gained answered.Never = IsUnspent budget gained
IsOfCall budget gained (answered.Spent g log) = log ≡ gained
