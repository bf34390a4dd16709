-- What is left where a budget is spent before there is a proof.
use Rattle.std.specs.Prelude.{ℕ, List}
use Rattle.sk_base.specs.declared.bounds.Bounds.{Bounds}
use Rattle.sk_clause.specs.declared.lit.Lit.{Lit}
use Rattle.sk_model.specs.declared.expanded.Expanded.{Expanded}
use Rattle.sk_cnf.specs.declared.growing.Encoded.{Encoded}
use Rattle.sk_cnf.specs.Formula.{Tight}
use Rattle.sk_oblig_queries.specs.declared.query.Query.{Query}
use Rattle.sk_oblig_queries.specs.Queries.{AsksFor}
use Rattle.sk_loop_refuted.specs.Refuted.{IsSpent}
use Rattle.sk_min_certify.specs.declared.stop.Stop.{Stop}
use Rattle.sk_min_certify.specs.declared.stop.Stop.TheVariants as stop

-- The formula asks for the query in one way, and so many clauses as the budget says were learnt from it and from nothing
-- else.
pub record IsLearnt (e : Expanded) (bounds : Bounds) (count : ℕ) (q : Query) (f : Encoded) (log : List (List Lit)) : Type 0 where
  pub asks : AsksFor f e bounds q
  pub tight : Tight f
  pub spent : IsSpent f count log

-- The budget is spent on such a query, or memory is wanting.
abbrev pub IsStop : Expanded → Bounds → (Query → Type 0) → ℕ → Stop → Type 0
IsStop e bounds Such count stop.Memory = Unit {0}
IsStop e bounds Such count (stop.Spent q f log) = Such q × IsLearnt e bounds count q f log
