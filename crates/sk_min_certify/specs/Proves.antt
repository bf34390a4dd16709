-- What a proof shows of a query, and when there is one.
use Rattle.std.specs.Prelude.{ℕ, Bool, List, Option}
use Rattle.sk_base.specs.declared.bounds.Bounds.{Bounds}
use Rattle.sk_clause.specs.Meaning.{Refutes}
use Rattle.sk_model.specs.declared.expanded.Choice.{Choice}
use Rattle.sk_model.specs.declared.expanded.Expanded.{Expanded}
use Rattle.sk_model.specs.declared.expanded.Input.{Input}
use Rattle.sk_cnf.specs.Formula.{Tight}
use Rattle.sk_oblig_queries.specs.declared.query.Query.{Query}
use Rattle.sk_oblig_queries.specs.Queries.{AsksFor, Holds, IsWanted}
use Rattle.sk_cert.specs.declared.certificate.Proof.{Proof}
use Rattle.sk_cert.specs.Certificates.{HasItsVariables}

-- The formula asks for the query in one way, the log refutes its clauses, and each name and each literal is one of its
-- variables.
pub record Proves (e : Expanded) (bounds : Bounds) (q : Query) (p : Proof) : Type 0 where
  pub asks : AsksFor p.formula e bounds q
  pub tight : Tight p.formula
  pub refutes : Refutes p.formula.clauses.clauses p.log
  pub variables : HasItsVariables p

-- no bits say what the query asks for
abbrev pub IsVain : Expanded → Bounds → Query → Type 0
IsVain e bounds q = (bits : List Bool) → Holds e bounds q bits → ⊥

-- no choice in range passes the inputs within the limit
abbrev pub NoneIsWanted : Expanded → Bounds → List Input → Option ℕ → Type 0
NoneIsWanted e bounds inputs limit = (b : Choice) → IsWanted e bounds inputs limit b → ⊥
