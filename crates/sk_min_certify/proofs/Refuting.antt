-- What the answers of a solver say of a query that asks for nothing.
use Rattle.std.proofs.Common.{◌≡◌, ℕ, Bool, List, map, refl}
use Rattle.sk_base.specs.declared.bounds.Bounds.{Bounds}
use Rattle.sk_clause.specs.declared.lit.Lit.{Lit}
use Rattle.sk_clause.specs.Meaning.{valuation}
use Rattle.sk_clause.specs.Problem.{AreWithin}
use Rattle.sk_model.specs.declared.expanded.Expanded.{Expanded}
use Rattle.sk_cnf.specs.declared.growing.Encoded.{Encoded}
use Rattle.sk_cnf.specs.Formula.{Tight}
use Rattle.sk_oblig_queries.specs.declared.query.Query.{Query}
use Rattle.sk_oblig_queries.specs.Queries.{AsksFor}
use Rattle.sk_oblig_queries.proofs.Asking.{asked}
use Rattle.sk_loop_refuted.specs.Refuted.{IsRefutation, IsSolution, IsSpent}
use Rattle.sk_min_certify.specs.declared.stop.Stop.{Stop}
use Rattle.sk_min_certify.specs.declared.stop.Stop.TheVariants as stop
use Rattle.sk_min_certify.specs.Proves.{IsVain, Proves}
use Rattle.sk_min_certify.specs.Stops.{IsStop}

-- its formula has no solution
pub unmet : (e : Expanded) (bounds : Bounds) (q : Query) (f : Encoded) (values : List Bool) → AsksFor f e bounds q → IsVain e bounds q → IsSolution f values → ⊥
unmet e bounds q f values asks vain solution =
    let bits = map (valuation values) f.names in vain bits (asked f (valuation values) bits refl solution.meets e bounds q asks)

-- a refutation is a proof
pub proved : (e : Expanded) (bounds : Bounds) (q : Query) (f : Encoded) (count : ℕ) (log : List (List Lit)) → AsksFor f e bounds q → Tight f → AreWithin f.clauses.vars f.clauses.clauses → IsRefutation f count log → Proves e bounds q (record { formula = f; log = log })
proved e bounds q f count log asks tight within refutation = record {
  asks = asks;
  tight = tight;
  refutes = refutation.refutes;
  variables = record { names = asks.within; clauses = within; log = refutation.within };
}

-- a spent budget stops
pub spent : (e : Expanded) (bounds : Bounds) (q : Query) (f : Encoded) (count : ℕ) (log : List (List Lit)) → AsksFor f e bounds q → Tight f → IsSpent f count log → IsStop e bounds (λ r. r ≡ q) count (stop.Spent q f log)
spent e bounds q f count log asks tight s = (refl, record { asks = asks; tight = tight; spent = s })

-- and is one for every wider kind of queries
pub stop_wider : (e : Expanded) (bounds : Bounds) (Such Other : Query → Type 0) (count : ℕ) (s : Stop) → ((q : Query) → Such q → Other q) → IsStop e bounds Such count s → IsStop e bounds Other count s
stop_wider e bounds Such Other count stop.Memory more h = tt
stop_wider e bounds Such Other count (stop.Spent q f log) more h = (more q h.0, h.1)

pub ruleset proving = (unmet, proved, spent)
